use Rattle.agreement.proofs.Renaming.{calls_are_same}
use Rattle.agreement.proofs.more.calls_are_same.Goals as goal

pub returns : goal.returns
returns c = calls_are_same
