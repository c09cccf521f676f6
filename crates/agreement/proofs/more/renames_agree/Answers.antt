use Rattle.agreement.proofs.Renaming.{renames_agree}
use Rattle.agreement.proofs.more.renames_agree.Goals as goal

pub returns : goal.returns
returns c = renames_agree
