use Rattle.agreement.proofs.Renaming.{entry_starts}
use Rattle.agreement.proofs.more.entry_starts.Goals as goal

pub returns : goal.returns
returns c = entry_starts c.equality_decides.ensures.box
