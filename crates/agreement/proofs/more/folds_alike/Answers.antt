use Rattle.agreement.proofs.Folding.{folds_alike}
use Rattle.agreement.proofs.more.folds_alike.Goals as goal

pub returns : goal.returns
returns c = folds_alike
