use Rattle.trace_meaning.specs.Recorded.{recorded}
use Rattle.opt_meaning.specs.Pieces.{pieces}
use Rattle.trace_meaning.specs.Sound.{CanBegin}
use Rattle.opt_meaning.proofs.Chain.{paired}
use Rattle.opt_meaning.proofs.laws.legs_stay_paired.Goals as goal

pub returns : goal.returns
returns c = λ set ps cuts k h n x y z. paired set.table (recorded set cuts) (pieces set ps cuts) k (CanBegin set) h n x y z
