use Rattle.trace_meaning.proofs.ThereRuns.{runs-there}
use Rattle.trace_meaning.proofs.laws.what_is_named_is_there.Goals as goal

pub returns : goal.returns
returns c = λ set start inputs answers cuts n range well starts. runs-there c.equality_decides.ensures.box set start inputs answers cuts n range well starts
