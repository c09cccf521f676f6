use Rattle.trace_meaning.specs.Recorded.{recorded}
use Rattle.trace_meaning.proofs.LegRuns.{leg-made, leg-made_within}
use Rattle.trace_meaning.proofs.Ending.{recorded-ends}
use Rattle.trace_meaning.proofs.Longest.{traces-short}
use Rattle.trace_meaning.proofs.laws.recorded_legs_are_runs.Goals as goal

pub returns-clause-any : goal.returns-clause-any
returns-clause-any c = λ set cuts p vs w. leg-made (recorded set cuts) p vs w

pub returns-clause-well_formed : goal.returns-clause-well_formed
returns-clause-well_formed c = λ set cuts p vs w well there. leg-made_within (recorded set cuts) p vs w (recorded-ends set cuts p well there)

pub returns-clause-short : goal.returns-clause-short
returns-clause-short c = λ set cuts most well some few. traces-short set cuts most well some few
