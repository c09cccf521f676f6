use Rattle.trace_meaning.specs.Recorded.{recorded}
use Rattle.trace_meaning.proofs.JoiningLegs.{run-laws}
use Rattle.trace_meaning.proofs.GrowingRuns.{recorded-steps_grow}
use Rattle.trace_meaning.proofs.laws.recorded_runs.Goals as goal

pub returns : goal.returns
returns c = λ set cuts. (run-laws (recorded set cuts), recorded-steps_grow set cuts)
