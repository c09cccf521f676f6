use Rattle.trace_meaning.proofs.JoiningLegs.{run-laws}
use Rattle.trace_meaning.proofs.laws.runs_of_programs.Goals as goal

pub returns : goal.returns
returns g c = λ a. run-laws a
