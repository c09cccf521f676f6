use Rattle.trace_meaning.proofs.ProgressRuns.{runs-make_progress}
use Rattle.trace_meaning.proofs.laws.runs_make_progress.Goals as goal

pub returns : goal.returns
returns c = λ set start inputs answers cuts n range well starts. runs-make_progress c.equality_decides.ensures.box set cuts range well start inputs answers n starts
