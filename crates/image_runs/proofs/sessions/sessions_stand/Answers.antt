use Rattle.image_runs.proofs.AnyEvents.{step_keeps, run_keeps}
use Rattle.image_runs.proofs.sessions.sessions_stand.Goals as goal

pub returns-clause-step : goal.returns-clause-step
returns-clause-step g c = λ x told ps i im s t quiet stands. step_keeps c.lower_laws.ensures (g.T.Selection.model x told) quiet ps i im stands s t

pub returns-clause-run : goal.returns-clause-run
returns-clause-run g c = λ x told ps i im s t quiet stands. run_keeps c.lower_laws.ensures (g.T.Selection.model x told) quiet ps i im stands s t
