use Rattle.image_runs.proofs.Calls.{going_calls, shown_calls}
use Rattle.image_runs.proofs.sessions.calls_are_had.Goals as goal

pub returns-clause-going : goal.returns-clause-going
returns-clause-going g c = λ x told. going_calls (g.T.Selection.model x told)

pub returns-clause-shown : goal.returns-clause-shown
returns-clause-shown g c = λ x told. shown_calls (g.T.Selection.model x told)
