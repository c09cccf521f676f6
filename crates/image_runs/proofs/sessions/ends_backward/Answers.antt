use Rattle.image_runs.proofs.Bounds.{shown_backward, waits_backward, misfits_backward, full_beside}
use Rattle.image_runs.proofs.sessions.ends_backward.Goals as goal

pub returns-clause-shown : goal.returns-clause-shown
returns-clause-shown g c = λ x told. shown_backward (g.T.Selection.model x told)

pub returns-clause-waits : goal.returns-clause-waits
returns-clause-waits g c = λ x told. waits_backward (g.T.Selection.model x told)

pub returns-clause-misfits : goal.returns-clause-misfits
returns-clause-misfits g c = λ x told. misfits_backward (g.T.Selection.model x told)

pub returns-clause-full : goal.returns-clause-full
returns-clause-full g c = λ x told. full_beside (g.T.Selection.model x told)
