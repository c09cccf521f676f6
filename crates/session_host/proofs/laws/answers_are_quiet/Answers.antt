use Rattle.session_host.proofs.Instructing.{answers_are_quiet}
use Rattle.session_host.proofs.laws.answers_are_quiet.Goals as goal

pub returns : goal.returns
returns c = answers_are_quiet
