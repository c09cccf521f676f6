use Rattle.trace_check.proofs.Least.{refused, one_least}
use Rattle.trace_check.proofs.laws.check_laws.Goals as goal

pub returns-clause-refused : goal.returns-clause-refused
returns-clause-refused c = refused

pub returns-clause-one : goal.returns-clause-one
returns-clause-one c = one_least
