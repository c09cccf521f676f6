use Rattle.agreement.proofs.Narrowing.{passed_narrows, zero_is_compared}
use Rattle.agreement.proofs.runs.passed_narrows.Goals as goal

pub returns : goal.returns
returns c = record { narrows = passed_narrows; zero = zero_is_compared }
