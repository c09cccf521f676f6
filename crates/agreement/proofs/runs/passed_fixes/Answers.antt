use Rattle.agreement.proofs.Narrowing.{passed_fixes}
use Rattle.agreement.proofs.runs.passed_fixes.Goals as goal

pub returns : goal.returns
returns c = passed_fixes
