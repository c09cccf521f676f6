use Rattle.trace_text.proofs.Again.{line_again}
use Rattle.trace_text.proofs.SpelledLine.{spelled_back}
use Rattle.trace_text.proofs.laws.line_laws.Goals as goal

pub returns-clause-read : goal.returns-clause-read
returns-clause-read c = spelled_back

pub returns-clause-spelled : goal.returns-clause-spelled
returns-clause-spelled c = line_again
