use Rattle.text_lines.proofs.LineLaws.{length-lines}
use Rattle.text_lines.proofs.laws.lines_are_few.Goals as goal

pub returns : goal.returns
returns c = length-lines
