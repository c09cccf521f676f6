use Rattle.std.proofs.Common.{length}
use Rattle.session_text.specs.Names.{names_of}
use Rattle.session_text.specs.Reading.{lines_at}
use Rattle.session_text.proofs.LineByLine.{SoFar}
use Rattle.session_text.proofs.reading.read_all.Given as goal

abbrev pub invariant-loop-rest : goal.invariant-loop-rest
invariant-loop-rest l = SoFar l.set (lines_at (names_of l.set) l.set l.first_line l.text) l.number l.rest l.session

abbrev pub decreases-loop-rest : goal.decreases-loop-rest
decreases-loop-rest l = length l.rest
