use Rattle.std.proofs.Common.{length}
use Rattle.trace_text.specs.Draft.{lines_at}
use Rattle.trace_text.proofs.LineByLine.{SoFar}
use Rattle.trace_text.proofs.reading.read_all.Given as goal

abbrev pub invariant-loop-rest : goal.invariant-loop-rest
invariant-loop-rest l = SoFar l.names (lines_at l.names l.first_line l.text) l.number l.rest l.draft

abbrev pub decreases-loop-rest : goal.decreases-loop-rest
decreases-loop-rest l = length l.rest
