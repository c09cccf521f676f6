use Rattle.std.proofs.Common.{◌≡◌, length}
use Rattle.text_lines.specs.Words.{words}
use Rattle.trace_text.specs.Line.{start, go, run}
use Rattle.trace_text.proofs.line.from.Given as goal

abbrev pub invariant-loop-word : goal.invariant-loop-word
invariant-loop-word l = run l.names l.line (words l.rest) ≡ run l.names (go start l.fn.place) (words l.text)

abbrev pub decreases-loop-word : goal.decreases-loop-word
decreases-loop-word l = length l.rest
