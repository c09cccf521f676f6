use Rattle.std.proofs.Common.{◌≡◌, length}
use Rattle.text_lines.specs.Words.{words}
use Rattle.session_text.specs.Start.{begin, run}
use Rattle.session_text.proofs.start.start_at.Given as goal

abbrev pub invariant-loop-word : goal.invariant-loop-word
invariant-loop-word l = run l.names l.start (words l.rest) ≡ run l.names begin (words l.text)

abbrev pub decreases-loop-word : goal.decreases-loop-word
decreases-loop-word l = length l.rest
