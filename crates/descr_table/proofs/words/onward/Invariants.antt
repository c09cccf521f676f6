use Rattle.std.proofs.Common.{◌≡◌, length}
use Rattle.text_lines.specs.Words.{words}
use Rattle.descr_table.specs.Words.{onward}
use Rattle.descr_table.proofs.words.onward.Given as goal

abbrev pub invariant-loop-word : goal.invariant-loop-word
invariant-loop-word l = onward l.key (words l.rest) ≡ onward l.key (words l.line)

abbrev pub decreases-loop-word : goal.decreases-loop-word
decreases-loop-word l = length l.rest
