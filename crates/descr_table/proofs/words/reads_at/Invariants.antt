use Rattle.std.proofs.Common.{◌≡◌, [], length}
use Rattle.text_lines.specs.Words.{words}
use Rattle.descr_table.specs.Words.{reads_at}
use Rattle.descr_table.proofs.words.reads_at.Given as goal

abbrev pub invariant-loop-word : goal.invariant-loop-word
invariant-loop-word l = reads_at l.found.items (words l.rest) ≡ reads_at [] (words l.line)

abbrev pub decreases-loop-word : goal.decreases-loop-word
decreases-loop-word l = length l.rest
