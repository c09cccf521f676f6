use Rattle.std.proofs.Common.{◌≡◌, [], length}
use Rattle.text_lines.specs.Words.{words}
use Rattle.descr_table.specs.Words.{names_at}
use Rattle.descr_table.proofs.words.names_at.Given as goal

abbrev pub invariant-loop-word : goal.invariant-loop-word
invariant-loop-word l = names_at l.found.items (words l.rest) ≡ names_at [] (words l.line)

abbrev pub decreases-loop-word : goal.decreases-loop-word
decreases-loop-word l = length l.rest
