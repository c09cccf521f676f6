use Rattle.std.proofs.Common.{◌≡◌, [], length}
use Rattle.text_lines.specs.Words.{words}
use Rattle.descr_table.specs.Words.{items_at}
use Rattle.descr_table.proofs.values.items_at.Given as goal

abbrev pub invariant-loop-item : goal.invariant-loop-item
invariant-loop-item l = items_at l.found.items (words l.rest) ≡ items_at [] (words l.line)

abbrev pub decreases-loop-item : goal.decreases-loop-item
decreases-loop-item l = length l.rest
