use Rattle.std.proofs.Common.{◌≡◌, [], length}
use Rattle.text_lines.specs.Words.{words}
use Rattle.descr_table.specs.Words.{parts_at}
use Rattle.descr_table.proofs.values.parts_at.Given as goal

abbrev pub invariant-loop-part : goal.invariant-loop-part
invariant-loop-part l = parts_at l.found.items (words l.rest) ≡ parts_at [] (words l.line)

abbrev pub decreases-loop-part : goal.decreases-loop-part
decreases-loop-part l = length l.rest
