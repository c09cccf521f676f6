use Rattle.std.proofs.Common.{◌≡◌, ◌++◌, drop}
use Rattle.seen_text.specs.Cells.{cell_lines}
use Rattle.seen_text.proofs.cells.put_cell_lines.Given as goal

abbrev pub invariant-loop-number : goal.invariant-loop-number
invariant-loop-number l = l.out.items ++ cell_lines l.table l.number (drop l.number l.cells) ≡ l.fn.out.items ++ cell_lines l.table 0 l.cells
