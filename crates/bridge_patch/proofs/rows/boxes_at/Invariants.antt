use Rattle.std.proofs.Common.{◌≡◌, ◌++◌, drop}
use Rattle.asm_select.specs.Given.{where_in}
use Rattle.bridge_patch.specs.Pieces.{boxes_at}
use Rattle.bridge_patch.proofs.rows.boxes_at.Given as goal

abbrev pub invariant-loop-b : goal.invariant-loop-b
invariant-loop-b l = l.rows.items ++ boxes_at (where_in l.at) (drop l.b-index l.boxes) ≡ boxes_at (where_in l.at) l.boxes
