use Rattle.std.proofs.Common.{◌≡◌, ◌+◌, ◌++◌, drop}
use Rattle.asm_select.specs.Given.{where_in}
use Rattle.code_layout.specs.Emitting.{listed}
use Rattle.bridge_patch.specs.Pieces.{exits_in, rows_from}
use Rattle.bridge_patch.proofs.rows.add_rows.Given as goal

abbrev pub invariant-loop-k : goal.invariant-loop-k
invariant-loop-k l =
    (l.rows.items ++ rows_from (where_in l.plan.places.at) l.plan.id (listed l.ats) l.exit l.k (drop l.k l.ops) ≡ l.initial.rows.items ++ rows_from (where_in l.plan.places.at) l.plan.id (listed l.ats) l.plan.exit 0 l.ops)
    × (l.exit + exits_in (drop l.k l.ops) ≡ l.plan.exit + exits_in l.ops)
