use Rattle.std.proofs.Common.{◌≡◌, ◌++◌, take}
use Rattle.std.specs.List.{flat_map}
use Rattle.descr_table.specs.Writing.{field_line}
use Rattle.descr_table.proofs.writing.put_fields.Given as goal

abbrev pub invariant-loop-row : goal.invariant-loop-row
invariant-loop-row l = l.out.items ≡ l.fn.out.items ++ flat_map (λ r. field_line l.table r) (take l.row-index l.row-items)
