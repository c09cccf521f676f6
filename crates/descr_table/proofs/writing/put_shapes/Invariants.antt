use Rattle.std.proofs.Common.{◌≡◌, ◌++◌, take}
use Rattle.std.specs.List.{flat_map}
use Rattle.descr_table.specs.Writing.{shape_line}
use Rattle.descr_table.proofs.writing.put_shapes.Given as goal

abbrev pub invariant-loop-shape : goal.invariant-loop-shape
invariant-loop-shape l = l.out.items ≡ l.fn.out.items ++ flat_map (λ s. shape_line l.table s) (take l.shape-index l.shape-items)
