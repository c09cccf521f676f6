use Rattle.std.proofs.Common.{◌≡◌, ◌++◌, take}
use Rattle.std.specs.List.{flat_map}
use Rattle.descr_table.specs.Writing.{prebuilt_line}
use Rattle.descr_table.proofs.writing.put_prebuilts.Given as goal

abbrev pub invariant-loop-row : goal.invariant-loop-row
invariant-loop-row l = l.out.items ≡ l.fn.out.items ++ flat_map (λ r. prebuilt_line l.table r) (take l.row-index l.row-items)
