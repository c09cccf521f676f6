use Rattle.std.proofs.Common.{◌≡◌, ◌++◌, take}
use Rattle.descr_table.specs.Writing.{more_items}
use Rattle.descr_table.proofs.writing.put_more.Given as goal

abbrev pub invariant-loop-item : goal.invariant-loop-item
invariant-loop-item l = l.out.items ≡ l.fn.out.items ++ more_items l.table (take l.item-index l.items)
