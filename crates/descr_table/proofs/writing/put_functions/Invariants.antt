use Rattle.std.proofs.Common.{◌≡◌, ◌++◌, take}
use Rattle.std.specs.List.{flat_map}
use Rattle.descr_table.specs.Writing.{function_line}
use Rattle.descr_table.proofs.writing.put_functions.Given as goal

abbrev pub invariant-loop-name : goal.invariant-loop-name
invariant-loop-name l = l.out.items ≡ l.fn.out.items ++ flat_map (λ n. function_line n) (take l.name-index l.name-items)
