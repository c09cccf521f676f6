use Rattle.std.proofs.Common.{◌≡◌, ◌++◌, take}
use Rattle.descr_table.specs.Writing.{names_text}
use Rattle.descr_table.proofs.writing.put_names.Given as goal

abbrev pub invariant-loop-k : goal.invariant-loop-k
invariant-loop-k l = l.out.items ≡ l.fn.out.items ++ names_text l.table (take l.k-index l.numbers)
