use Rattle.std.proofs.Common.{◌≡◌, ◌++◌, map, take}
use Rattle.descr_table.specs.Spelling.{kind_letter}
use Rattle.descr_table.proofs.writing.put_letters.Given as goal

abbrev pub invariant-loop-kind : goal.invariant-loop-kind
invariant-loop-kind l = l.out.items ≡ l.fn.out.items ++ map kind_letter (take l.kind-index l.kinds)
