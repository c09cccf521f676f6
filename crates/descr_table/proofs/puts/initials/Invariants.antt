use Rattle.std.proofs.Common.{◌≡◌, map, take}
use Rattle.descr_table.specs.Meaning.{initial_of}
use Rattle.descr_table.proofs.puts.initials.Given as goal

abbrev pub invariant-loop-item : goal.invariant-loop-item
invariant-loop-item l = l.out.items ≡ map (λ g. initial_of l.defined g) (take l.item-index l.items)
