use Rattle.std.proofs.Common.{◌≡◌, map, take}
use Rattle.std.specs.Prelude.{slice_get}
use Rattle.descr_table.specs.Meaning.{field_initial}
use Rattle.descr_table.proofs.puts.field_initials.Given as goal

abbrev pub invariant-loop-j : goal.invariant-loop-j
invariant-loop-j l = l.out.items ≡ map (λ j. field_initial l.defined l.parts (slice_get l.fields j)) (take l.j-index l.numbers)
