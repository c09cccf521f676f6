use Rattle.std.proofs.Common.{◌≡◌, map, take}
use Rattle.descr_table.specs.Meaning.{place}
use Rattle.descr_table.proofs.puts.places.Given as goal

abbrev pub invariant-loop-name : goal.invariant-loop-name
invariant-loop-name l = l.out.items ≡ map (λ n. place n l.names) (take l.name-index l.list)
