use Rattle.std.proofs.Common.{◌≡◌, length, map, take}
use Rattle.std.specs.List.{AllByRecursion, IsDistinct}
use Rattle.parallel_move.specs.Moving.{same}
use Rattle.parallel_move.specs.Resting.{named, IsBelow}
use Rattle.parallel_move.proofs.rest.numbered.Given as goal

abbrev pub invariant-loop-k : goal.invariant-loop-k
invariant-loop-k l = record {
  is_named : map (named l.names.keys) l.out.items ≡ take l.k l.pairs;
  below : AllByRecursion (IsBelow (length l.names.keys)) l.out.items;
  once : IsDistinct same l.names.keys;
}
