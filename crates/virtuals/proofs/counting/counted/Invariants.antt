use Rattle.std.proofs.Common.{◌≡◌, ℕ, ◌<◌, Some, length, map, take, slice_index}
use Rattle.virtuals.specs.Namings.{namings, IsAtLeast}
use Rattle.virtuals.proofs.counting.counted.Given as goal

abbrev pub invariant-loop-k : goal.invariant-loop-k
invariant-loop-k l = record {
  counted : (m : ℕ) → m < length l.shapes → IsAtLeast (slice_index l.counts.items m) (namings m (map Some (take l.k l.shapes)));
  count : length l.counts.items ≡ length l.shapes;
}
