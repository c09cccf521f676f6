use Rattle.std.proofs.Common.{◌≡◌, ℕ, ◌+◌, ◌<◌, length, take, drop, slice_index}
use Rattle.virtuals.specs.Order.{AreBelow}
use Rattle.virtuals.specs.Namings.{namings_in, IsAtLeast}
use Rattle.virtuals.proofs.counting.more_each.Given as goal

abbrev pub invariant-loop-part : goal.invariant-loop-part
invariant-loop-part l = record {
  raised : (m n : ℕ) → m < length l.initial.counts.items → IsAtLeast (slice_index l.initial.counts.items m) n → IsAtLeast (slice_index l.counts.items m) (n + namings_in m (take l.part-index l.parts));
  count : length l.counts.items ≡ length l.initial.counts.items;
  below : AreBelow (length l.counts.items) (drop l.part-index l.parts);
}
