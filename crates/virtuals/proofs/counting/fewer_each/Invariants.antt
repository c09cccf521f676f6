use Rattle.std.proofs.Common.{◌≡◌, ℕ, ◌+◌, ◌<◌, length, drop, slice_index}
use Rattle.virtuals.specs.Order.{AreBelow}
use Rattle.virtuals.specs.Namings.{namings_in, IsAtLeast, counts_without_all}
use Rattle.virtuals.proofs.counting.fewer_each.Given as goal

abbrev pub invariant-loop-part : goal.invariant-loop-part
invariant-loop-part l = record {
  lowered : (m n : ℕ) → m < length l.initial.counts.items → IsAtLeast (slice_index l.initial.counts.items m) (n + namings_in m l.parts)
      → IsAtLeast (slice_index l.counts.items m) (n + namings_in m (drop l.part-index l.parts));
  exactly : counts_without_all (drop l.part-index l.parts) l.counts.items ≡ counts_without_all l.parts l.initial.counts.items;
  count : length l.counts.items ≡ length l.initial.counts.items;
  below : AreBelow (length l.counts.items) (drop l.part-index l.parts);
}
