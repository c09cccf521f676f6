use Rattle.std.proofs.Common.{◌≡◌, ℕ, ◌<◌, Some, length, slice_get}
use Rattle.box_forward.specs.Trees.{own_at}
use Rattle.box_forward.proofs.classes.owns.Given as goal

abbrev pub invariant-loop-node : goal.invariant-loop-node
invariant-loop-node l = record {
  each : (k : ℕ) → k < length l.values.items → slice_get l.values.items k ≡ Some (own_at l.boxes k);
  count : length l.values.items ≡ l.node;
}
