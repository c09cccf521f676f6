use Rattle.std.proofs.Common.{◌≡◌, ℕ, ◌<◌, Some, length, slice_get}
use Rattle.box_forward.proofs.classes.own_parents.Given as goal

abbrev pub invariant-loop-node : goal.invariant-loop-node
invariant-loop-node l = record {
  each : (k : ℕ) → k < length l.parents.items → slice_get l.parents.items k ≡ Some k;
  count : length l.parents.items ≡ l.node;
}
