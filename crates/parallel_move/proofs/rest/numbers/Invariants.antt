use Rattle.std.proofs.Common.{◌≡◌, ℕ, ◌<◌, length, slice_index}
use Rattle.parallel_move.proofs.rest.numbers.Given as goal

abbrev pub invariant-loop-k : goal.invariant-loop-k
invariant-loop-k l = record {
  each : (k : ℕ) → k < length l.out.items → slice_index l.out.items k ≡ k;
  count : length l.out.items ≡ l.k;
}
