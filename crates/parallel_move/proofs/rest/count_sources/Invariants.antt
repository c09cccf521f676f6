use Rattle.std.proofs.Common.{◌≡◌, ℕ, ◌<◌, length, take, slice_index}
use Rattle.parallel_move.specs.Resting.{sources_at}
use Rattle.parallel_move.proofs.rest.count_sources.Given as goal

abbrev pub invariant-loop-k : goal.invariant-loop-k
invariant-loop-k l = record {
  counted : (j : ℕ) → j < length l.out.items → slice_index l.out.items j ≡ sources_at j (take l.k l.pairs);
  count : length l.out.items ≡ l.count;
}
