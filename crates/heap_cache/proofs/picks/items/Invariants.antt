use Rattle.std.proofs.Common.{◌≡◌, ◌++◌, filter, drop}
use Rattle.heap_cache.specs.Content.{is_item_store}
use Rattle.heap_cache.proofs.picks.items.Given as goal

abbrev pub invariant-loop-p : goal.invariant-loop-p
invariant-loop-p l = l.out.items ++ filter (is_item_store l.array) (drop l.p-index l.pending) ≡ filter (is_item_store l.array) l.pending
