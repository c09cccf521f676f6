use Rattle.std.proofs.Common.{◌≡◌, ◌++◌, filter, drop}
use Rattle.heap_cache.specs.Content.{is_off_items}
use Rattle.heap_cache.proofs.picks.off_items.Given as goal

abbrev pub invariant-loop-p : goal.invariant-loop-p
invariant-loop-p l = l.out.items ++ filter (is_off_items l.array) (drop l.p-index l.pending) ≡ filter (is_off_items l.array) l.pending
