use Rattle.std.proofs.Common.{◌≡◌, ◌++◌, ◌-◌}
use Rattle.agreement.specs.Spots.{items_from}
use Rattle.opt_pass.proofs.stores.item_spots.Given as goal

abbrev pub invariant-loop-k : goal.invariant-loop-k
invariant-loop-k l = l.out.items ++ items_from l.array l.k (l.count - l.k) ≡ items_from l.array 0 l.count
