use Rattle.std.proofs.Common.{◌≡◌, ◌++◌, drop, map}
use Rattle.opt_pass.specs.Starting.{entered_store}
use Rattle.opt_pass.proofs.stores.add_stores.Given as goal

abbrev pub invariant-loop-store : goal.invariant-loop-store
invariant-loop-store l = l.out.items ++ map (entered_store l.entering) (drop l.store-index l.pending) ≡ l.initial.out.items ++ map (entered_store l.entering) l.pending
