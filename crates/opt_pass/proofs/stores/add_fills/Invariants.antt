use Rattle.std.proofs.Common.{◌≡◌, ◌++◌, drop, map}
use Rattle.opt_pass.specs.Starting.{fills, entered_val}
use Rattle.opt_pass.proofs.stores.add_fills.Given as goal

abbrev pub invariant-loop-k : goal.invariant-loop-k
invariant-loop-k l = l.out.items ++ fills l.of (drop l.k l.spots) (map (entered_val l.entering) (drop l.k l.parts)) ≡ l.initial.out.items ++ fills l.of l.spots (map (entered_val l.entering) l.parts)
