use Rattle.std.proofs.Common.{◌≡◌, ◌++◌, drop}
use Rattle.opt_pass.specs.Starting.{all_fills}
use Rattle.opt_pass.proofs.stores.add_shapes.Given as goal

abbrev pub invariant-loop-k : goal.invariant-loop-k
invariant-loop-k l = l.out.items ++ all_fills l.table l.entering l.k (drop l.k l.shapes) ≡ l.initial.out.items ++ all_fills l.table l.entering 0 l.shapes
