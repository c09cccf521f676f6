use Rattle.std.proofs.Common.{◌≡◌, drop}
use Rattle.trace_meaning.specs.Boxes.{bind_all, bound_to}
use Rattle.trace_meaning.proofs.boxes.Boxes.bound_to.Given as goal

abbrev pub invariant-loop-k : goal.invariant-loop-k
invariant-loop-k l = bind_all l.bound.values.entries (drop l.k l.boxes) (drop l.k l.values) ≡ bound_to l.boxes l.values
