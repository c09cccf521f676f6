use Rattle.std.proofs.Common.{◌≡◌, ◌++◌, drop, map}
use Rattle.trace_ops.specs.declared.trace.Trace.{Trace}
use Rattle.trace_ops.specs.Weights.{parent_named}
use Rattle.trace_check.proofs.parents.parents_of.Given as goal

abbrev pub invariant-loop-trace : goal.invariant-loop-trace
invariant-loop-trace l = l.parents.items ++ map (λ (t : Trace). parent_named l.set.traces t.origin) (drop l.trace-index l.set.traces) ≡ map (λ (t : Trace). parent_named l.set.traces t.origin) l.set.traces
