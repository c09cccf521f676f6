use Rattle.std.proofs.Common.{◌≡◌, ◌≤◌, ◌+◌, ◌*◌, drop, length, sum_by}
use Rattle.trace_ops.specs.declared.trace.Trace.{Trace}
use Rattle.tj_app.specs.Counting.{operations_of}
use Rattle.tj_app.proofs.counting.operations_of.Given as goal

abbrev pub invariant-loop-trace : goal.invariant-loop-trace
invariant-loop-trace l =
    (l.total ≤ 8192 * l.trace-index) × (l.total + sum_by (λ (t : Trace). length t.ops) (drop l.trace-index l.traces) ≡ operations_of l.fn.set)
