use Rattle.std.proofs.Common.{◌≡◌, drop, filter, slice_get}
use Rattle.trace_ops.specs.declared.trace.Op.{Op}
use Rattle.trace_ops.specs.Classes.{is_guard}
use Rattle.trace_check.proofs.parents.guard_op.Given as goal

abbrev pub invariant-loop-op : goal.invariant-loop-op
invariant-loop-op l = slice_get (filter (λ (op : Op). is_guard op.code) (drop l.op-index l.trace.ops)) l.left ≡ slice_get (filter (λ (op : Op). is_guard op.code) l.trace.ops) l.fn.number
