use Rattle.std.proofs.Common.{◌≡◌, ◌<◌, ℕ, Some, slice_get}
use Rattle.std.specs.Prelude.{◌≢◌}
use Rattle.trace_ops.specs.declared.trace.Trace.{Trace}
use Rattle.trace_check.proofs.parents.is_new_name.Given as goal

abbrev pub invariant-loop-j : goal.invariant-loop-j
invariant-loop-j l = (h : ℕ) (t : Trace) → h < l.j → slice_get l.set.traces h ≡ Some t → t.name ≢ l.name
