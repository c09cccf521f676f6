-- What a walk over the traces, operations and rules of a set knows.
use Rattle.std.specs.Prelude.{◌≡◌, ℕ, ◌<◌, ◌≤◌, true, Option, Some, None, List, length, map, slice_get}
use Rattle.trace_ops.specs.declared.trace.BoxId.{BoxId}
use Rattle.trace_ops.specs.declared.trace.Op.{Op}
use Rattle.trace_ops.specs.declared.trace.Trace.{Trace}
use Rattle.trace_ops.specs.declared.trace.TraceSet.{TraceSet}
use Rattle.trace_ops.specs.Weights.{parent_named}
use Rattle.trace_check.specs.declared.rule.Rule.{Rule}
use Rattle.trace_check.specs.Boxes.{lacks}
use Rattle.trace_check.specs.Faults.{number_of, Holds}

abbrev pub flat : Option (Option ℕ) → Option ℕ
flat None = None
flat (Some p) = p

-- the parent, by a table of all parents
abbrev pub up : List (Option ℕ) → Option ℕ → Option ℕ
up parents None = None
up parents (Some k) = flat (slice_get parents k)

-- the table of all parents
abbrev pub ArePlaced : TraceSet → List (Option ℕ) → Type 0
ArePlaced set parents = parents ≡ map (λ (t : Trace). parent_named set.traces t.origin) set.traces

-- the rules of smaller numbers hold
abbrev pub HoldBelow : TraceSet → ℕ → Trace → ℕ → ℕ → Type 0
HoldBelow set i t k n = (q : Rule) → number_of q < n → Holds set i t k q

-- the result of operation k is no known box
abbrev pub IsNewAt : Trace → ℕ → List BoxId → Type 0
IsNewAt t k seen = (op : Op) → slice_get t.ops k ≡ Some op → lacks seen op.result ≡ true

-- each trace has at most 8,192 operations
abbrev pub AreShort : TraceSet → Type 0
AreShort set = (i : ℕ) (t : Trace) → slice_get set.traces i ≡ Some t → length t.ops ≤ 8192
