-- How much a set of traces weighs.
use Rattle.std.specs.Prelude.{ℕ, zero, suc, ◌+◌, ◌-◌, ◌^◌, min, pos, Option, Some, None, List, length, nat_lt, if◌then◌else◌, slice_get, position, sum_by}
use Rattle.std.specs.Str.{bytes_eq}
use Rattle.trace_ops.specs.declared.code.OpCode.{OpCode}
use Rattle.trace_ops.specs.declared.code.OpCode.TheVariants as code
use Rattle.trace_ops.specs.declared.trace.Arg.{Arg}
use Rattle.trace_ops.specs.declared.trace.Arg.TheVariants.{Const}
use Rattle.trace_ops.specs.declared.trace.Descr.{Descr}
use Rattle.trace_ops.specs.declared.trace.Descr.TheVariants as descr
use Rattle.trace_ops.specs.declared.trace.Frame.{Frame}
use Rattle.trace_ops.specs.declared.trace.Op.{Op}
use Rattle.trace_ops.specs.declared.trace.Origin.{Origin}
use Rattle.trace_ops.specs.declared.trace.Origin.TheVariants.{Loop, Bridge}
use Rattle.trace_ops.specs.declared.trace.Trace.{Trace}
use Rattle.trace_ops.specs.declared.trace.TraceSet.{TraceSet}
use Rattle.trace_ops.specs.declared.table.SizeRow.{SizeRow}

-- the fields of this size
abbrev pub fields_at : Option SizeRow → ℕ
fields_at (Some row) = length row.fields
fields_at None = 0

abbrev pub fields_cited : List SizeRow → Descr → ℕ
fields_cited sizes (descr.Size k) = fields_at (slice_get sizes k)
fields_cited sizes _ = 0

-- a constant length from 0 to 64
abbrev pub known_length : Option Arg → ℕ
known_length (Some (Const (pos n))) = if nat_lt n 65 then n else 0
known_length _ = 0

-- what an allocation or a call weighs besides
abbrev pub extra_of : List SizeRow → OpCode → Descr → Option Arg → ℕ
extra_of sizes code.New d a = fields_cited sizes d
extra_of sizes code.NewWithVtable d a = fields_cited sizes d
extra_of sizes code.NewArrayClear d a = known_length a
extra_of sizes code.CallI d a = 32
extra_of sizes code.CallR d a = 32
extra_of sizes code.CallN d a = 32
extra_of _ _ _ _ = 0

abbrev pub slots_of : Frame → ℕ
slots_of f = length f.slots

-- 1, the arguments, the slots, and what an allocation or a call weighs besides
abbrev pub operation_weight : List SizeRow → Op → ℕ
operation_weight sizes op = 1 + length op.args + sum_by slots_of op.snapshot + extra_of sizes op.code op.descr (slice_get op.args 0)

-- of the trace at this place, without its parents
abbrev pub own_of : List SizeRow → Option Trace → ℕ
own_of sizes (Some t) = sum_by (operation_weight sizes) t.ops
own_of sizes None = 0

abbrev pub own_weight : TraceSet → ℕ → ℕ
own_weight set k = own_of set.table.sizes (slice_get set.traces k)

-- the first trace of this name
abbrev pub place_of : List ℕ → List Trace → Option ℕ
place_of name traces = position (λ t. bytes_eq t.name name) traces

abbrev pub parent_named : List Trace → Origin → Option ℕ
parent_named traces Loop = None
parent_named traces (Bridge name guard) = place_of name traces

abbrev pub parent_of : List Trace → Option Trace → Option ℕ
parent_of traces (Some t) = parent_named traces t.origin
parent_of traces None = None

abbrev pub parent_at : TraceSet → ℕ → Option ℕ
parent_at set k = parent_of set.traces (slice_get set.traces k)

-- the sum along a path of at most so many places
unfoldable pub along : (ℕ → ℕ) → (ℕ → Option ℕ) → ℕ → Option ℕ → ℕ
along own parent zero at = 0
along own parent (suc left) None = 0
along own parent (suc left) (Some k) = own k + along own parent left (parent k)

-- f 0 + .. + f (n - 1)
unfoldable pub sum_below : (ℕ → ℕ) → ℕ → ℕ
sum_below f zero = 0
sum_below f (suc n) = sum_below f n + f n

-- of a trace, with those of its parents: a path has at most as many places as there are traces
abbrev pub trace_weight : TraceSet → ℕ → ℕ
trace_weight set k = along (own_weight set) (parent_at set) (length set.traces) (Some k)

abbrev pub weight_of : TraceSet → ℕ
weight_of set = sum_below (trace_weight set) (length set.traces)

-- the number, or 2^64 - 1 where that is less
abbrev pub capped : ℕ → ℕ
capped n = min n (2 ^ 64 - 1)
