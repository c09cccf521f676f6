-- Sets whose numbers name rows, and that keep within the limits.
use Rattle.std.specs.Prelude.{◌≡◌, ℕ, ◌+◌, ◌*◌, ◌<◌, ◌≤◌, Bool, Some, List, [], ◌∷◌, length, map, slice_get, nat_eq, if◌then◌else◌, sum_by}
use Rattle.std.specs.List.{All}
use Rattle.trace_ops.specs.declared.trace.Arg.{Arg}
use Rattle.trace_ops.specs.declared.trace.Arg.TheVariants as arg
use Rattle.trace_ops.specs.declared.trace.Frame.{Frame}
use Rattle.trace_ops.specs.declared.trace.Op.{Op}
use Rattle.trace_ops.specs.declared.trace.Origin.{Origin}
use Rattle.trace_ops.specs.declared.trace.Origin.TheVariants.{Loop, Bridge}
use Rattle.trace_ops.specs.declared.trace.Trace.{Trace}
use Rattle.trace_ops.specs.declared.trace.TraceSet.{TraceSet}
use Rattle.trace_ops.specs.declared.table.Table.{Table}
use Rattle.trace_ops.specs.declared.table.ShapeOf.{ShapeOf}
use Rattle.trace_ops.specs.declared.table.ShapeOf.TheVariants as shape
use Rattle.trace_ops.specs.declared.table.SizeRow.{SizeRow}
use Rattle.trace_ops.specs.declared.table.FieldRow.{FieldRow}
use Rattle.trace_ops.specs.declared.table.CallRow.{CallRow}
use Rattle.trace_ops.specs.declared.table.PrebuiltRow.{PrebuiltRow}
use Rattle.trace_ops.specs.declared.table.Initial.{Initial}
use Rattle.trace_ops.specs.declared.table.Initial.TheVariants as initial
use Rattle.trace_ops.specs.Kinds.{kind_of_initial, HasParts, NamesShape, NamesArg, NamesDescr}

-- x stands in the list at exactly one place
abbrev pub StandsOnce : {X : Type 0} → X → List X → Type 0
StandsOnce x xs = (i : ℕ) × (slice_get xs i ≡ Some x) × ((j : ℕ) → slice_get xs j ≡ Some x → j ≡ i)

-- the places, from this number on, at which a test holds
unfoldable pub places_from : {X : Type 0} → (X → Bool) → ℕ → List X → List ℕ
places_from test k [] = []
places_from test k (x ∷ xs) = if test x then k ∷ places_from test (k + 1) xs else places_from test (k + 1) xs

-- the fields that are of the size of this row, in rising order
abbrev pub fields_of_size : Table → ℕ → List ℕ
fields_of_size t k = places_from (λ (f : FieldRow). nat_eq f.size k) 0 t.fields

-- the prebuilt object that a part names is there
abbrev pub NamesInitial : Table → Initial → Type 0
NamesInitial t (initial.Int z) = Unit {0}
NamesInitial t initial.Null = Unit {0}
NamesInitial t (initial.Ptr k) = k < length t.prebuilts

-- as many parts as its size or array wants, of the kinds that it wants
abbrev pub IsPrebuilt : Table → PrebuiltRow → Type 0
IsPrebuilt t row = HasParts t row.of (map kind_of_initial row.parts) × All (NamesInitial t) row.parts

-- the fields that a call reads and writes are there
abbrev pub NamesCall : Table → CallRow → Type 0
NamesCall t row = All (λ f. f < length t.fields) row.reads × All (λ f. f < length t.fields) row.writes

-- the rows that an operation names are there
abbrev pub NamesOperation : Table → Op → Type 0
NamesOperation t op = All (NamesArg t) op.args × NamesDescr t op.descr × All (λ (f : Frame). All (NamesArg t) f.slots) op.snapshot

-- what an interpreter's frame can hold: no class and no function
abbrev pub IsSlot : Arg → Type 0
IsSlot (arg.Of b) = Unit {0}
IsSlot (arg.Const z) = Unit {0}
IsSlot arg.Null = Unit {0}
IsSlot (arg.Class k) = ⊥
IsSlot (arg.Func k) = ⊥
IsSlot (arg.Ptr k) = Unit {0}

-- in memory: 8 bytes and 8 per field, or 16 and 8 per item
abbrev pub bytes_of_object : ShapeOf → ℕ → ℕ
bytes_of_object (shape.Size k) parts = 8 + 8 * parts
bytes_of_object (shape.Array k) parts = 16 + 8 * parts

abbrev pub prebuilt_bytes : PrebuiltRow → ℕ
prebuilt_bytes row = bytes_of_object row.of (length row.parts)

-- the inputs of a loop, and those of a bridge
abbrev pub most_inputs : Origin → ℕ
most_inputs Loop = 64
most_inputs (Bridge name guard) = 8192

-- the limits that hold of a trace
pub record IsTraceWithin (t : Trace) : Type 0 where
  pub operations : length t.ops ≤ 8192
  pub inputs : length t.inputs ≤ most_inputs t.origin
  pub frames : All (λ (op : Op). length op.snapshot ≤ 32) t.ops
  pub slots : All (λ (op : Op). All (λ (f : Frame). length f.slots ≤ 256) op.snapshot) t.ops

-- the limits that hold of a table
pub record IsTableWithin (t : Table) : Type 0 where
  pub shapes : length t.shapes ≤ 1024
  pub functions : length t.functions ≤ 1024
  pub calls : length t.calls ≤ 1024
  pub fields : All (λ (row : SizeRow). length row.fields ≤ 64) t.sizes
  pub arguments : All (λ (row : CallRow). length row.args ≤ 6) t.calls
  pub reads : All (λ (row : CallRow). length row.reads ≤ 16) t.calls
  pub writes : All (λ (row : CallRow). length row.writes ≤ 16) t.calls
  pub prebuilt : sum_by prebuilt_bytes t.prebuilts ≤ 32768

-- a table whose numbers name rows, and that keeps within its limits
pub record IsTableInRange (t : Table) : Type 0 where
  pub shapes_name_rows : All (NamesShape t) t.shapes
  pub each_size_once : (k : ℕ) → k < length t.sizes → StandsOnce (shape.Size k) t.shapes
  pub each_array_once : (k : ℕ) → k < length t.arrays → StandsOnce (shape.Array k) t.shapes
  pub fields_name_sizes : All (λ (f : FieldRow). f.size < length t.sizes) t.fields
  pub sizes_list_their_fields : (k : ℕ) (row : SizeRow) → slice_get t.sizes k ≡ Some row → row.fields ≡ fields_of_size t k
  pub calls_name_fields : All (NamesCall t) t.calls
  pub prebuilts_fit : All (IsPrebuilt t) t.prebuilts
  pub within : IsTableWithin t

-- a set in range
pub record IsInRange (set : TraceSet) : Type 0 where
  pub table : IsTableInRange set.table
  pub operations_name_rows : All (λ (t : Trace). All (NamesOperation set.table) t.ops) set.traces
  pub slots_hold_values : All (λ (t : Trace). All (λ (op : Op). All (λ (f : Frame). All IsSlot f.slots) op.snapshot) t.ops) set.traces
  pub traces_within : All IsTraceWithin set.traces
  pub few_traces : length set.traces ≤ 256
