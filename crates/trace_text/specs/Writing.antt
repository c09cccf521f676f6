-- The lines that write a set.
use Rattle.std.specs.Prelude.{ℕ, Bool, true, false, pos, Option, Some, None, List, [], ◌∷◌, ◌++◌, codes, slice_get, length, nat_lt}
use Rattle.std.specs.List.{flat_map}
use Rattle.std.specs.Fmt.{signed_decimal}
use Rattle.trace_ops.specs.declared.code.OpCode.{OpCode}
use Rattle.trace_ops.specs.declared.trace.Kind.{Kind}
use Rattle.trace_ops.specs.declared.trace.Kind.TheVariants as kind
use Rattle.trace_ops.specs.declared.trace.BoxId.{BoxId}
use Rattle.trace_ops.specs.declared.trace.Arg.{Arg}
use Rattle.trace_ops.specs.declared.trace.Arg.TheVariants as arg
use Rattle.trace_ops.specs.declared.trace.Descr.{Descr}
use Rattle.trace_ops.specs.declared.trace.Descr.TheVariants as descr
use Rattle.trace_ops.specs.declared.trace.Frame.{Frame}
use Rattle.trace_ops.specs.declared.trace.Op.{Op}
use Rattle.trace_ops.specs.declared.trace.Origin.{Origin}
use Rattle.trace_ops.specs.declared.trace.Origin.TheVariants as origin
use Rattle.trace_ops.specs.declared.trace.Trace.{Trace}
use Rattle.trace_ops.specs.declared.trace.TraceSet.{TraceSet}
use Rattle.trace_ops.specs.declared.table.SizeRow.{SizeRow}
use Rattle.trace_ops.specs.declared.table.CallRow.{CallRow}
use Rattle.trace_ops.specs.declared.table.Table.{Table}
use Rattle.trace_ops.specs.OpNames.{name_of}
use Rattle.descr_table.specs.Names.{size_name, field_name, array_name, prebuilt_name, vtable_name, call_name, function_name}
use Rattle.descr_table.specs.Writing.{table_text}

-- ---- pieces of lines

abbrev pub letter : Kind → ℕ
letter kind.Int = 105
letter kind.Ref = 112

unfoldable pub box_text : BoxId → List ℕ
box_text b = (letter b.kind ∷ []) ++ signed_decimal (pos b.number)

unfoldable pub class_text : List ℕ → List ℕ
class_text name = (codes "ConstClass(" ++ name) ++ 41 ∷ []

unfoldable pub object_text : List ℕ → List ℕ
object_text name = (codes "ConstPtr(" ++ name) ++ 41 ∷ []

unfoldable pub arg_text : Table → Arg → List ℕ
arg_text t (arg.Of b) = box_text b
arg_text t (arg.Const z) = signed_decimal z
arg_text t arg.Null = codes "NULL"
arg_text t (arg.Class k) = class_text (vtable_name t k)
arg_text t (arg.Func k) = class_text (function_name t k)
arg_text t (arg.Ptr k) = object_text (prebuilt_name t k)

-- each behind a comma and a space
abbrev pub more_args : Table → List Arg → List ℕ
more_args t xs = flat_map (λ x. (44 ∷ 32 ∷ []) ++ arg_text t x) xs

unfoldable pub args_text : Table → List Arg → List ℕ
args_text t [] = []
args_text t (x ∷ xs) = arg_text t x ++ more_args t xs

abbrev pub more_boxes : List BoxId → List ℕ
more_boxes xs = flat_map (λ x. (44 ∷ 32 ∷ []) ++ box_text x) xs

unfoldable pub boxes_text : List BoxId → List ℕ
boxes_text [] = []
boxes_text (x ∷ xs) = box_text x ++ more_boxes xs

abbrev pub comma_if : Bool → List ℕ
comma_if false = []
comma_if true = 44 ∷ 32 ∷ []

unfoldable pub cited_text : Bool → List ℕ → List ℕ
cited_text behind name = (comma_if behind ++ codes "descr=") ++ name

-- a descr behind arguments has a comma in front
unfoldable pub descr_text : Table → Bool → Descr → List ℕ
descr_text t behind descr.No = []
descr_text t behind (descr.Size k) = cited_text behind (size_name t k)
descr_text t behind (descr.Field k) = cited_text behind (field_name t k)
descr_text t behind (descr.Array k) = cited_text behind (array_name t k)
descr_text t behind (descr.Call k) = cited_text behind (call_name t k)
descr_text t behind (descr.Target name) = cited_text behind name

-- the name and the pc of each frame are written, also those of a single one
unfoldable pub frame_text : Table → Frame → List ℕ
frame_text t f = ((((((64 ∷ []) ++ f.name) ++ 58 ∷ []) ++ signed_decimal (pos f.pc)) ++ 91 ∷ []) ++ args_text t f.slots) ++ 93 ∷ []

unfoldable pub snapshot_text : Table → List Frame → List ℕ
snapshot_text t [] = []
snapshot_text t (f ∷ fs) = (32 ∷ []) ++ flat_map (λ g. frame_text t g) (f ∷ fs)

unfoldable pub made_text : Option BoxId → List ℕ
made_text None = []
made_text (Some b) = box_text b ++ codes " = "

-- T/k
abbrev pub guard_text : List ℕ → ℕ → List ℕ
guard_text parent guard = (parent ++ 47 ∷ []) ++ signed_decimal (pos guard)

unfoldable pub origin_text : Origin → List ℕ → List ℕ
origin_text origin.Loop name = codes "%loop " ++ name
origin_text (origin.Bridge parent guard) name = ((codes "%bridge " ++ name) ++ codes " from ") ++ guard_text parent guard

-- ---- lines

unfoldable pub call_text : Table → OpCode → List Arg → Descr → List ℕ
call_text t operation args of = (((name_of operation ++ 40 ∷ []) ++ args_text t args) ++ descr_text t (nat_lt 0 (length args)) of) ++ 41 ∷ []

unfoldable pub op_line : Table → Op → List ℕ
op_line t op = ((made_text op.result ++ call_text t op.code op.args op.descr) ++ snapshot_text t op.snapshot) ++ 10 ∷ []

unfoldable pub inputs_line : List BoxId → List ℕ
inputs_line bs = ((91 ∷ []) ++ boxes_text bs) ++ codes "]\n"

unfoldable pub label_line : Bool → List BoxId → List ℕ
label_line false bs = []
label_line true bs = (codes "label(" ++ boxes_text bs) ++ codes ")\n"

unfoldable pub heading_line : Trace → List ℕ
heading_line tr = origin_text tr.origin tr.name ++ 10 ∷ []

unfoldable pub trace_lines : Table → Trace → List ℕ
trace_lines t tr = ((heading_line tr ++ inputs_line tr.inputs) ++ label_line tr.label tr.inputs) ++ flat_map (λ op. op_line t op) tr.ops

-- the table, then the traces in their order
abbrev pub set_text : TraceSet → List ℕ
set_text set = (codes "%table\n" ++ table_text set.table) ++ flat_map (λ tr. trace_lines set.table tr) set.traces
