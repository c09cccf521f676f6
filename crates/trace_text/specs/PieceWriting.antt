-- The lines that write the pieces of optimised traces.
use Rattle.std.specs.Prelude.{ℕ, pos, Option, Some, None, List, [], ◌∷◌, ◌++◌, ◌+◌, codes, slice_get}
use Rattle.std.specs.List.{flat_map}
use Rattle.std.specs.Fmt.{decimal, signed_decimal}
use Rattle.trace_ops.specs.declared.trace.Arg.{Arg}
use Rattle.trace_ops.specs.declared.trace.Trace.{Trace}
use Rattle.trace_ops.specs.declared.trace.TraceSet.{TraceSet}
use Rattle.trace_ops.specs.declared.table.ShapeOf.{ShapeOf}
use Rattle.trace_ops.specs.declared.table.ShapeOf.TheVariants as of
use Rattle.trace_ops.specs.declared.table.Table.{Table}
use Rattle.trace_ops.specs.declared.piece.Val.{Val}
use Rattle.trace_ops.specs.declared.piece.Val.TheVariants.{Known, Virtual}
use Rattle.trace_ops.specs.declared.piece.Shape.{Shape}
use Rattle.trace_ops.specs.declared.piece.Spot.{Spot}
use Rattle.trace_ops.specs.declared.piece.Spot.TheVariants as spot
use Rattle.trace_ops.specs.declared.piece.Pending.{Pending}
use Rattle.trace_ops.specs.declared.piece.OptFrame.{OptFrame}
use Rattle.trace_ops.specs.declared.piece.Snapshot.{Snapshot}
use Rattle.trace_ops.specs.declared.piece.Half.{Half}
use Rattle.trace_ops.specs.declared.piece.Half.TheVariants as half
use Rattle.trace_ops.specs.declared.piece.PieceId.{PieceId}
use Rattle.trace_ops.specs.declared.piece.OptOp.{OptOp}
use Rattle.trace_ops.specs.declared.piece.OptOp.TheVariants as op
use Rattle.trace_ops.specs.declared.piece.Piece.{Piece}
use Rattle.trace_ops.specs.declared.piece.OptTrace.{OptTrace}
use Rattle.trace_ops.specs.OpNames.{name_of}
use Rattle.descr_table.specs.Names.{size_name, field_name, array_name}
use Rattle.trace_text.specs.Writing.{arg_text, args_text, boxes_text, call_text, made_text, guard_text}

-- ---- names

-- vK
unfoldable pub virtual_text : ℕ → List ℕ
virtual_text k = (118 ∷ []) ++ decimal k

abbrev pub name_in : Option Trace → List ℕ
name_in None = []
name_in (Some tr) = tr.name

abbrev pub trace_name : TraceSet → ℕ → List ℕ
trace_name set k = name_in (slice_get set.traces k)

-- the first round of a loop, or all of a trace, is a; every later round is b
abbrev pub half_text : Half → List ℕ
half_text half.Pre = codes ".a"
half_text half.Body = codes ".b"

unfoldable pub piece_name : TraceSet → PieceId → List ℕ
piece_name set id = trace_name set id.trace ++ half_text id.half

-- ---- snapshots

unfoldable pub value_text : Table → Val → List ℕ
value_text t (Known a) = arg_text t a
value_text t (Virtual k) = virtual_text k

-- each behind a comma and a space
abbrev pub more_values : Table → List Val → List ℕ
more_values t xs = flat_map (λ x. (44 ∷ 32 ∷ []) ++ value_text t x) xs

unfoldable pub values_text : Table → List Val → List ℕ
values_text t [] = []
values_text t (x ∷ xs) = value_text t x ++ more_values t xs

-- @NAME:PC[SLOTS]
unfoldable pub opt_frame_text : Table → OptFrame → List ℕ
opt_frame_text t f = ((((((64 ∷ []) ++ f.name) ++ 58 ∷ []) ++ signed_decimal (pos f.pc)) ++ 91 ∷ []) ++ values_text t f.slots) ++ 93 ∷ []

-- SIZE(FIELDS) or ARRAY[ITEMS]
abbrev pub parts_text : Table → ShapeOf → List Val → List ℕ
parts_text t (of.Size k) parts = ((size_name t k ++ 40 ∷ []) ++ values_text t parts) ++ 41 ∷ []
parts_text t (of.Array k) parts = ((array_name t k ++ 91 ∷ []) ++ values_text t parts) ++ 93 ∷ []

unfoldable pub shape_text : Table → Shape → List ℕ
shape_text t s = parts_text t s.of s.parts

-- vK=SHAPE
unfoldable pub numbered_text : Table → ℕ → Shape → List ℕ
numbered_text t k s = (virtual_text k ++ 61 ∷ []) ++ shape_text t s

-- shapes from number k on, each behind a comma and a space
abbrev pub more_shapes : Table → ℕ → List Shape → List ℕ
more_shapes t k [] = []
more_shapes t k (s ∷ ss) = ((44 ∷ 32 ∷ []) ++ numbered_text t k s) ++ more_shapes t (k + 1) ss

unfoldable pub shapes_text : Table → List Shape → List ℕ
shapes_text t [] = []
shapes_text t (s ∷ ss) = (codes " where " ++ numbered_text t 0 s) ++ more_shapes t 1 ss

-- FIELD, or ARRAY[INDEX]
unfoldable pub spot_text : Table → Spot → List ℕ
spot_text t (spot.Field k) = field_name t k
spot_text t (spot.Item a i) = ((array_name t a ++ 91 ∷ []) ++ signed_decimal i) ++ 93 ∷ []

-- BASE.SPOT=VALUE
unfoldable pub store_text : Table → Pending → List ℕ
store_text t p = (((arg_text t p.base ++ 46 ∷ []) ++ spot_text t p.spot) ++ 61 ∷ []) ++ value_text t p.value

abbrev pub more_stores : Table → List Pending → List ℕ
more_stores t ps = flat_map (λ p. (44 ∷ 32 ∷ []) ++ store_text t p) ps

unfoldable pub stores_text : Table → List Pending → List ℕ
stores_text t [] = []
stores_text t (p ∷ ps) = (codes " pending " ++ store_text t p) ++ more_stores t ps

-- the guard, the frames, then shapes and pending stores where there are some
unfoldable pub left_text : TraceSet → ℕ → ℕ → Snapshot → List ℕ
left_text set trace guard s =
    (((guard_text (trace_name set trace) guard ++ 32 ∷ []) ++ flat_map (λ f. opt_frame_text set.table f) s.frames)
    ++ shapes_text set.table s.shapes) ++ stores_text set.table s.pending

-- ---- lines

-- (ARGS)
unfoldable pub listed_text : Table → List Arg → List ℕ
listed_text t args = ((40 ∷ []) ++ args_text t args) ++ 41 ∷ []

abbrev pub finished_text : Table → Option Arg → List ℕ
finished_text t None = []
finished_text t (Some a) = arg_text t a

-- an operation of a piece of this trace
unfoldable pub piece_op_text : TraceSet → ℕ → OptOp → List ℕ
piece_op_text set trace (op.Plain c res args descr) = made_text res ++ call_text set.table c args descr
piece_op_text set trace (op.Guard c args guard snap) = ((name_of c ++ listed_text set.table args) ++ 32 ∷ []) ++ left_text set trace guard snap
piece_op_text set trace (op.Exit guard snap) = codes "exit " ++ left_text set trace guard snap
piece_op_text set trace (op.Jump to args) = (codes "jump " ++ piece_name set to) ++ listed_text set.table args
piece_op_text set trace (op.Finish value) = (codes "finish(" ++ finished_text set.table value) ++ 41 ∷ []

abbrev pub piece_op_line : TraceSet → ℕ → OptOp → List ℕ
piece_op_line set trace o = piece_op_text set trace o ++ 10 ∷ []

unfoldable pub piece_heading : TraceSet → Piece → List ℕ
piece_heading set p = (((codes "piece " ++ piece_name set p.id) ++ codes " [") ++ boxes_text p.label) ++ codes "]\n"

unfoldable pub piece_lines : TraceSet → Piece → List ℕ
piece_lines set p = piece_heading set p ++ flat_map (λ o. piece_op_line set p.id.trace o) p.ops

abbrev pub opt_lines : TraceSet → OptTrace → List ℕ
opt_lines set o = flat_map (λ p. piece_lines set p) o.pieces

-- the pieces of each trace, in order
abbrev pub opt_text : TraceSet → List OptTrace → List ℕ
opt_text set opt = codes "%opt\n" ++ flat_map (λ o. opt_lines set o) opt
