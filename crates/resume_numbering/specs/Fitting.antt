-- A quick test of pieces that are far below every limit; the guard at place k is guard k.
use Rattle.std.specs.Prelude.{ℕ, ◌+◌, Bool, true, false, ◌&&◌, nat_lt, nat_eq, List, [], ◌∷◌, Option, Some, length, slice_get}
use Rattle.std.specs.List.{list_all}
use Rattle.trace_ops.specs.declared.trace.Kind.{Kind}
use Rattle.trace_ops.specs.declared.trace.Kind.TheVariants.{Int, Ref}
use Rattle.trace_ops.specs.declared.trace.Arg.{Arg}
use Rattle.trace_ops.specs.declared.trace.Arg.TheVariants.{Of, Const, Null, Class, Func, Ptr}
use Rattle.trace_ops.specs.declared.piece.Val.{Val}
use Rattle.trace_ops.specs.declared.piece.Val.TheVariants.{Known, Virtual}
use Rattle.trace_ops.specs.declared.piece.OptFrame.{OptFrame}
use Rattle.trace_ops.specs.declared.piece.Shape.{Shape}
use Rattle.trace_ops.specs.declared.piece.Pending.{Pending}
use Rattle.trace_ops.specs.declared.piece.Snapshot.{Snapshot}
use Rattle.trace_ops.specs.declared.piece.OptOp.{OptOp}
use Rattle.trace_ops.specs.declared.piece.OptOp.TheVariants as o
use Rattle.trace_ops.specs.declared.piece.Piece.{Piece}

abbrev pub kind_is : Option Kind → Kind → Bool
kind_is (Some Int) Int = true
kind_is (Some Ref) Ref = true
kind_is _ _ = false

abbrev pub arg_fits : List Kind → Arg → Bool
arg_fits kinds (Of b) = kind_is (slice_get kinds b.number) b.kind
arg_fits kinds (Const z) = true
arg_fits kinds Null = true
arg_fits kinds (Class k) = false
arg_fits kinds (Func k) = false
arg_fits kinds (Ptr k) = true

abbrev pub value_fits : List Kind → ℕ → Val → Bool
value_fits kinds n (Known a) = arg_fits kinds a
value_fits kinds n (Virtual k) = nat_lt k n

abbrev pub all_fit : List Kind → ℕ → List Val → Bool
all_fit kinds n vals = list_all (value_fits kinds n) vals

abbrev pub values_fit : List Kind → ℕ → List Val → Bool
values_fit kinds n vals = nat_lt (length vals) 64 && all_fit kinds n vals

abbrev pub store_fits : List Kind → ℕ → Pending → Bool
store_fits kinds n p = arg_fits kinds p.base && value_fits kinds n p.value

abbrev pub lengths_fit : Snapshot → Bool
lengths_fit s = nat_lt 0 (length s.frames) && nat_lt (length s.frames) 64 && nat_lt (length s.shapes) 64 && nat_lt (length s.pending) 64

abbrev pub frames_fit : List Kind → Snapshot → Bool
frames_fit kinds s = list_all (λ (f : OptFrame). values_fit kinds (length s.shapes) f.slots) s.frames

abbrev pub shapes_fit : List Kind → Snapshot → Bool
shapes_fit kinds s = list_all (λ (h : Shape). values_fit kinds (length s.shapes) h.parts) s.shapes

abbrev pub stores_fit : List Kind → Snapshot → Bool
stores_fit kinds s = list_all (store_fits kinds (length s.shapes)) s.pending

abbrev pub snapshot_fits : List Kind → Snapshot → Bool
snapshot_fits kinds s = lengths_fit s && frames_fit kinds s && shapes_fit kinds s && stores_fit kinds s

abbrev pub op_fits : List Kind → ℕ → OptOp → Bool
op_fits kinds k (o.Guard code args guard snap) = nat_eq guard k && snapshot_fits kinds snap
op_fits kinds k (o.Exit guard snap) = nat_eq guard k && snapshot_fits kinds snap
op_fits kinds k (o.Plain code res args descr) = true
op_fits kinds k (o.Jump to args) = true
op_fits kinds k (o.Finish value) = true

abbrev pub ops_fit : List Kind → ℕ → List OptOp → Bool
ops_fit kinds k [] = true
ops_fit kinds k (op ∷ ops) = op_fits kinds k op && ops_fit kinds (k + 1) ops

abbrev pub fits : List Kind → Piece → Bool
fits kinds p = nat_lt (length kinds) 65536 && nat_lt (length p.ops) 32769 && ops_fit kinds 0 p.ops
