-- The boxes of a snapshot.
use Rattle.std.specs.Prelude.{List, [], ◌∷◌, ◌++◌, if◌then◌else◌}
use Rattle.std.specs.List.{flat_map, list_any}
use Rattle.trace_ops.specs.declared.trace.BoxId.{BoxId}
use Rattle.trace_ops.specs.declared.trace.Arg.{Arg}
use Rattle.trace_ops.specs.declared.trace.Arg.TheVariants.{Of}
use Rattle.trace_ops.specs.declared.piece.Val.{Val}
use Rattle.trace_ops.specs.declared.piece.Val.TheVariants.{Known, Virtual}
use Rattle.trace_ops.specs.declared.piece.OptFrame.{OptFrame}
use Rattle.trace_ops.specs.declared.piece.Shape.{Shape}
use Rattle.trace_ops.specs.declared.piece.Pending.{Pending}
use Rattle.trace_ops.specs.declared.piece.Snapshot.{Snapshot}
use Rattle.trace_ops.specs.contracts.trace.BoxIdPartialEq.TheImpl as box_eq

-- the box that is the argument
abbrev pub boxes_of_arg : Arg → List BoxId
boxes_of_arg (Of b) = b ∷ []
boxes_of_arg _ = []

-- a virtual object names its boxes by its shape
abbrev pub boxes_of_val : Val → List BoxId
boxes_of_val (Known a) = boxes_of_arg a
boxes_of_val (Virtual k) = []

abbrev pub boxes_of_frame : OptFrame → List BoxId
boxes_of_frame f = flat_map boxes_of_val f.slots

abbrev pub boxes_of_shape : Shape → List BoxId
boxes_of_shape s = flat_map boxes_of_val s.parts

-- base, then value
abbrev pub boxes_of_pending : Pending → List BoxId
boxes_of_pending p = boxes_of_arg p.base ++ boxes_of_val p.value

-- as often as they stand there: in frames, then shapes, then pending stores
abbrev pub boxes_of : Snapshot → List BoxId
boxes_of s = flat_map boxes_of_frame s.frames ++ flat_map boxes_of_shape s.shapes ++ flat_map boxes_of_pending s.pending

-- these boxes, and behind them each of the others where it stands first
unfoldable pub with_boxes : List BoxId → List BoxId → List BoxId
with_boxes kept [] = kept
with_boxes kept (b ∷ bs) = with_boxes (if list_any (box_eq.ghosts.eq b) kept then kept else kept ++ b ∷ []) bs

-- each box of a snapshot once, where it stands first
abbrev pub parts_of : Snapshot → List BoxId
parts_of s = with_boxes [] (boxes_of s)
