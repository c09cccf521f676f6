-- Whether a snapshot has a box, part by part.
use Rattle.std.specs.Prelude.{Bool, false, ◌||◌}
use Rattle.std.specs.List.{list_any}
use Rattle.trace_ops.specs.declared.trace.BoxId.{BoxId}
use Rattle.trace_ops.specs.declared.trace.Arg.{Arg}
use Rattle.trace_ops.specs.declared.trace.Arg.TheVariants.{Of}
use Rattle.trace_ops.specs.declared.piece.Val.{Val}
use Rattle.trace_ops.specs.declared.piece.Val.TheVariants.{Known, Virtual}
use Rattle.trace_ops.specs.declared.piece.OptFrame.{OptFrame}
use Rattle.trace_ops.specs.declared.piece.Shape.{Shape}
use Rattle.trace_ops.specs.declared.piece.Pending.{Pending}
use Rattle.trace_ops.specs.declared.piece.Snapshot.{Snapshot}
use Rattle.trace_meaning.specs.Boxes.{same_box}

abbrev pub arg_has : BoxId → Arg → Bool
arg_has r (Of b) = same_box r b
arg_has r a = false

abbrev pub val_has : BoxId → Val → Bool
val_has r (Known a) = arg_has r a
val_has r (Virtual k) = false

abbrev pub frame_has : BoxId → OptFrame → Bool
frame_has r f = list_any (val_has r) f.slots

abbrev pub shape_has : BoxId → Shape → Bool
shape_has r s = list_any (val_has r) s.parts

abbrev pub store_has : BoxId → Pending → Bool
store_has r p = arg_has r p.base || val_has r p.value

abbrev pub parts_have : BoxId → Snapshot → Bool
parts_have r s = list_any (frame_has r) s.frames || (list_any (shape_has r) s.shapes || list_any (store_has r) s.pending)
