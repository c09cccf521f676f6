-- Sound pieces ask the host in no other way than they should, and leave with values of their kinds.
use Rattle.std.specs.Prelude.{List, Option, Some, map}
use Rattle.trace_ops.specs.declared.trace.BoxId.{BoxId}
use Rattle.trace_ops.specs.declared.trace.TraceSet.{TraceSet}
use Rattle.trace_ops.specs.declared.piece.PieceId.{PieceId}
use Rattle.trace_ops.specs.declared.piece.Piece.{Piece}
use Rattle.trace_ops.specs.InRange.{IsTableInRange}
use Rattle.trace_ops.specs.Sound.{IsSound}
use Rattle.trace_meaning.specs.declared.value.Value.{Value}
use Rattle.trace_meaning.specs.World.{World}
use Rattle.opt_meaning.specs.Step.{opt_begin}
use Rattle.image_model.specs.Ready.{AreKinded, StaysReady}

-- A sound piece stays ready from values of the kinds of its label, over a table in range.
abbrev pub SoundPiecesStayReady : Type 0
SoundPiecesStayReady =
    (set : TraceSet) (label_of : PieceId → Option (List BoxId)) (p : Piece) (vs : List Value) (w : World)
    → IsTableInRange set.table → IsSound set label_of p → AreKinded set.table (map (λ (b : BoxId). Some b.kind) p.label) vs w → StaysReady set.table p.ops (opt_begin p.label vs w)
