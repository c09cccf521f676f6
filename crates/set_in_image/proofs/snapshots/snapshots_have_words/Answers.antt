use Rattle.std.proofs.Common.{arith, subst}
use Rattle.std.specs.List.{All, AllByRecursion}
use Rattle.trace_ops.specs.declared.piece.Piece.{Piece}
use Rattle.trace_ops.specs.Sound.{snapshots_in}
use Rattle.set_in_image.specs.Snapshots.{SnapshotHasWords}
use Rattle.set_in_image.proofs.EachPiece.{each_step}
use Rattle.set_in_image.proofs.snapshots.snapshots_have_words.Goals as goal

pub loop-trace-preserved : goal.loop-trace-preserved
loop-trace-preserved c =
    λ h. c.loop-trace.invariant
    (each_step (λ (p : Piece). All SnapshotHasWords (snapshots_in p)) c.args.traces.now c.loop-trace.trace-index c.trace-item.result c.trace-item.result (omega (arith, c.loop-trace-test.true)) c.trace-item.is
    (subst (λ ps. AllByRecursion (λ (p : Piece). All SnapshotHasWords (snapshots_in p)) ps) c.items.ensures c.pieces_show_words.ensures) h)
