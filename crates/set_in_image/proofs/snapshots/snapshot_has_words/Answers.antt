use Rattle.std.proofs.Common.{List, subst}
use Rattle.std.specs.List.{AllByRecursion}
use Rattle.trace_ops.specs.declared.piece.OptFrame.{OptFrame}
use Rattle.trace_ops.specs.declared.piece.Pending.{Pending}
use Rattle.trace_ops.specs.declared.piece.Shape.{Shape}
use Rattle.set_in_image.specs.Snapshots.{FrameHasWords, ShapeHasWords, StoreHasWords}
use Rattle.set_in_image.proofs.Constants.{of_snapshot}
use Rattle.set_in_image.proofs.snapshots.snapshot_has_words.Goals as goal

pub returns : goal.returns
returns c =
    of_snapshot c.args.snapshot.now (subst (λ (fs : List OptFrame). AllByRecursion FrameHasWords fs) c.items-frames.ensures c.frames_have_words.ensures)
    (subst (λ (hs : List Shape). AllByRecursion ShapeHasWords hs) c.items-shapes.ensures c.shapes_have_words.ensures)
    (subst (λ (ps : List Pending). AllByRecursion StoreHasWords ps) c.items-stores.ensures c.stores_have_words.ensures)
