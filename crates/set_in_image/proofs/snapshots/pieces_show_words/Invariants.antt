use Rattle.std.proofs.Common.{drop}
use Rattle.std.specs.List.{All, AllByRecursion}
use Rattle.trace_ops.specs.declared.piece.Piece.{Piece}
use Rattle.trace_ops.specs.Sound.{snapshots_in}
use Rattle.set_in_image.specs.Snapshots.{SnapshotHasWords}
use Rattle.set_in_image.proofs.snapshots.pieces_show_words.Given as goal

abbrev pub invariant-loop-piece : goal.invariant-loop-piece
invariant-loop-piece l = AllByRecursion (λ (p : Piece). All SnapshotHasWords (snapshots_in p)) (drop l.piece-index l.pieces) → AllByRecursion (λ (p : Piece). All SnapshotHasWords (snapshots_in p)) l.pieces
