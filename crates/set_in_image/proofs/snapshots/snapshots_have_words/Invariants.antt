use Rattle.std.proofs.Common.{drop}
use Rattle.std.specs.List.{All, AllByRecursion}
use Rattle.trace_ops.specs.declared.piece.Piece.{Piece}
use Rattle.trace_ops.specs.Sound.{snapshots_in}
use Rattle.opt_meaning.specs.Pieces.{all_pieces}
use Rattle.set_in_image.specs.Snapshots.{SnapshotHasWords}
use Rattle.set_in_image.proofs.snapshots.snapshots_have_words.Given as goal

abbrev pub invariant-loop-trace : goal.invariant-loop-trace
invariant-loop-trace l = AllByRecursion (λ (p : Piece). All SnapshotHasWords (snapshots_in p)) (all_pieces (drop l.trace-index l.traces)) → AllByRecursion (λ (p : Piece). All SnapshotHasWords (snapshots_in p)) (all_pieces l.traces)
