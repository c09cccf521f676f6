use Rattle.std.proofs.Common.{drop}
use Rattle.std.specs.List.{All, AllByRecursion}
use Rattle.trace_ops.specs.declared.piece.Piece.{Piece}
use Rattle.opt_meaning.specs.Worded.{OpHasWords}
use Rattle.set_in_image.proofs.words.pieces_have_words.Given as goal

abbrev pub invariant-loop-piece : goal.invariant-loop-piece
invariant-loop-piece l = AllByRecursion (λ (p : Piece). All OpHasWords p.ops) (drop l.piece-index l.pieces) → AllByRecursion (λ (p : Piece). All OpHasWords p.ops) l.pieces
