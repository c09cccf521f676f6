use Rattle.std.proofs.Common.{drop}
use Rattle.std.specs.List.{All, AllByRecursion}
use Rattle.trace_ops.specs.declared.piece.Piece.{Piece}
use Rattle.opt_meaning.specs.Pieces.{all_pieces}
use Rattle.opt_meaning.specs.Worded.{OpHasWords}
use Rattle.set_in_image.proofs.words.constants_are_words.Given as goal

abbrev pub invariant-loop-trace : goal.invariant-loop-trace
invariant-loop-trace l = AllByRecursion (λ (p : Piece). All OpHasWords p.ops) (all_pieces (drop l.trace-index l.traces)) → AllByRecursion (λ (p : Piece). All OpHasWords p.ops) (all_pieces l.traces)
