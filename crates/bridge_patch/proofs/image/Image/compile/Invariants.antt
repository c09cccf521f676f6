use Rattle.std.proofs.Common.{◌≡◌, take}
use Rattle.std.specs.Prelude.{map}
use Rattle.std.specs.Borrow.{Bor}
use Rattle.trace_ops.specs.declared.piece.Piece.{Piece}
use Rattle.opt_meaning.specs.Pieces.{all_pieces}
use Rattle.bridge_patch.proofs.image.Image.compile.Given as goal

abbrev pub invariant-loop-one : goal.invariant-loop-one
invariant-loop-one l = map (λ (b : Bor Piece). b.now) l.pieces.items ≡ all_pieces (take l.one-index l.loops)
