use Rattle.std.proofs.Common.{◌≡◌, ◌++◌, drop}
use Rattle.std.specs.Prelude.{map}
use Rattle.std.specs.Borrow.{Bor}
use Rattle.trace_ops.specs.declared.piece.Piece.{Piece}
use Rattle.bridge_patch.proofs.flat.add_pieces.Given as goal

abbrev pub invariant-loop-piece : goal.invariant-loop-piece
invariant-loop-piece l = map (λ (b : Bor Piece). b.now) l.all.items ++ drop l.piece-index l.pieces ≡ map (λ (b : Bor Piece). b.now) l.initial.all.items ++ l.pieces
