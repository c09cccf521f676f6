-- Pieces by name.
use Rattle.std.proofs.Common.{◌≡◌, Bool, true, false, cond, List, [], ◌∷◌, Some, subst}
use Rattle.std.specs.List.{AllByRecursion}
use Rattle.lists.proofs.Options.{some_same, none_some}
use Rattle.trace_ops.specs.declared.piece.Piece.{Piece}
use Rattle.trace_ops.specs.declared.piece.PieceId.{PieceId}
use Rattle.opt_meaning.specs.Pieces.{piece_at, same_piece}

-- what holds of each piece holds of the one of this name
pub each_at : (P : Piece → Type 0) (ps : List Piece) (q : PieceId) (p : Piece) → AllByRecursion P ps → piece_at ps q ≡ Some p → P p
each_at P [] q p h e = absurd (none_some e)
each_at P (x ∷ ps) q p h e = by (same_piece q x.id) (each_at P ps q p h.1) e
  where
    by : (b : Bool) → (piece_at ps q ≡ Some p → P p) → cond b (Some x) (piece_at ps q) ≡ Some p → P p
    by true more is = subst P (some_same is) h.0
    by false more is = more is
