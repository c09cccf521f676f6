-- The constants of the pieces of traces.
use Rattle.std.proofs.Common.{◌≡◌, ℕ, zero, suc, ◌+◌, ◌<◌, List, [], ◌∷◌, length, drop, subst, arith}
use Rattle.std.specs.List.{AllByRecursion}
use Rattle.std.specs.Prelude.{slice_index_or}
use Rattle.lists.proofs.Eaches.{each_append}
use Rattle.trace_ops.specs.declared.piece.Piece.{Piece}
use Rattle.trace_ops.specs.declared.piece.OptTrace.{OptTrace}
use Rattle.opt_meaning.specs.Pieces.{all_pieces}

each_more : (P : Piece → Type 0) (xs : List OptTrace) (i : ℕ) (d o : OptTrace) → i < length xs → o ≡ slice_index_or xs i d → AllByRecursion P o.pieces → AllByRecursion P (all_pieces (drop (suc i) xs)) → AllByRecursion P (all_pieces (drop i xs))
each_more P [] i d o lt is p h = absurd (omega arith)
each_more P (x ∷ xs) zero d o lt is p h = each_append P x.pieces (all_pieces xs) (subst (λ (y : OptTrace). AllByRecursion P y.pieces) is p) h
each_more P (x ∷ xs) (suc i) d o lt is p h = each_more P xs i d o (omega arith) is p h

-- those of the traces from place i on
pub each_step : (P : Piece → Type 0) (xs : List OptTrace) (i : ℕ) (d o : OptTrace) → i < length xs → o ≡ slice_index_or xs i d → AllByRecursion P o.pieces → AllByRecursion P (all_pieces (drop (i + 1) xs)) → AllByRecursion P (all_pieces (drop i xs))
each_step P xs i d o lt is p h =
    let one : i + 1 ≡ suc i = omega arith in each_more P xs i d o lt is p (subst (λ n. AllByRecursion P (all_pieces (drop n xs))) one h)
