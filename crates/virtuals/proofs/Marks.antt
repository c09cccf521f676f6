-- Marks tell what the work list holds.
use Rattle.std.proofs.Common.{cond, ◌≡◌, ℕ, ◌<◌, Bool, true, false, ◌||◌, eqb, List, [], ◌∷◌, ◌++◌, Option, Some, length, refl, sym, ◌∙◌, inl, inr}
use Rattle.std.specs.List.{list_any}
use Rattle.std.proofs.lemmas.List.Folds.{list_any-append}
use Rattle.std.proofs.lemmas.Option.{slice_get_within}
use Rattle.trace_ops.specs.declared.piece.Val.{Val}
use Rattle.trace_ops.specs.declared.piece.Val.TheVariants as l
use Rattle.trace_ops.specs.declared.piece.Shape.{Shape}
use Rattle.virtuals.specs.Shapes.{Has, parts_of, IsLive, IsSound}
use Rattle.virtuals.specs.Order.{AreMarks, AreBelow}

or_last : (x y : Bool) → (x || (y || false)) ≡ (y || x)
or_last true true = refl
or_last true false = refl
or_last false true = refl
or_last false false = refl

any_push : (work : List ℕ) (id n : ℕ) → list_any (λ m. eqb m n) (work ++ id ∷ []) ≡ (eqb id n || list_any (λ m. eqb m n) work)
any_push work id n = list_any-append (λ m. eqb m n) work (id ∷ []) ∙ or_last (list_any (λ m. eqb m n) work) (eqb id n)

-- the mark of one more
pub marks_push : (work marks old : List ℕ) (id : ℕ) → AreMarks work old → ((n : ℕ) → list_any (eqb n) marks ≡ cond (eqb id n) true (list_any (eqb n) old)) → AreMarks (work ++ id ∷ []) marks
marks_push work marks old id h new n = new n ∙ by (eqb id n) ∙ sym (any_push work id n)
  where
    by : (b : Bool) → cond b true (list_any (eqb n) old) ≡ (b || list_any (λ m. eqb m n) work)
    by true = refl
    by false = h n

-- what is live has a mark
pub live_below : (shapes : List (Option Shape)) (n : ℕ) → IsLive shapes n → n < length shapes
live_below shapes n live = slice_get_within shapes n (Some live.0) live.1

below_each : (count : ℕ) (xs : List Val) → ((m : ℕ) → Has xs (l.Virtual m) → m < count) → AreBelow count xs
below_each count [] h = tt
below_each count (l.Known x ∷ xs) h = (tt, below_each count xs (λ m w. h m (inr w)))
below_each count (l.Virtual n ∷ xs) h = (h n (inl refl), below_each count xs (λ m w. h m (inr w)))

pub parts_below : (shapes : List (Option Shape)) (n : ℕ) → IsSound shapes → AreBelow (length shapes) (parts_of shapes n)
parts_below shapes n sound = below_each (length shapes) (parts_of shapes n) (λ m w. live_below shapes m (sound.closed n m w))
