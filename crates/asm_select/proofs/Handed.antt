-- Places that are handed in for a label and for a jump.
use Rattle.std.proofs.Common.{◌≡◌, ◌≢◌, ℕ, zero, suc, ◌+◌, Bool, true, false, List, [], ◌∷◌, ◌++◌, length, Some, refl, sym, ap, ◌∙◌, arith}
use Rattle.std.specs.Prelude.{◌||◌, slice_get}
use Rattle.std.specs.List.{AllZip, flat_map}
use Rattle.std.proofs.lemmas.Option.{get_or_from_slice_get}
use Rattle.trace_ops.specs.declared.trace.BoxId.{BoxId}
use Rattle.trace_ops.specs.declared.trace.Arg.{Arg}
use Rattle.trace_ops.specs.Pieces.{results_of, defined_by}
use Rattle.target_base.specs.declared.place.Place.{Place}
use Rattle.target_base.specs.declared.place.Place.TheVariants.{Word}
use Rattle.linear_scan.specs.Placing.{AreDistinct}
use Rattle.parallel_move.specs.Moving.{same, is_target, HasDistinctTargets}
use Rattle.asm_select.proofs.Same.{place_same}
use Rattle.asm_select.specs.declared.operand.Operand.{Operand}
use Rattle.asm_select.specs.declared.operand.Operand.TheVariants.{At, Imm}
use Rattle.asm_select.specs.Chosen.{Setting, operand_of, pair_of, pairs_of}
use Rattle.asm_select.specs.Given.{where_in, TargetsDiffer, LabelsServe}
use Rattle.asm_select.proofs.Naming.{numbered_at}

-- ---- targets

abbrev AreOthers : Place → List Place → Type 0
AreOthers p [] = Unit {0}
AreOthers p (x ∷ xs) = (x ≢ p) × AreOthers p xs

differs : (x p : Place) → x ≢ p → same x p ≡ false
differs x p ne = which (same x p) refl
  where
    which : (b : Bool) → same x p ≡ b → b ≡ false
    which true e = absurd (ne (place_same x p e))
    which false e = refl

pair_no_target : (x p : Place) (o : Operand) (pairs : List (Place × Place)) → x ≢ p → is_target p pairs ≡ false → is_target p (pair_of x o ++ pairs) ≡ false
pair_no_target x p (At y) pairs ne h = ap (λ (b : Bool). b || is_target p pairs) (differs x p ne) ∙ h
pair_no_target x p (Imm v) pairs ne h = h

no_target : (c : Setting) (p : Place) (args : List Arg) (targets : List Place) → AreOthers p targets → is_target p (pairs_of c args targets) ≡ false
no_target c p [] targets h = refl
no_target c p (a ∷ args) [] h = refl
no_target c p (a ∷ args) (x ∷ xs) h = pair_no_target x p (operand_of c a) (pairs_of c args xs) h.0 (no_target c p args xs h.1)

pair_differs : (x : Place) (o : Operand) (pairs : List (Place × Place)) → is_target x pairs ≡ false → HasDistinctTargets pairs → HasDistinctTargets (pair_of x o ++ pairs)
pair_differs x (At y) pairs h d = (h, d)
pair_differs x (Imm v) pairs h d = d

others : (p : Place) (xs : List Place) → ((i : ℕ) (q : Place) → slice_get xs i ≡ Some q → p ≢ q) → AreOthers p xs
others p [] h = tt
others p (x ∷ xs) h = (λ e. h 0 x refl (sym e), others p xs (λ i q e. h (suc i) q e))

differ_at : (c : Setting) (args : List Arg) (targets : List Place) → AreDistinct targets → HasDistinctTargets (pairs_of c args targets)
differ_at c [] targets d = tt
differ_at c (a ∷ args) [] d = tt
differ_at c (a ∷ args) (x ∷ xs) d =
    pair_differs x (operand_of c a) (pairs_of c args xs)
    (no_target c x args xs (others x xs (λ i q e. d 0 (suc i) x q (omega arith) refl e)))
    (differ_at c args xs (λ i j p q lt e f. d (suc i) (suc j) p q (omega (arith, lt)) e f))

pub targets_differ : TargetsDiffer
targets_differ c args d = differ_at c args c.to d

-- ---- labels

number_here : (xs ys : List BoxId) (i : ℕ) (b : BoxId) → slice_get xs i ≡ Some b → slice_get (xs ++ ys) i ≡ Some b
number_here [] ys i b e = absurd (cc)
number_here (x ∷ xs) ys zero b e = e
number_here (x ∷ xs) ys (suc i) b e = number_here xs ys i b e

zip_labels : (at : List Place) (label : List Place) (boxes : List BoxId) (s : ℕ) → length label ≡ length boxes → ((i : ℕ) (p : Place) → slice_get label i ≡ Some p → slice_get at (s + i) ≡ Some p) → ((i : ℕ) (b : BoxId) → slice_get boxes i ≡ Some b → b.number ≡ s + i) → AllZip (λ (p : Place) (b : BoxId). where_in at b.number ≡ p) label boxes
zip_labels at [] [] s n h g = tt
zip_labels at [] (b ∷ bs) s n h g = absurd (omega (arith, n))
zip_labels at (p ∷ ps) [] s n h g = absurd (omega (arith, n))
zip_labels at (p ∷ ps) (b ∷ bs) s n h g = (
  ap (where_in at) (g 0 b refl) ∙ get_or_from_slice_get at (s + 0) p (Word 16) (h 0 p refl),
  zip_labels at ps bs (s + 1) (omega (arith, n))
      (λ i q e. (let z : s + 1 + i ≡ s + suc i = omega arith in ap (slice_get at) z ∙ h (suc i) q e))
      (λ i x e. g (suc i) x e ∙ omega arith),
)

pub labels_serve : LabelsServe
labels_serve piece registers label places n a len =
    zip_labels places.at label piece.label 0 len
    (λ i p e. (let z : 0 + i ≡ i = omega arith in ap (slice_get places.at) z ∙ a.labels i p e))
    (λ i b e. numbered_at (defined_by piece) 0 i b n (number_here piece.label (flat_map results_of piece.ops) i b e))
