-- The moves that are planned.
use Rattle.std.proofs.Common.{◌≡◌, ◌≢◌, ℕ, zero, suc, Bool, true, false, Some, List, [], ◌∷◌, ◌++◌, length, take, ◌+◌, ◌≤◌, refl, sym, ap, ◌∙◌, arith}
use Rattle.std.specs.Prelude.{slice_get, ◌||◌}
use Rattle.trace_ops.specs.declared.trace.Arg.{Arg}
use Rattle.trace_ops.specs.declared.trace.Arg.TheVariants.{Of, Const, Null, Class, Func, Ptr}
use Rattle.target_base.specs.declared.place.Place.{Place}
use Rattle.parallel_move.specs.Moving.{same, is_target, HasDistinctTargets}
use Rattle.linear_scan.specs.Placing.{AreDistinct}
use Rattle.asm_select.specs.Chosen.{Where, Setting, arg_places, operand_of, pair_of, pairs_of}
use Rattle.asm_select.specs.Drafting.{pair_at, pairs_at}
use Rattle.asm_select.proofs.Same.{place_same}
use Rattle.asm_select.proofs.Effects.{in_other}

abbrev pub AreOthers : Place → List Place → Type 0
AreOthers p [] = Unit {0}
AreOthers p (x ∷ xs) = (p ≢ x) × AreOthers p xs

abbrev pub AllOthers : List Place → Type 0
AllOthers [] = Unit {0}
AllOthers (x ∷ xs) = AreOthers x xs × AllOthers xs

differs : (x p : Place) → p ≢ x → same x p ≡ false
differs x p ne = which (same x p) refl
  where
    which : (b : Bool) → same x p ≡ b → b ≡ false
    which true e = absurd (ne (sym (place_same x p e)))
    which false e = refl

pair_no_target : (at : Where) (x p : Place) (a : Arg) (pairs : List (Place × Place)) → p ≢ x → is_target p pairs ≡ false → is_target p (pair_at at x a ++ pairs) ≡ false
pair_no_target at x p (Of b) pairs ne h = ap (λ (t : Bool). t || is_target p pairs) (differs x p ne) ∙ h
pair_no_target at x p (Const w) pairs ne h = h
pair_no_target at x p Null pairs ne h = h
pair_no_target at x p (Class n) pairs ne h = h
pair_no_target at x p (Func n) pairs ne h = h
pair_no_target at x p (Ptr n) pairs ne h = h

no_target : (at : Where) (p : Place) (args : List Arg) (targets : List Place) → AreOthers p targets → is_target p (pairs_at at args targets) ≡ false
no_target at p [] targets h = refl
no_target at p (a ∷ args) [] h = refl
no_target at p (a ∷ args) (x ∷ xs) h = pair_no_target at x p a (pairs_at at args xs) h.0 (no_target at p args xs h.1)

pair_differs : (at : Where) (x : Place) (a : Arg) (pairs : List (Place × Place)) → is_target x pairs ≡ false → HasDistinctTargets pairs → HasDistinctTargets (pair_at at x a ++ pairs)
pair_differs at x (Of b) pairs h d = (h, d)
pair_differs at x (Const w) pairs h d = d
pair_differs at x Null pairs h d = d
pair_differs at x (Class n) pairs h d = d
pair_differs at x (Func n) pairs h d = d
pair_differs at x (Ptr n) pairs h d = d

pub others_differ : (at : Where) (args : List Arg) (targets : List Place) → AllOthers targets → HasDistinctTargets (pairs_at at args targets)
others_differ at [] targets h = tt
others_differ at (a ∷ args) [] h = tt
others_differ at (a ∷ args) (x ∷ xs) h = pair_differs at x a (pairs_at at args xs) (no_target at x args xs h.0) (others_differ at args xs h.1)

others : (p : Place) (xs : List Place) → ((i : ℕ) (q : Place) → slice_get xs i ≡ Some q → p ≢ q) → AreOthers p xs
others p [] h = tt
others p (x ∷ xs) h = (h 0 x refl, others p xs (λ i q e. h (suc i) q e))

distinct_others : (xs : List Place) → AreDistinct xs → AllOthers xs
distinct_others [] d = tt
distinct_others (x ∷ xs) d = (others x xs (λ i q e. d 0 (suc i) x q (omega arith) refl e), distinct_others xs (λ i j p q lt e f. d (suc i) (suc j) p q (omega (arith, lt)) e f))

pub distinct_differ : (at : Where) (args : List Arg) (targets : List Place) → AreDistinct targets → HasDistinctTargets (pairs_at at args targets)
distinct_differ at args targets d = others_differ at args targets (distinct_others targets d)

pub args_apart : AllOthers arg_places
args_apart = (
  (in_other 7 6 (omega arith), (in_other 7 2 (omega arith), (in_other 7 1 (omega arith), (in_other 7 8 (omega arith), (in_other 7 9 (omega arith), tt))))),
  (
    (in_other 6 2 (omega arith), (in_other 6 1 (omega arith), (in_other 6 8 (omega arith), (in_other 6 9 (omega arith), tt)))),
    (
      (in_other 2 1 (omega arith), (in_other 2 8 (omega arith), (in_other 2 9 (omega arith), tt))),
      (
        (in_other 1 8 (omega arith), (in_other 1 9 (omega arith), tt)),
        ((in_other 8 9 (omega arith), tt), (tt, tt)),
      ),
    ),
  ),
)

pub args_differ : (at : Where) (args : List Arg) → HasDistinctTargets (pairs_at at args arg_places)
args_differ at args = others_differ at args arg_places args_apart

-- the pairs of a setting are those of its boxes' places
pub pair_same : (c : Setting) (target : Place) (a : Arg) → pair_of target (operand_of c a) ≡ pair_at c.at target a
pair_same c target (Of b) = refl
pair_same c target (Const w) = refl
pair_same c target Null = refl
pair_same c target (Class n) = refl
pair_same c target (Func n) = refl
pair_same c target (Ptr n) = refl

pub pairs_same : (c : Setting) (args : List Arg) (targets : List Place) → pairs_of c args targets ≡ pairs_at c.at args targets
pairs_same c [] targets = refl
pairs_same c (a ∷ args) [] = refl
pairs_same c (a ∷ args) (x ∷ xs) =
    ap (λ l. l ++ pairs_of c args xs) (pair_same c x a) ∙ ap (λ l. pair_at c.at x a ++ l) (pairs_same c args xs)

-- ---- lists that are gone through

some_is : {X : Type 0} (a b : X) → Some a ≡ Some b → a ≡ b
some_is a b h = cc

pub take_next : {X : Type 0} (xs : List X) (k : ℕ) (x : X) → slice_get xs k ≡ Some x → take (k + 1) xs ≡ take k xs ++ x ∷ []
take_next [] k x e = absurd (cc)
take_next (y ∷ ys) zero x e = ap (λ z. z ∷ []) (some_is y x e)
take_next (y ∷ ys) (suc k) x e =
    let n : suc k + 1 ≡ suc (k + 1) = omega arith in
    ap (λ m. take m (y ∷ ys)) n ∙ ap (λ l. y ∷ l) (take_next ys k x e)

pub take_whole : {X : Type 0} (xs : List X) (k : ℕ) → length xs ≤ k → take k xs ≡ xs
take_whole [] zero h = refl
take_whole [] (suc k) h = refl
take_whole (y ∷ ys) zero h = absurd (omega (arith, h))
take_whole (y ∷ ys) (suc k) h = ap (λ l. y ∷ l) (take_whole ys k (omega (arith, h)))
