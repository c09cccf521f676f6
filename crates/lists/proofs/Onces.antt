-- Lists in which nothing stands twice.
use Rattle.std.proofs.Common.{◌≡◌, ℕ, zero, suc, ◌<◌, ◌≤◌, false, eqb, List, [], ◌∷◌, ◌++◌, Some, length, slice_get, refl, ap, sym, subst, inl, inr, arith}
use Rattle.std.specs.List.{AllByRecursion, IsDistinct}
use Rattle.std.proofs.lemmas.Bool.{ne_eqb}
use Rattle.std.proofs.lemmas.Map.Steps.{length-le_from_distinct_below}
use Rattle.lists.specs.Has.{Has, IsOnce}
use Rattle.lists.proofs.Options.{some_same}
use Rattle.lists.proofs.Membership.{has_cases, has_at, has_get, has_any_of}

pub once_push : {X : Type 0} (xs : List X) (x : X) → IsOnce xs → (Has xs x → ⊥) → IsOnce (xs ++ x ∷ [])
once_push [] x h new = (λ w. w, tt)
once_push (y ∷ ys) x h new = (
  λ w. elim (has_cases ys (x ∷ []) y w) [
    | inl v ↦ h.0 v
    | inr v ↦ elim v [ inl e ↦ new (inl (sym e)) | inr z ↦ z ]
  ],
  once_push ys x h.1 (λ w. new (inr w)),
)

pub once_place : {X : Type 0} (xs : List X) → IsOnce xs → (i j : ℕ) (x : X) → slice_get xs i ≡ Some x → slice_get xs j ≡ Some x → i ≡ j
once_place [] h i j x a b = cc
once_place (y ∷ ys) h zero zero x a b = refl
once_place (y ∷ ys) h zero (suc j) x a b = absurd (h.0 (subst (Has ys) (some_same (sym a)) (has_get ys j x b)))
once_place (y ∷ ys) h (suc i) zero x a b = absurd (h.0 (subst (Has ys) (some_same (sym b)) (has_get ys i x a)))
once_place (y ∷ ys) h (suc i) (suc j) x a b = ap suc (once_place ys h.1 i j x a b)

apart : (j : ℕ) → 0 ≡ suc j → ⊥
apart j e = omega (arith, e)

less : {i j : ℕ} → suc i ≡ suc j → i ≡ j
less e = omega (arith, e)

pub once_from : {X : Type 0} (xs : List X) → ((i j : ℕ) (x : X) → slice_get xs i ≡ Some x → slice_get xs j ≡ Some x → i ≡ j) → IsOnce xs
once_from [] h = tt
once_from (y ∷ ys) h = (λ w. let at = has_at ys y w in apart at.0 (h 0 (suc at.0) y refl at.1), once_from ys (λ i j x a b. less (h (suc i) (suc j) x a b)))

-- std's word for the same
pub none_same : (n : ℕ) (ns : List ℕ) → (Has ns n → ⊥) → AllByRecursion (λ m. eqb n m ≡ false) ns
none_same n [] h = tt
none_same n (m ∷ ms) h = (ne_eqb n m (λ e. h (inl (sym e))), none_same n ms (λ w. h (inr w)))

pub distinct_once : (ns : List ℕ) → IsOnce ns → IsDistinct eqb ns
unfolding IsDistinct
distinct_once [] h = tt
distinct_once (n ∷ ns) h = (none_same n ns h.0, distinct_once ns h.1)

-- numbers below n are at most n
pub few_once : (ns : List ℕ) (n : ℕ) → IsOnce ns → ((k : ℕ) → Has ns k → k < n) → length ns ≤ n
few_once ns n h below = length-le_from_distinct_below ns n (distinct_once ns h) (λ q w. below q (has_any_of q ns w))
