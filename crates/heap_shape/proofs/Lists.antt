-- Membership, places, and lists of numbers in which none stands twice.
use Rattle.std.proofs.Common.{◌≡◌, ◌≢◌, ℕ, zero, suc, ◌<◌, ◌≤◌, Bool, true, false, eqb, ◌||◌, List, [], ◌∷◌, ◌++◌, Some, length, slice_get, slice_set, refl, ap, sym, ◌∙◌, ◌⊎◌, inl, inr}
use Rattle.std.specs.List.{list_any, AllByRecursion, IsDistinct}
use Rattle.std.proofs.lemmas.Bool.{ne_eqb}
use Rattle.std.proofs.lemmas.Bool.Decides.{eqb_tells}
use Rattle.std.proofs.lemmas.Map.Steps.{length-le_from_distinct_below}
use Rattle.heap_shape.specs.Visiting.{Has, IsOnce}

pub has_left : {X : Type 0} (xs ys : List X) (x : X) → Has xs x → Has (xs ++ ys) x
has_left [] ys x h = absurd h
has_left (z ∷ xs) ys x (inl e) = inl e
has_left (z ∷ xs) ys x (inr h) = inr (has_left xs ys x h)

pub has_right : {X : Type 0} (xs ys : List X) (x : X) → Has ys x → Has (xs ++ ys) x
has_right [] ys x h = h
has_right (z ∷ xs) ys x h = inr (has_right xs ys x h)

pub has_cases : {X : Type 0} (xs ys : List X) (x : X) → Has (xs ++ ys) x → Has xs x ⊎ Has ys x
has_cases [] ys x h = inr h
has_cases (z ∷ xs) ys x (inl e) = inl (inl e)
has_cases (z ∷ xs) ys x (inr h) = elim (has_cases xs ys x h) [ inl w ↦ inl (inr w) | inr w ↦ inr w ]

pub has_get : {X : Type 0} (xs : List X) (k : ℕ) (x : X) → slice_get xs k ≡ Some x → Has xs x
has_get [] k x h = cc
has_get (y ∷ ys) zero x h = inl cc
has_get (y ∷ ys) (suc k) x h = inr (has_get ys k x h)

pub once_push : (ns : List ℕ) (n : ℕ) → IsOnce ns → (Has ns n → ⊥) → IsOnce (ns ++ n ∷ [])
once_push [] n h new = (λ w. w, tt)
once_push (m ∷ ms) n h new = (
  λ w. elim (has_cases ms (n ∷ []) m w) [
    | inl v ↦ h.0 v
    | inr v ↦ elim v [ inl e ↦ new (inl (sym e)) | inr x ↦ x ]
  ],
  once_push ms n h.1 (λ w. new (inr w)),
)

-- numbers below n of which none stands twice are at most n
none_same : (n : ℕ) (ns : List ℕ) → (Has ns n → ⊥) → AllByRecursion (λ m. eqb n m ≡ false) ns
none_same n [] h = tt
none_same n (m ∷ ms) h = (ne_eqb n m (λ e. h (inl (sym e))), none_same n ms (λ w. h (inr w)))

distinct_once : (ns : List ℕ) → IsOnce ns → IsDistinct eqb ns
unfolding IsDistinct
distinct_once [] h = tt
distinct_once (n ∷ ns) h = (none_same n ns h.0, distinct_once ns h.1)

has_any : (n : ℕ) (ns : List ℕ) → list_any (eqb n) ns ≡ true → Has ns n
has_any n [] h = cc
has_any n (m ∷ ms) h = elim (eqb_tells n m) [
  | inl t ↦ inl (sym t.1)
  | inr t ↦ inr (has_any n ms (sym (ap (λ (b : Bool). b || list_any (eqb n) ms) t.0) ∙ h))
]

pub few_once : (ns : List ℕ) (n : ℕ) → IsOnce ns → ((k : ℕ) → Has ns k → k < n) → length ns ≤ n
few_once ns n h below = length-le_from_distinct_below ns n (distinct_once ns h) (λ q w. below q (has_any q ns w))

pub get_set_same : {X : Type 0} (xs : List X) (i : ℕ) (x y : X) → slice_get xs i ≡ Some x → slice_get (slice_set xs i y) i ≡ Some y
get_set_same [] i x y h = cc
get_set_same (z ∷ zs) zero x y h = refl
get_set_same (z ∷ zs) (suc i) x y h = get_set_same zs i x y h

pub get_set_other : {X : Type 0} (xs : List X) (i n : ℕ) (y : X) → n ≢ i → slice_get (slice_set xs i y) n ≡ slice_get xs n
get_set_other [] i n y ne = refl
get_set_other (z ∷ zs) zero zero y ne = absurd (ne refl)
get_set_other (z ∷ zs) zero (suc n) y ne = refl
get_set_other (z ∷ zs) (suc i) zero y ne = refl
get_set_other (z ∷ zs) (suc i) (suc n) y ne = get_set_other zs i n y (λ e. ne (ap suc e))

pub some_same : {X : Type 0} {a b : X} → Some a ≡ Some b → a ≡ b
some_same h = cc
