-- What a list has.
use Rattle.std.proofs.Common.{◌≡◌, ℕ, zero, suc, Bool, true, false, eqb, ◌||◌, List, [], ◌∷◌, ◌++◌, Some, map, refl, ap, sym, ◌∙◌, ◌⊎◌, inl, inr}
use Rattle.std.specs.Prelude.{slice_get, slice_set}
use Rattle.std.specs.List.{list_any, All, AllByRecursion}
use Rattle.std.proofs.lemmas.Bool.{or_parts, eq-eqb}
use Rattle.std.proofs.lemmas.Bool.Decides.{eqb_tells}
use Rattle.std.proofs.lemmas.List.Elements.{All-nil, All-cons}
use Rattle.lists.specs.Has.{Has}
use Rattle.lists.proofs.Bools.{true_not_false}
use Rattle.lists.proofs.Options.{some_same}

pub has_left : {X : Type 0} (xs ys : List X) (x : X) → Has xs x → Has (xs ++ ys) x
has_left [] ys x h = absurd h
has_left (z ∷ xs) ys x (inl e) = inl e
has_left (z ∷ xs) ys x (inr h) = inr (has_left xs ys x h)

pub has_right : {X : Type 0} (xs ys : List X) (x : X) → Has ys x → Has (xs ++ ys) x
has_right [] ys x h = h
has_right (z ∷ xs) ys x h = inr (has_right xs ys x h)

pub has_cases : {X : Type 0} (xs ys : List X) (x : X) → Has (xs ++ ys) x → Has xs x ⊎ Has ys x
has_cases [] ys x h = inr h
has_cases (z ∷ xs) ys x (inl e) = inl (inl e)
has_cases (z ∷ xs) ys x (inr h) = elim (has_cases xs ys x h) [ inl w ↦ inl (inr w) | inr w ↦ inr w ]

pub has_at : {X : Type 0} (xs : List X) (x : X) → Has xs x → (k : ℕ) × (slice_get xs k ≡ Some x)
has_at [] x h = absurd h
has_at (y ∷ ys) x (inl e) = (zero, ap Some e)
has_at (y ∷ ys) x (inr h) = let at = has_at ys x h in (suc at.0, at.1)

pub has_get : {X : Type 0} (xs : List X) (k : ℕ) (x : X) → slice_get xs k ≡ Some x → Has xs x
has_get [] k x h = cc
has_get (y ∷ ys) zero x h = inl (some_same h)
has_get (y ∷ ys) (suc k) x h = inr (has_get ys k x h)

pub has_set : {X : Type 0} (xs : List X) (i : ℕ) (x y : X) → Has (slice_set xs i x) y → Has xs y ⊎ (x ≡ y)
has_set [] i x y h = absurd h
has_set (z ∷ zs) zero x y (inl e) = inr e
has_set (z ∷ zs) zero x y (inr h) = inl (inr h)
has_set (z ∷ zs) (suc i) x y (inl e) = inl (inl e)
has_set (z ∷ zs) (suc i) x y (inr h) = elim (has_set zs i x y h) [ inl w ↦ inl (inr w) | inr e ↦ inr e ]

pub has_map : {X Y : Type 0} (f : X → Y) (xs : List X) (x : X) → Has xs x → Has (map f xs) (f x)
has_map f [] x h = absurd h
has_map f (y ∷ ys) x (inl e) = inl (ap f e)
has_map f (y ∷ ys) x (inr h) = inr (has_map f ys x h)

pub all_has : {X : Type 0} (P : X → Type 0) (xs : List X) → ((x : X) → Has xs x → P x) → All P xs
all_has P [] h = All-nil P
all_has P (x ∷ xs) h = All-cons P x xs (h x (inl refl)) (all_has P xs (λ y w. h y (inr w)))

pub each_has : {X : Type 0} (P : X → Type 0) (xs : List X) → ((x : X) → Has xs x → P x) → AllByRecursion P xs
each_has P [] h = tt
each_has P (x ∷ xs) h = (h x (inl refl), each_has P xs (λ y w. h y (inr w)))

-- the test of membership, written either way round
pub has_any : (n : ℕ) (ns : List ℕ) → list_any (λ m. eqb m n) ns ≡ true → Has ns n
has_any n [] h = cc
has_any n (m ∷ ms) h = elim (eqb_tells m n) [
  | inl t ↦ inl t.1
  | inr t ↦ inr (has_any n ms (sym (ap (λ (b : Bool). b || list_any (λ k. eqb k n) ms) t.0) ∙ h))
]

pub has_any_of : (n : ℕ) (ns : List ℕ) → list_any (eqb n) ns ≡ true → Has ns n
has_any_of n [] h = cc
has_any_of n (m ∷ ms) h = elim (eqb_tells n m) [
  | inl t ↦ inl (sym t.1)
  | inr t ↦ inr (has_any_of n ms (sym (ap (λ (b : Bool). b || list_any (eqb n) ms) t.0) ∙ h))
]

pub has_not : (n : ℕ) (ns : List ℕ) → list_any (λ m. eqb m n) ns ≡ false → Has ns n → ⊥
has_not n [] h w = w
has_not n (m ∷ ms) h (inl e) = let parts = or_parts (eqb m n) _ h in true_not_false (sym (eq-eqb m n e) ∙ parts.0)
has_not n (m ∷ ms) h (inr w) = has_not n ms (or_parts (eqb m n) _ h).1 w
