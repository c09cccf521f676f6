-- Places of a list, also of one that is a map by number; `slice_get_within`, `slice_get-map` and `length-set` are std's.
use Rattle.std.proofs.Common.{◌≡◌, ◌≢◌, ℕ, zero, suc, ◌+◌, ◌<◌, List, [], ◌∷◌, ◌++◌, Some, length, map, refl, ap, arith}
use Rattle.std.specs.Prelude.{slice_get, slice_set}
use Rattle.lists.proofs.Options.{some_same}

pub get_some : {X : Type 0} (xs : List X) (k : ℕ) → k < length xs → (x : X) × (slice_get xs k ≡ Some x)
get_some [] k h = absurd (omega arith)
get_some (x ∷ xs) zero h = (x, refl)
get_some (x ∷ xs) (suc k) h = get_some xs k (omega arith)

pub get_map : {X Y : Type 0} (f : X → Y) (xs : List X) (k : ℕ) (x : X) → slice_get xs k ≡ Some x → slice_get (map f xs) k ≡ Some (f x)
get_map f [] k x h = cc
get_map f (y ∷ xs) zero x h = let same : y ≡ x = some_same h in ap (λ z. Some (f z)) same
get_map f (y ∷ xs) (suc k) x h = get_map f xs k x h

-- a place that is written
pub get_set_same : {X : Type 0} (xs : List X) (i : ℕ) (x y : X) → slice_get xs i ≡ Some x → slice_get (slice_set xs i y) i ≡ Some y
get_set_same [] i x y h = cc
get_set_same (z ∷ zs) zero x y h = refl
get_set_same (z ∷ zs) (suc i) x y h = get_set_same zs i x y h

pub get_set_within : {X : Type 0} (xs : List X) (i : ℕ) (y : X) → i < length xs → slice_get (slice_set xs i y) i ≡ Some y
get_set_within [] i y h = absurd (omega arith)
get_set_within (z ∷ zs) zero y h = refl
get_set_within (z ∷ zs) (suc i) y h = get_set_within zs i y (omega arith)

pub get_set_other : {X : Type 0} (xs : List X) (i n : ℕ) (y : X) → n ≢ i → slice_get (slice_set xs i y) n ≡ slice_get xs n
get_set_other [] i n y ne = refl
get_set_other (z ∷ zs) zero zero y ne = absurd (ne refl)
get_set_other (z ∷ zs) zero (suc n) y ne = refl
get_set_other (z ∷ zs) (suc i) zero y ne = refl
get_set_other (z ∷ zs) (suc i) (suc n) y ne = get_set_other zs i n y (λ e. ne (ap suc e))

pub set_left : {X : Type 0} (xs ys : List X) (i : ℕ) (y : X) → i < length xs → slice_set (xs ++ ys) i y ≡ slice_set xs i y ++ ys
set_left [] ys i y lt = absurd (omega arith)
set_left (x ∷ xs) ys zero y lt = refl
set_left (x ∷ xs) ys (suc i) y lt = ap (λ l. x ∷ l) (set_left xs ys i y (omega arith))

pub set_right : {X : Type 0} (xs ys : List X) (n i : ℕ) (y : X) → n ≡ length xs + i → slice_set (xs ++ ys) n y ≡ xs ++ slice_set ys i y
set_right [] ys n i y e = let same : n ≡ i = omega arith in ap (λ k. slice_set ys k y) same
set_right (x ∷ xs) ys zero i y e = absurd (omega arith)
set_right (x ∷ xs) ys (suc n) i y e = ap (λ l. x ∷ l) (set_right xs ys n i y (omega arith))
