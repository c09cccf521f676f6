-- Numbers below a bound.
use Rattle.std.proofs.Common.{◌≡◌, ℕ, zero, suc, ◌+◌, ◌<◌, List, [], ◌∷◌, ◌++◌, map, Some, length, slice_get, slice_index, subst, arith}

abbrev pub AreBelow : ℕ → List ℕ → Type 0
AreBelow n [] = Unit {0}
AreBelow n (x ∷ xs) = (x < n) × AreBelow n xs

pub below_get : (n : ℕ) (xs : List ℕ) → AreBelow n xs → (i r : ℕ) → slice_get xs i ≡ Some r → r < n
below_get n [] h i r e = cc
below_get n (x ∷ xs) h zero r e = subst (λ y. y < n) (unsome x r e) h.0
  where
    unsome : (a b : ℕ) → Some a ≡ Some b → a ≡ b
    unsome a b h = cc
below_get n (x ∷ xs) h (suc i) r e = below_get n xs h.1 i r e

pub below_index : (n : ℕ) (xs : List ℕ) (b : ℕ) → AreBelow n xs → b < length xs → slice_index xs b < n
below_index n [] b h w = absurd (omega arith)
below_index n (x ∷ xs) zero h w = h.0
below_index n (x ∷ xs) (suc b) h w = below_index n xs b h.1 (omega arith)

-- one more operation's results
pub below_step : {X : Type 0} (k : ℕ) (prefix : List ℕ) (rs : List X) → AreBelow (k + 1) prefix → AreBelow (k + 1 + 1) (prefix ++ map (λ r. k + 1) rs)
below_step k [] [] h = tt
below_step k [] (r ∷ rs) h = (omega arith, below_step k [] rs tt)
below_step k (x ∷ xs) rs h = (omega arith, below_step k xs rs h.1)

-- the label's boxes
pub zeros_low : {X : Type 0} (xs : List X) → AreBelow 1 (map {B = ℕ} (λ x. 0) xs)
zeros_low [] = tt
zeros_low (x ∷ xs) = (omega arith, zeros_low xs)
