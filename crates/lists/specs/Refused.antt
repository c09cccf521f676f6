-- Items that are read one after the other, and the first that is refused.
use Rattle.std.specs.Prelude.{◌≡◌, ℕ, suc, ◌+◌, List, [], ◌∷◌, ◌++◌, length, Result, Ok, Err}

-- what an Ok leads to
abbrev pub ok_then : {S T F : Type 0} → Result S F → (S → Result T F) → Result T F
ok_then (Ok x) f = f x
ok_then (Err e) f = Err e

-- The items are read in order, each by its number and over what the earlier ones made, and the first that is refused decides.
unfoldable pub read_lines : {X S F : Type 0} → (ℕ → X → S → Result S F) → ℕ → List X → S → Result S F
read_lines read n [] s = Ok s
read_lines read n (x ∷ xs) s = ok_then (read n x s) (λ made. read_lines read (suc n) xs made)

-- the items in front are read, and this one is refused
pub record IsFirstBad {X S F : Type 0} (read : ℕ → X → S → Result S F) (xs : List X) (n : ℕ) (s : S) (e : F) : Type 0 where
  pub front : List X
  pub line : X
  pub back : List X
  pub made : S
  pub parts : xs ≡ front ++ line ∷ back
  pub good : read_lines read n front s ≡ Ok made
  pub bad : read (n + length front) line made ≡ Err e
