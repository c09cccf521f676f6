-- How merge points are spelled.
use Rattle.std.specs.Prelude.{◌≡◌, ℕ, false, List, [], ◌∷◌, ◌++◌, codes}
use Rattle.std.specs.Str.{bytes_eq}

-- words whose round brackets are balanced
pub data Balanced : List (List ℕ) → Type 0 where
  nothing : Balanced []
  a_word : {w : List ℕ} {ws : List (List ℕ)} → bytes_eq w (codes "(") ≡ false → bytes_eq w (codes ")") ≡ false → Balanced ws → Balanced (w ∷ ws)
  brackets : {inside behind : List (List ℕ)} → Balanced inside → Balanced behind → Balanced (codes "(" ∷ (inside ++ codes ")" ∷ behind))

-- the name, and any words in round brackets that are balanced
pub data SpellsMerge : List (List ℕ) → Type 0 where
  merge_point : {inside : List (List ℕ)} → Balanced inside → SpellsMerge (codes "debug_merge_point" ∷ codes "(" ∷ (inside ++ codes ")" ∷ []))
