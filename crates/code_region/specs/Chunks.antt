-- The bytes of chunks, the oldest first.
use Rattle.std.specs.Prelude.{◌≡◌, ℕ, ◌-◌, List, [], ◌∷◌, ◌++◌, length, min}

-- the bytes of all chunks, in order
abbrev pub joined : List (List ℕ) → List ℕ
joined [] = []
joined (c ∷ cs) = c ++ joined cs

-- the chunks hold so many bytes, and none has a byte before those ahead of it are full
abbrev pub IsFilled : ℕ → List (List ℕ) → Type 0
IsFilled n [] = n ≡ 0
IsFilled n (c ∷ cs) = (length c ≡ min n 65536) × IsFilled (n - 65536) cs
