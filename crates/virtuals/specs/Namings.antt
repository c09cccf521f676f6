-- How many parts name a virtual object.
use Rattle.std.specs.Prelude.{◌≡◌, ℕ, ◌+◌, ◌-◌, ◌<◌, ◌≤◌, ◌^◌, ◌==◌, ◌&&◌, nat_lt, ◌⊎◌, if◌then◌else◌, List, [], ◌∷◌, Option, None, Some, length, slice_index, slice_set}
use Rattle.trace_ops.specs.declared.piece.Val.{Val}
use Rattle.trace_ops.specs.declared.piece.Val.TheVariants as l
use Rattle.trace_ops.specs.declared.piece.Shape.{Shape}
use Rattle.virtuals.specs.Shapes.{IsSound}

-- 1 where a part names it
abbrev pub naming : ℕ → Val → ℕ
naming m (l.Known x) = 0
naming m (l.Virtual n) = if n == m then 1 else 0

abbrev pub namings_in : ℕ → List Val → ℕ
namings_in m [] = 0
namings_in m (x ∷ xs) = naming m x + namings_in m xs

abbrev pub namings_of : ℕ → Option Shape → ℕ
namings_of m None = 0
namings_of m (Some shape) = namings_in m shape.parts

abbrev pub namings : ℕ → List (Option Shape) → ℕ
namings m [] = 0
namings m (shape ∷ shapes) = namings_of m shape + namings m shapes

-- a count of 32 bits that is no less; the greatest count stands for all that are greater
abbrev pub IsAtLeast : ℕ → ℕ → Type 0
IsAtLeast count n = (n ≤ count) ⊎ (count + 1 ≡ 2 ^ 32)

-- the counts after one more part, and after parts that are gone
abbrev pub Raises : List ℕ → List ℕ → Val → Type 0
Raises old new part = (m n : ℕ) → m < length old → IsAtLeast (slice_index old m) n → IsAtLeast (slice_index new m) (n + naming m part)

abbrev pub Lowers : List ℕ → List ℕ → List Val → Type 0
Lowers old new parts = (m n : ℕ) → m < length old → IsAtLeast (slice_index old m) (n + namings_in m parts) → IsAtLeast (slice_index new m) n

-- one fewer; the greatest count stays, and so does 0
abbrev pub lowered_count : ℕ → ℕ
lowered_count count = if nat_lt 0 count && nat_lt count 4294967295 then count - 1 else count

-- the counts after a part that is gone, after several, and after those of a shape
abbrev pub counts_without : Val → List ℕ → List ℕ
counts_without (l.Known x) counts = counts
counts_without (l.Virtual n) counts = slice_set counts n (lowered_count (slice_index counts n))

abbrev pub counts_without_all : List Val → List ℕ → List ℕ
counts_without_all [] counts = counts
counts_without_all (x ∷ xs) counts = counts_without_all xs (counts_without x counts)

abbrev pub counts_without_shape : Option Shape → List ℕ → List ℕ
counts_without_shape None counts = counts
counts_without_shape (Some shape) counts = counts_without_all shape.parts counts

-- no virtual object is named by more parts than its count says
pub record AreCounted (shapes : List (Option Shape)) (counts : List ℕ) : Type 0 where
  pub room : length shapes ≤ length counts
  pub each : (m : ℕ) → m < length shapes → IsAtLeast (slice_index counts m) (namings m shapes)

-- shapes with the counts of who names whom
pub record AreKept (shapes : List (Option Shape)) (counts : List ℕ) : Type 0 where
  pub sound : IsSound shapes
  pub counted : AreCounted shapes counts
