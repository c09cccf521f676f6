-- Words of intervals.
use Rattle.std.specs.Prelude.{◌≡◌, ℤ, ◌≤ℤ◌, List, [], ◌∷◌}
use Rattle.int_bounds.specs.declared.interval.Interval.{Interval}

-- the number lies between the bounds
abbrev pub IsWithin : Interval → ℤ → Type 0
IsWithin i x = (i.low ≤ℤ x) × (x ≤ℤ i.high)

-- each number lies in the interval at its place, and there are as many numbers as intervals
abbrev pub AreWithin : List Interval → List ℤ → Type 0
AreWithin [] [] = Unit {0}
AreWithin (i ∷ is) (x ∷ xs) = IsWithin i x × AreWithin is xs
AreWithin _ _ = ⊥

-- the number is the only one between the bounds
abbrev pub IsOnly : Interval → ℤ → Type 0
IsOnly i x = (i.low ≡ x) × (i.high ≡ x)

-- each number is the only one of the interval at its place
abbrev pub AreOnly : List Interval → List ℤ → Type 0
AreOnly [] [] = Unit {0}
AreOnly (i ∷ is) (x ∷ xs) = IsOnly i x × AreOnly is xs
AreOnly _ _ = ⊥

-- the first interval reaches no further than the second
abbrev pub IsPart : Interval → Interval → Type 0
IsPart i j = (j.low ≤ℤ i.low) × (i.high ≤ℤ j.high)
