-- How near the bounds of results come to the results.
use Rattle.std.specs.Prelude.{◌≡◌, ℤ, pos, neg_ℤ, ◌+ℤ◌, ◌-ℤ◌, ◌≤ℤ◌, List, [], ◌∷◌, FitsSigned}
use Rattle.std.specs.Int.{w64}
use Rattle.trace_ops.specs.declared.code.OpCode.{OpCode}
use Rattle.trace_ops.specs.declared.code.OpCode.TheVariants as code
use Rattle.trace_ops.specs.Words.{inverted, at_least_zero, less, at_most, equal, unequal, unsigned_less, unsigned_at_most}
use Rattle.int_bounds.specs.declared.interval.Interval.{Interval}
use Rattle.int_bounds.specs.Within.{IsWithin, IsOnly}

-- the bounds are these numbers, if they are words
abbrev pub IsSpan : ℤ → ℤ → Interval → Type 0
IsSpan low high r = FitsSigned w64 low → FitsSigned w64 high → (r.low ≡ low) × (r.high ≡ high)

-- from 0 to the upper bound of a mask at most, if that is never negative
abbrev pub IsMasked : Interval → Interval → Type 0
IsMasked mask r = pos 0 ≤ℤ mask.low → (pos 0 ≤ℤ r.low) × (r.high ≤ℤ mask.high)

-- where a test answers the same on all words, the result is that answer alone
abbrev pub SettlesOne : (ℤ → ℤ) → Interval → Interval → Type 0
SettlesOne test a r = (w : ℤ) → ((x : ℤ) → IsWithin a x → test x ≡ w) → IsOnly r w

-- the same of all pairs of words
abbrev pub Settles : (ℤ → ℤ → ℤ) → Interval → Interval → Interval → Type 0
Settles test a b r = (w : ℤ) → ((x y : ℤ) → IsWithin a x → IsWithin b y → test x y ≡ w) → IsOnly r w

-- of one word
abbrev pub IsNearOne : OpCode → Interval → Interval → Type 0
IsNearOne code.IntNeg a r = IsSpan (neg_ℤ a.high) (neg_ℤ a.low) r
IsNearOne code.IntInvert a r = (r.low ≡ inverted a.high) × (r.high ≡ inverted a.low)
IsNearOne code.IntForceGeZero a r = (r.low ≡ at_least_zero a.low) × (r.high ≡ at_least_zero a.high)
IsNearOne code.IntIsZero a r = SettlesOne (λ x. equal x (pos 0)) a r
IsNearOne code.IntIsTrue a r = SettlesOne (λ x. unequal x (pos 0)) a r
IsNearOne code.SameAsI a r = (r.low ≡ a.low) × (r.high ≡ a.high)
IsNearOne _ a r = Unit {0}

-- of two words
abbrev pub IsNearTwo : OpCode → Interval → Interval → Interval → Type 0
IsNearTwo code.IntAdd a b r = IsSpan (a.low +ℤ b.low) (a.high +ℤ b.high) r
IsNearTwo code.IntSub a b r = IsSpan (a.low -ℤ b.high) (a.high -ℤ b.low) r
IsNearTwo code.IntAnd a b r = IsMasked a r × IsMasked b r
IsNearTwo code.IntLt a b r = Settles less a b r
IsNearTwo code.IntLe a b r = Settles at_most a b r
IsNearTwo code.IntEq a b r = Settles equal a b r
IsNearTwo code.IntNe a b r = Settles unequal a b r
IsNearTwo code.IntGt a b r = Settles (λ x y. less y x) a b r
IsNearTwo code.IntGe a b r = Settles (λ x y. at_most y x) a b r
IsNearTwo code.UintLt a b r = Settles unsigned_less a b r
IsNearTwo code.UintLe a b r = Settles unsigned_at_most a b r
IsNearTwo code.UintGt a b r = Settles (λ x y. unsigned_less y x) a b r
IsNearTwo code.UintGe a b r = Settles (λ x y. unsigned_at_most y x) a b r
IsNearTwo _ a b r = Unit {0}

-- of as many words as there are intervals
abbrev pub IsNear : OpCode → List Interval → Interval → Type 0
IsNear operation (a ∷ []) r = IsNearOne operation a r
IsNear operation (a ∷ b ∷ []) r = IsNearTwo operation a b r
IsNear operation _ r = Unit {0}
