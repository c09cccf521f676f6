-- Nearness speaks of the bounds alone, and of as many intervals as an operation takes.
use Rattle.std.proofs.Common.{◌≡◌, ◌∙◌, ℤ, pos, ◌≤◌, ◌<◌, ◌≤ℤ◌, List, [], ◌∷◌, length, slice_index_or, subst, sym, arith}
use Rattle.trace_ops.specs.declared.code.OpCode.{OpCode}
use Rattle.trace_ops.specs.declared.code.OpCode.TheVariants as code
use Rattle.int_bounds.specs.declared.interval.Interval.{Interval}
use Rattle.int_bounds.specs.Near.{IsSpan, IsMasked, Settles, SettlesOne, IsNearOne, IsNearTwo, IsNear}

span-same : (low high : ℤ) (r s : Interval) → s.low ≡ r.low → s.high ≡ r.high → IsSpan low high r → IsSpan low high s
span-same low high r s e f near = λ l h. let (p, q) = near l h in (e ∙ p, f ∙ q)

mask-same : (mask r s : Interval) → s.low ≡ r.low → s.high ≡ r.high → IsMasked mask r → IsMasked mask s
mask-same mask r s e f near = λ l. let (p, q) = near l in (subst (λ x. pos 0 ≤ℤ x) (sym e) p, subst (λ x. x ≤ℤ mask.high) (sym f) q)

settles-same : (test : ℤ → ℤ → ℤ) (a b r s : Interval) → s.low ≡ r.low → s.high ≡ r.high → Settles test a b r → Settles test a b s
settles-same test a b r s e f near = λ w all. let (p, q) = near w all in (e ∙ p, f ∙ q)

settles-same_one : (test : ℤ → ℤ) (a r s : Interval) → s.low ≡ r.low → s.high ≡ r.high → SettlesOne test a r → SettlesOne test a s
settles-same_one test a r s e f near = λ w all. let (p, q) = near w all in (e ∙ p, f ∙ q)

near-same_one : (operation : OpCode) (a r s : Interval) → s.low ≡ r.low → s.high ≡ r.high → IsNearOne operation a r → IsNearOne operation a s
near-same_one code.IntIsZero a r s e f near = settles-same_one _ a r s e f near
near-same_one code.IntIsTrue a r s e f near = settles-same_one _ a r s e f near
near-same_one code.IntNeg a r s e f near = span-same _ _ r s e f near
near-same_one code.IntInvert a r s e f (p, q) = (e ∙ p, f ∙ q)
near-same_one code.IntForceGeZero a r s e f (p, q) = (e ∙ p, f ∙ q)
near-same_one code.SameAsI a r s e f (p, q) = (e ∙ p, f ∙ q)
near-same_one _ a r s e f near = tt

near-same_two : (operation : OpCode) (a b r s : Interval) → s.low ≡ r.low → s.high ≡ r.high → IsNearTwo operation a b r → IsNearTwo operation a b s
near-same_two code.IntAdd a b r s e f near = span-same _ _ r s e f near
near-same_two code.IntSub a b r s e f near = span-same _ _ r s e f near
near-same_two code.IntAnd a b r s e f (p, q) = (mask-same a r s e f p, mask-same b r s e f q)
near-same_two code.IntLt a b r s e f near = settles-same _ a b r s e f near
near-same_two code.IntLe a b r s e f near = settles-same _ a b r s e f near
near-same_two code.IntEq a b r s e f near = settles-same _ a b r s e f near
near-same_two code.IntNe a b r s e f near = settles-same _ a b r s e f near
near-same_two code.IntGt a b r s e f near = settles-same _ a b r s e f near
near-same_two code.IntGe a b r s e f near = settles-same _ a b r s e f near
near-same_two code.UintLt a b r s e f near = settles-same _ a b r s e f near
near-same_two code.UintLe a b r s e f near = settles-same _ a b r s e f near
near-same_two code.UintGt a b r s e f near = settles-same _ a b r s e f near
near-same_two code.UintGe a b r s e f near = settles-same _ a b r s e f near
near-same_two _ a b r s e f near = tt

pub near-none : (operation : OpCode) (xs : List Interval) (s : Interval) → length xs < 1 → IsNear operation xs s
near-none operation [] s h = tt
near-none operation (x ∷ xs) s h = absurd (omega arith)

pub near-one : (operation : OpCode) (xs : List Interval) (a r s : Interval) → 1 ≤ length xs → length xs < 2 → a ≡ slice_index_or xs 0 a
    → IsNearOne operation a r → s.low ≡ r.low → s.high ≡ r.high → IsNear operation xs s
near-one operation [] a r s h k e near p q = absurd (omega arith)
near-one operation (x ∷ []) a r s h k e near p q = subst (λ y. IsNearOne operation y s) e (near-same_one operation a r s p q near)
near-one operation (x ∷ y ∷ xs) a r s h k e near p q = absurd (omega arith)

pub near-two : (operation : OpCode) (xs : List Interval) (a b r s : Interval) → 2 ≤ length xs → length xs < 3 → a ≡ slice_index_or xs 0 a → b ≡ slice_index_or xs 1 b
    → IsNearTwo operation a b r → s.low ≡ r.low → s.high ≡ r.high → IsNear operation xs s
near-two operation [] a b r s h k e f near p q = absurd (omega arith)
near-two operation (x ∷ []) a b r s h k e f near p q = absurd (omega arith)
near-two operation (x ∷ y ∷ []) a b r s h k e f near p q =
    subst (λ u. IsNearTwo operation u y s) e (subst (λ v. IsNearTwo operation a v s) f (near-same_two operation a b r s p q near))
near-two operation (x ∷ y ∷ z ∷ xs) a b r s h k e f near p q = absurd (omega arith)

pub near-many : (operation : OpCode) (xs : List Interval) (s : Interval) → 3 ≤ length xs → IsNear operation xs s
near-many operation [] s h = absurd (omega arith)
near-many operation (x ∷ []) s h = absurd (omega arith)
near-many operation (x ∷ y ∷ []) s h = absurd (omega arith)
near-many operation (x ∷ y ∷ z ∷ xs) s h = tt
