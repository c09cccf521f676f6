-- The one result of known words is as near as bounds of results are.
use Rattle.std.proofs.Common.{◌≡◌, ℤ, pos, ◌+ℤ◌, ◌-ℤ◌, ◌≤ℤ◌, Some, sym, FitsSigned}
use Rattle.std.specs.Int.{w64}
use Rattle.std.proofs.lemmas.Int.{int_wrap_fits}
use Rattle.trace_ops.specs.declared.code.OpCode.{OpCode}
use Rattle.trace_ops.specs.declared.code.OpCode.TheVariants as code
use Rattle.trace_ops.specs.Folds.{binary}
use Rattle.trace_ops.specs.Words.{wrap, conjoined, less, at_most, equal, unequal, unsigned_less, unsigned_at_most}
use Rattle.int_bounds.specs.declared.interval.Interval.{Interval}
use Rattle.int_bounds.specs.Near.{IsSpan, IsMasked, IsNearTwo}
use Rattle.int_bounds.proofs.Settled.{settles-known}
use Rattle.int_bounds.proofs.Bitwise.{conjoined-first, conjoined-second}

Some-same : (y z : ℤ) → Some z ≡ Some y → z ≡ y
Some-same y z e = cc

span-folded : (low high z : ℤ) (r : Interval) → low ≡ high → z ≡ wrap low → r.low ≡ z → r.high ≡ z → IsSpan low high r
span-folded low high z r same e p q = λ f g.
    let own : wrap low ≡ low = int_wrap_fits w64 low f in (cc, cc)

mask-folded : (mask r : Interval) (x z : ℤ) → mask.low ≡ x → mask.high ≡ x → r.low ≡ z → r.high ≡ z → (pos 0 ≤ℤ x → (pos 0 ≤ℤ z) × (z ≤ℤ x)) → IsMasked mask r
mask-folded mask r x z a b p q lies = λ h.
    let h' : pos 0 ≤ℤ x = rw (sym a) h in
    let (low, high) = lies h' in
    (rw p low, rw (q, b) high)

pub near-folded : (operation : OpCode) (a b r : Interval) (x y z : ℤ) → FitsSigned w64 x → FitsSigned w64 y
    → a.low ≡ x → a.high ≡ x → b.low ≡ y → b.high ≡ y → a.low ≤ℤ a.high → b.low ≤ℤ b.high → Some z ≡ binary operation x y → r.low ≡ z → r.high ≡ z → IsNearTwo operation a b r
near-folded code.IntAdd a b r x y z f g al ah bl bh oa ob e p q =
    let same : a.low +ℤ b.low ≡ a.high +ℤ b.high = cc in
    let result : z ≡ wrap (x +ℤ y) = Some-same (wrap (x +ℤ y)) z e in
    span-folded (a.low +ℤ b.low) (a.high +ℤ b.high) z r same (cc) p q
near-folded code.IntSub a b r x y z f g al ah bl bh oa ob e p q =
    let same : a.low -ℤ b.high ≡ a.high -ℤ b.low = cc in
    let result : z ≡ wrap (x -ℤ y) = Some-same (wrap (x -ℤ y)) z e in
    span-folded (a.low -ℤ b.high) (a.high -ℤ b.low) z r same (cc) p q
near-folded code.IntAnd a b r x y z f g al ah bl bh oa ob e p q =
    let result : z ≡ conjoined x y = Some-same (conjoined x y) z e in (
      mask-folded a r x z al ah p q (λ h. rw result (conjoined-first x y f h)),
      mask-folded b r y z bl bh p q (λ h. rw result (conjoined-second x y g h)),
    )
near-folded code.IntLt a b r x y z f g al ah bl bh oa ob e p q = settles-known less a b r x y z al ah bl bh oa ob (Some-same (less x y) z e) p q
near-folded code.IntLe a b r x y z f g al ah bl bh oa ob e p q = settles-known at_most a b r x y z al ah bl bh oa ob (Some-same (at_most x y) z e) p q
near-folded code.IntEq a b r x y z f g al ah bl bh oa ob e p q = settles-known equal a b r x y z al ah bl bh oa ob (Some-same (equal x y) z e) p q
near-folded code.IntNe a b r x y z f g al ah bl bh oa ob e p q = settles-known unequal a b r x y z al ah bl bh oa ob (Some-same (unequal x y) z e) p q
near-folded code.IntGt a b r x y z f g al ah bl bh oa ob e p q = settles-known (λ u v. less v u) a b r x y z al ah bl bh oa ob (Some-same (less y x) z e) p q
near-folded code.IntGe a b r x y z f g al ah bl bh oa ob e p q = settles-known (λ u v. at_most v u) a b r x y z al ah bl bh oa ob (Some-same (at_most y x) z e) p q
near-folded code.UintLt a b r x y z f g al ah bl bh oa ob e p q = settles-known unsigned_less a b r x y z al ah bl bh oa ob (Some-same (unsigned_less x y) z e) p q
near-folded code.UintLe a b r x y z f g al ah bl bh oa ob e p q = settles-known unsigned_at_most a b r x y z al ah bl bh oa ob (Some-same (unsigned_at_most x y) z e) p q
near-folded code.UintGt a b r x y z f g al ah bl bh oa ob e p q = settles-known (λ u v. unsigned_less v u) a b r x y z al ah bl bh oa ob (Some-same (unsigned_less y x) z e) p q
near-folded code.UintGe a b r x y z f g al ah bl bh oa ob e p q = settles-known (λ u v. unsigned_at_most v u) a b r x y z al ah bl bh oa ob (Some-same (unsigned_at_most y x) z e) p q
near-folded _ a b r x y z f g al ah bl bh oa ob e p q = tt
