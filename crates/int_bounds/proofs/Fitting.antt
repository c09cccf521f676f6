-- Between two numbers that are words lie words.
use Rattle.std.proofs.Common.{◌≡◌, ◌<◌, ◌^◌, ℤ, pos, negsuc, ◌≤ℤ◌, ◌*ℤ◌, Bool, true, false, not, refl, arith, FitsSigned}
use Rattle.std.specs.Prelude.{nat_lt}
use Rattle.std.specs.Int.{w64}
use Rattle.std.proofs.lemmas.Bool.{ltb-true, lt-ltb}
use Rattle.std.proofs.lemmas.Int.{ints}
use Rattle.trace_ops.specs.Words.{overflows}
use Rattle.int_bounds.specs.declared.interval.Interval.{Interval}
use Rattle.int_bounds.specs.Within.{IsWithin}
use Rattle.int_bounds.proofs.Corners.{below-corners, above-corners}
use Rattle.int_bounds.proofs.Equal.{not-no}

not-of : (b : Bool) → b ≡ true → not b ≡ false
not-of true h = refl
not-of false h = cc

pub fits-overflows : (z : ℤ) → overflows z ≡ false → FitsSigned w64 z
fits-overflows (pos n) e =
    let h : n < 2 ^ 63 = ltb-true n (2 ^ 63) (not-no (nat_lt n (2 ^ 63)) e) in
    omega (arith, ints)
fits-overflows (negsuc n) e =
    let h : n < 2 ^ 63 = ltb-true n (2 ^ 63) (not-no (nat_lt n (2 ^ 63)) e) in
    omega (arith, ints)

pub overflows-fits : (z : ℤ) → FitsSigned w64 z → overflows z ≡ false
overflows-fits (pos n) f =
    let h : n < 2 ^ 63 = omega (arith, ints) in
    not-of (nat_lt n (2 ^ 63)) (lt-ltb n (2 ^ 63) h)
overflows-fits (negsuc n) f =
    let h : n < 2 ^ 63 = omega (arith, ints) in
    not-of (nat_lt n (2 ^ 63)) (lt-ltb n (2 ^ 63) h)

pub overflows-between : (low high z : ℤ) → overflows low ≡ false → overflows high ≡ false → low ≤ℤ z → z ≤ℤ high → overflows z ≡ false
overflows-between low high z e f a b =
    let l : FitsSigned w64 low = fits-overflows low e in
    let h : FitsSigned w64 high = fits-overflows high f in
    let m : FitsSigned w64 z = omega (arith, ints) in
    overflows-fits z m

pub within-low : (a : Interval) → a.low ≤ℤ a.high → IsWithin a a.low
within-low a h = (omega (arith, ints), h)

pub within-high : (a : Interval) → a.low ≤ℤ a.high → IsWithin a a.high
within-high a h = (h, omega (arith, ints))

-- a product lies between those of the bounds
pub products-fit : (al ah bl bh x y : ℤ) → al ≤ℤ x → x ≤ℤ ah → bl ≤ℤ y → y ≤ℤ bh
    → overflows (al *ℤ bl) ≡ false → overflows (al *ℤ bh) ≡ false → overflows (ah *ℤ bl) ≡ false → overflows (ah *ℤ bh) ≡ false → overflows (x *ℤ y) ≡ false
products-fit al ah bl bh x y a b c d p q r s =
    let p' = fits-overflows (al *ℤ bl) p in
    let q' = fits-overflows (al *ℤ bh) q in
    let r' = fits-overflows (ah *ℤ bl) r in
    let s' = fits-overflows (ah *ℤ bh) s in
    let low : negsuc 9223372036854775807 ≤ℤ (x *ℤ y) = below-corners (negsuc 9223372036854775807) al ah bl bh x y a b c d (omega (arith, ints)) (omega (arith, ints)) (omega (arith, ints)) (omega (arith, ints)) in
    let high : (x *ℤ y) ≤ℤ pos 9223372036854775807 = above-corners (pos 9223372036854775807) al ah bl bh x y a b c d (omega (arith, ints)) (omega (arith, ints)) (omega (arith, ints)) (omega (arith, ints)) in
    let m : FitsSigned w64 (x *ℤ y) = omega (arith, ints) in
    overflows-fits (x *ℤ y) m
