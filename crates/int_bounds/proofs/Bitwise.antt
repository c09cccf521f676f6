-- Bitwise operations on words that aren't negative.
use Rattle.std.proofs.Common.{◌≡◌, ℕ, ◌<◌, ◌≤◌, ◌+◌, ◌/◌, max, inl, inr, lit<, ◌^◌, ℤ, pos, negsuc, ◌≤ℤ◌, ◌<ℤ◌, ◌+ℤ◌, arith, bit_and, bit_or, bit_xor, FitsSigned, to_z, of_z}
use Rattle.std.specs.Int.{w64}
use Rattle.std.proofs.Math.Nat.{pow-le-pow_right}
use Rattle.std.proofs.lemmas.Bool.{cases_lt}
use Rattle.std.proofs.lemmas.Nat.{and_le_l, and_le_r, or_lt, xor_lt}
use Rattle.std.proofs.lemmas.Int.{ints, to_z_pos}
use Rattle.trace_ops.specs.Words.{conjoined, disjoined, toggled}

pub conjoined-first : (x y : ℤ) → FitsSigned w64 x → pos 0 ≤ℤ x → (pos 0 ≤ℤ conjoined x y) × (conjoined x y ≤ℤ x)
conjoined-first (pos m) y f h =
    let le : bit_and m (of_z w64 y) ≤ m = and_le_l m (of_z w64 y) in
    let few : m < 2 ^ 63 = f.sfits in
    rw (to_z_pos w64 (bit_and m (of_z w64 y)) (omega arith)) (omega (arith, ints), omega (arith, ints))
conjoined-first (negsuc m) y f h = absurd (omega (arith, ints))

pub conjoined-second : (x y : ℤ) → FitsSigned w64 y → pos 0 ≤ℤ y → (pos 0 ≤ℤ conjoined x y) × (conjoined x y ≤ℤ y)
conjoined-second x (pos n) f h =
    let le : bit_and (of_z w64 x) n ≤ n = and_le_r (of_z w64 x) n in
    let few : n < 2 ^ 63 = f.sfits in
    rw (to_z_pos w64 (bit_and (of_z w64 x) n) (omega arith)) (omega (arith, ints), omega (arith, ints))
conjoined-second x (negsuc n) f h = absurd (omega (arith, ints))

few-bits : (k n : ℕ) (high : ℤ) → k ≤ 63 → n < 2 ^ k → high +ℤ pos 1 ≡ pos (2 ^ k) → (pos 0 ≤ℤ to_z w64 n) × (to_z w64 n ≤ℤ high)
few-bits k n high le few e =
    let most : 2 ^ k ≤ 2 ^ 63 = pow-le-pow_right {n = 2} (omega arith) le in
    rw (to_z_pos w64 n (omega arith)) (omega (arith, ints), omega (arith, ints))

pub disjoined-few : (x y : ℤ) (k : ℕ) (high : ℤ) → k ≤ 63 → pos 0 ≤ℤ x → pos 0 ≤ℤ y → x <ℤ pos (2 ^ k) → y <ℤ pos (2 ^ k) → high +ℤ pos 1 ≡ pos (2 ^ k)
    → (pos 0 ≤ℤ disjoined x y) × (disjoined x y ≤ℤ high)
disjoined-few (pos m) (pos n) k high le p q a b e =
    few-bits k (bit_or m n) high le (or_lt k m n (omega (arith, ints)) (omega (arith, ints))) e
disjoined-few (negsuc m) y k high le p q a b e = absurd (omega (arith, ints))
disjoined-few (pos m) (negsuc n) k high le p q a b e = absurd (omega (arith, ints))

pub toggled-few : (x y : ℤ) (k : ℕ) (high : ℤ) → k ≤ 63 → pos 0 ≤ℤ x → pos 0 ≤ℤ y → x <ℤ pos (2 ^ k) → y <ℤ pos (2 ^ k) → high +ℤ pos 1 ≡ pos (2 ^ k)
    → (pos 0 ≤ℤ toggled x y) × (toggled x y ≤ℤ high)
toggled-few (pos m) (pos n) k high le p q a b e =
    few-bits k (bit_xor m n) high le (xor_lt k m n (omega (arith, ints)) (omega (arith, ints))) e
toggled-few (negsuc m) y k high le p q a b e = absurd (omega (arith, ints))
toggled-few (pos m) (negsuc n) k high le p q a b e = absurd (omega (arith, ints))

-- what lies between words is one
pub words-between : (l h x : ℤ) → FitsSigned w64 l → FitsSigned w64 h → l ≤ℤ x → x ≤ℤ h → FitsSigned w64 x
words-between l h x f g a b = grind (arith, ints)

-- a power of two whose half is at most 2^63 - 1 has a small exponent
pub power-bits : (k m p : ℕ) → p ≡ 2 ^ k → m < 2 ^ 63 → p / 2 < max 1 (m + 1) → k ≤ 63
power-bits k m p e few half =
    elim (cases_lt 63 k) as (λ _. k ≤ 63) [
      | inl more ↦ let much : 2 ^ 64 ≤ 2 ^ k = pow-le-pow_right {n = 2} (lit< tt) more in absurd (omega arith)
      | inr le ↦ le
    ]

pub power-few : (k p : ℕ) → k ≤ 63 → p ≡ 2 ^ k → p ≤ 2 ^ 63
power-few k p few e = let most : 2 ^ k ≤ 2 ^ 63 = pow-le-pow_right {n = 2} (lit< tt) few in omega arith
