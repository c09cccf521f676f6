-- What the answer of a comparison tells.
use Rattle.std.proofs.Common.{◌≡◌, ℕ, ◌<◌, ◌≤◌, ◌^◌, ℤ, pos, negsuc, ◌≤ℤ◌, ◌<ℤ◌, Bool, true, false, Some, refl, arith, FitsSigned}
use Rattle.std.specs.Prelude.{int_lt, int_le, nat_lt, nat_le}
use Rattle.std.specs.Int.{w64}
use Rattle.std.proofs.lemmas.Int.{ints}
use Rattle.std.proofs.lemmas.Bool.Decides.{nat_tests}
use Rattle.trace_ops.specs.Words.{truth, unsigned}

-- one answer is another's only for one outcome
pub told : (s t passed : Bool) → passed ≡ t → Some (truth s) ≡ Some (truth passed) → s ≡ t
told true true passed p e = refl
told false false passed p e = refl
told true false true p e = cc
told true false false p e = cc
told false true true p e = cc
told false true false p e = cc

pub tells : (s t passed : Bool) → passed ≡ t → s ≡ t → Some (truth s) ≡ Some (truth passed)
tells s t passed p e = cc

pub lt-yes : (x y : ℤ) → int_lt x y ≡ true → x <ℤ y
lt-yes x y h = grind (arith, ints)

pub lt-no : (x y : ℤ) → int_lt x y ≡ false → y ≤ℤ x
lt-no x y h = grind (arith, ints)

pub le-yes : (x y : ℤ) → int_le x y ≡ true → x ≤ℤ y
le-yes x y h = grind (arith, ints)

pub le-no : (x y : ℤ) → int_le x y ≡ false → y <ℤ x
le-no x y h = grind (arith, ints)

pub yes-lt : (x y : ℤ) → x <ℤ y → int_lt x y ≡ true
yes-lt x y h = grind (arith, ints)

pub no-lt : (x y : ℤ) → y ≤ℤ x → int_lt x y ≡ false
no-lt x y h = grind (arith, ints)

pub yes-le : (x y : ℤ) → x ≤ℤ y → int_le x y ≡ true
yes-le x y h = grind (arith, ints)

pub no-le : (x y : ℤ) → y <ℤ x → int_le x y ≡ false
no-le x y h = grind (arith, ints)

pub nat_lt-yes : (m n : ℕ) → nat_lt m n ≡ true → m < n
nat_lt-yes m n h = grind (arith, nat_tests)

pub nat_lt-no : (m n : ℕ) → nat_lt m n ≡ false → n ≤ m
nat_lt-no m n h = grind (arith, nat_tests)

pub nat_le-yes : (m n : ℕ) → nat_le m n ≡ true → m ≤ n
nat_le-yes m n h = grind (arith, nat_tests)

pub nat_le-no : (m n : ℕ) → nat_le m n ≡ false → n < m
nat_le-no m n h = grind (arith, nat_tests)

-- a word read without sign below one that isn't negative isn't negative, and below it
pub from-unsigned_lt : (x y : ℤ) → FitsSigned w64 x → FitsSigned w64 y → pos 0 ≤ℤ y → unsigned x < unsigned y → (pos 0 ≤ℤ x) × (x <ℤ y)
from-unsigned_lt (pos m) (pos n) f g z h = (omega (arith, ints), omega (arith, ints))
from-unsigned_lt (negsuc m) (pos n) f g z h = let p : m < 2 ^ 63 = f.sfits in let q : n < 2 ^ 63 = g.sfits in absurd (omega (arith, ints))
from-unsigned_lt x (negsuc n) f g z h = absurd (omega (arith, ints))

pub from-unsigned_le : (x y : ℤ) → FitsSigned w64 x → FitsSigned w64 y → pos 0 ≤ℤ y → unsigned x ≤ unsigned y → (pos 0 ≤ℤ x) × (x ≤ℤ y)
from-unsigned_le (pos m) (pos n) f g z h = (omega (arith, ints), omega (arith, ints))
from-unsigned_le (negsuc m) (pos n) f g z h = let p : m < 2 ^ 63 = f.sfits in let q : n < 2 ^ 63 = g.sfits in absurd (omega (arith, ints))
from-unsigned_le x (negsuc n) f g z h = absurd (omega (arith, ints))

-- a word read without sign above a negative one is negative, and above it
pub above-unsigned_lt : (x y : ℤ) → FitsSigned w64 x → FitsSigned w64 y → x <ℤ pos 0 → unsigned x < unsigned y → (y <ℤ pos 0) × (x <ℤ y)
above-unsigned_lt (negsuc m) (negsuc n) f g z h = let p : m < 2 ^ 63 = f.sfits in let q : n < 2 ^ 63 = g.sfits in (omega (arith, ints), omega (arith, ints))
above-unsigned_lt (negsuc m) (pos n) f g z h = let p : m < 2 ^ 63 = f.sfits in let q : n < 2 ^ 63 = g.sfits in absurd (omega (arith, ints))
above-unsigned_lt (pos m) y f g z h = absurd (omega (arith, ints))

pub above-unsigned_le : (x y : ℤ) → FitsSigned w64 x → FitsSigned w64 y → x <ℤ pos 0 → unsigned x ≤ unsigned y → (y <ℤ pos 0) × (x ≤ℤ y)
above-unsigned_le (negsuc m) (negsuc n) f g z h = let p : m < 2 ^ 63 = f.sfits in let q : n < 2 ^ 63 = g.sfits in (omega (arith, ints), omega (arith, ints))
above-unsigned_le (negsuc m) (pos n) f g z h = let p : m < 2 ^ 63 = f.sfits in let q : n < 2 ^ 63 = g.sfits in absurd (omega (arith, ints))
above-unsigned_le (pos m) y f g z h = absurd (omega (arith, ints))
