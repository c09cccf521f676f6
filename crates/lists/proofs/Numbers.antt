-- Numbers and their comparisons.
use Rattle.std.proofs.Common.{◌≡◌, ℕ, suc, ℤ, ◌+◌, ◌<◌, ◌≤◌, ◌^◌, true, false, arith}
use Rattle.std.specs.Prelude.{nat_lt}
use Rattle.std.specs.Int.{w64, cast_unsigned}
use Rattle.std.specs.Int.RustNames.{FitsSigned}
use Rattle.std.proofs.lemmas.Int.{ints}
use Rattle.std.proofs.lemmas.Bool.Decides.{nat_tests}

pub one_more : (n : ℕ) → 1 + n ≡ suc n
one_more n = omega arith

pub nat_lt_true : (m n : ℕ) → nat_lt m n ≡ true → m < n
nat_lt_true m n h = grind (arith, nat_tests)

pub nat_lt_false : (m n : ℕ) → nat_lt m n ≡ false → n ≤ m
nat_lt_false m n h = grind (arith, nat_tests)

pub cast_below : (z : ℤ) → FitsSigned w64 z → cast_unsigned w64 z < 2 ^ 64
cast_below z h = omega (arith, ints)
