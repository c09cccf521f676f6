-- The word of a number.
use Rattle.std.proofs.Common.{◌≡◌, ℤ, pos, negsuc, ◌≤ℤ◌, arith, FitsSigned}
use Rattle.std.specs.Int.{w64}
use Rattle.std.proofs.lemmas.Int.{ints, int_wrap_fits, SFits-int_wrap}
use Rattle.trace_ops.specs.Words.{wrap}

fits-between : (z : ℤ) → negsuc 9223372036854775807 ≤ℤ z → z ≤ℤ pos 9223372036854775807 → FitsSigned w64 z
fits-between z l h = grind (arith, ints)

-- a word is its own
pub wrap-between : (z : ℤ) → negsuc 9223372036854775807 ≤ℤ z → z ≤ℤ pos 9223372036854775807 → wrap z ≡ z
wrap-between z l h = int_wrap_fits w64 z (fits-between z l h)

pub least-wrap : (z : ℤ) → negsuc 9223372036854775807 ≤ℤ wrap z
least-wrap z = let f : FitsSigned w64 (wrap z) = SFits-int_wrap w64 z in omega (arith, ints)

pub wrap-most : (z : ℤ) → wrap z ≤ℤ pos 9223372036854775807
wrap-most z = let f : FitsSigned w64 (wrap z) = SFits-int_wrap w64 z in omega (arith, ints)
