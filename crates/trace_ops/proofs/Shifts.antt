-- A shift to the left is a product with a power of two.
use Rattle.std.proofs.Common.{◌≡◌, ℕ, ℤ, pos, ◌*◌, ◌*ℤ◌, ◌%◌, ◌^◌, ◌<◌, ap, sym, ◌∙◌, rules, FitsSigned}
use Rattle.std.specs.Int.{int_wrap, w64, cast_signed, cast_unsigned}
use Rattle.std.proofs.Math.Nat.{mod-eq_of_lt}
use Rattle.std.proofs.lemmas.Nat.{pow_below}
use Rattle.std.proofs.lemmas.Int.{wrapping_mul-bits, to_z-of_z, int_wrap-mul_right}

wrap-power : (k : ℕ) → k < 64 → int_wrap w64 (pos (2 ^ k)) ≡ cast_signed w64 (2 ^ k)
unfolding int_wrap
wrap-power k few = ap (cast_signed w64) (mod-eq_of_lt (pow_below k 64 few))

reads_below : (a : ℤ) → FitsSigned w64 a → cast_unsigned w64 a < 2 ^ 64
reads_below a fits = search rules

pub shift-left : (a : ℤ) (k : ℕ) → FitsSigned w64 a → k < 64 → cast_signed w64 ((cast_unsigned w64 a * 2 ^ k) % 2 ^ 64) ≡ int_wrap w64 (a *ℤ pos (2 ^ k))
shift-left a k fits few =
    wrapping_mul-bits w64 (cast_unsigned w64 a) (2 ^ k) (reads_below a fits) (pow_below k 64 few)
    ∙ ap (λ x. int_wrap w64 (x *ℤ cast_signed w64 (2 ^ k))) (to_z-of_z w64 a fits)
    ∙ ap (λ y. int_wrap w64 (a *ℤ y)) (sym (wrap-power k few))
    ∙ int_wrap-mul_right w64 a (pos (2 ^ k))
