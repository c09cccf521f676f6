-- The test of equal numbers.
use Rattle.std.proofs.Common.{◌≡◌, ◌≢◌, ℤ, Bool, true, false, not, refl}
use Rattle.std.specs.Ordering.{int_eq}
use Rattle.std.proofs.lemmas.Bool.Decides.{Decides-int_eq}

pub equal-same : (x y : ℤ) → x ≡ y → int_eq x y ≡ true
equal-same x y e = (Decides-int_eq x y).1 e

not-true : (b : Bool) → b ≢ true → b ≡ false
not-true true n = absurd (n refl)
not-true false n = refl

pub equal-apart : (x y : ℤ) → x ≢ y → int_eq x y ≡ false
equal-apart x y n = not-true (int_eq x y) (λ h. n ((Decides-int_eq x y).0 h))

pub equal-yes : (x y : ℤ) → int_eq x y ≡ true → x ≡ y
equal-yes x y h = (Decides-int_eq x y).0 h

pub equal-no : (x y : ℤ) → int_eq x y ≡ false → x ≢ y
equal-no x y h e = let t : int_eq x y ≡ true = equal-same x y e in cc

pub not-yes : (b : Bool) → not b ≡ true → b ≡ false
not-yes false h = refl
not-yes true h = cc

pub not-no : (b : Bool) → not b ≡ false → b ≡ true
not-no true h = refl
not-no false h = cc
