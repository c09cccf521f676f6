-- Quotients by powers of two go up with what is divided.
use Rattle.std.proofs.Common.{◌≡◌, ℕ, ◌<◌, ◌≤◌, ◌*◌, ◌/◌, ◌^◌, ℤ, pos, negsuc, ◌≤ℤ◌, ◌<ℤ◌, ◌%◌, ◌⊎◌, inl, inr, lit<, ap, ◌∙◌, arith, rules, FitsSigned, to_z, of_z}
use Rattle.std.specs.Int.{w64}
use Rattle.std.specs.Int.Signed.{shr_z}
use Rattle.std.proofs.Math.Nat.{div-mul-le_self, mul-le-mul_left, pow-le-pow_right}
use Rattle.std.proofs.lemmas.Nat.{le-div}
use Rattle.std.proofs.lemmas.Int.{ints, to_z_pos, to_z-of_z}
use Rattle.trace_ops.specs.Words.{shift_of, unsigned, unsigned_right}

div-le : (a b k : ℕ) → 0 < k → a ≤ b → a / k ≤ b / k
div-le a b k some le = le-div (a / k) b k some (omega (arith, div-mul-le_self a k))

pub shr-le : (x y : ℤ) (m : ℕ) → 0 < m → x ≤ℤ y → shr_z x m ≤ℤ shr_z y m
shr-le (pos a) (pos b) m some h =
    let le : a / m ≤ b / m = div-le a b m some (omega (arith, ints)) in omega (arith, ints)
shr-le (negsuc a) (negsuc b) m some h =
    let le : b / m ≤ a / m = div-le b a m some (omega (arith, ints)) in omega (arith, ints)
shr-le (negsuc a) (pos b) m some h = omega (arith, ints)
shr-le (pos a) (negsuc b) m some h = absurd (omega (arith, ints))

-- half of a word read without sign is a word
half-word : (u p : ℕ) → u < 2 ^ 64 → 2 ≤ p → to_z w64 (u / p) ≡ pos (u / p)
half-word u p few two =
    let twice : u / p * 2 ≤ u / p * p = mul-le-mul_left (u / p) two in
    to_z_pos w64 (u / p) (omega (arith, div-mul-le_self u p))

reads_below : (x : ℤ) → FitsSigned w64 x → of_z w64 x < 2 ^ 64
reads_below x fits = search rules

-- a shift that brings zeros in goes up with the word read without sign
pub unsigned_right-le : (x z y : ℤ) → FitsSigned w64 x → FitsSigned w64 z → 2 ≤ 2 ^ shift_of y → unsigned x ≤ unsigned z → unsigned_right x y ≤ℤ unsigned_right z y
unsigned_right-le x z y f g two le =
    let q : unsigned x / 2 ^ shift_of y ≤ unsigned z / 2 ^ shift_of y = div-le (unsigned x) (unsigned z) (2 ^ shift_of y) (omega arith) le in
    rw (half-word (unsigned x) (2 ^ shift_of y) (reads_below x f) two, half-word (unsigned z) (2 ^ shift_of y) (reads_below z g) two)
    (omega (arith, ints))

pub zero-unsigned_right : (x y : ℤ) → FitsSigned w64 x → 2 ≤ 2 ^ shift_of y → pos 0 ≤ℤ unsigned_right x y
zero-unsigned_right x y f two =
    rw (half-word (unsigned x) (2 ^ shift_of y) (reads_below x f) two) (omega (arith, ints))

-- a shift by some bits is at least by one
pub two-power : (n : ℕ) (by : ℤ) → FitsSigned w64 by → n ≡ of_z w64 (to_z w64 (of_z w64 by)) → (n % 64 ≡ 0 → ⊥) → 2 ≤ 2 ^ shift_of by
two-power n by f e some =
    let same : n ≡ of_z w64 by = e ∙ ap (of_z w64) (to_z-of_z w64 by f) in
    let not_zero : of_z w64 by % 64 ≡ 0 → ⊥ = λ z. some (ap (λ (m : ℕ). m % 64) same ∙ z) in
    let one : 1 ≤ of_z w64 by % 64 = omega (arith, not_zero) in
    pow-le-pow_right {n = 2} (lit< tt) one

-- within one sign words read without sign go up with the words
pub unsigned-between : (l h x : ℤ) → (pos 0 ≤ℤ l) ⊎ (h <ℤ pos 0) → l ≤ℤ x → x ≤ℤ h → (unsigned l ≤ unsigned x) × (unsigned x ≤ unsigned h)
unsigned-between (pos l) (pos h) (pos x) s a b = (omega (arith, ints), omega (arith, ints))
unsigned-between (negsuc l) (negsuc h) (negsuc x) s a b = (omega (arith, ints), omega (arith, ints))
unsigned-between (pos l) h (negsuc x) s a b = absurd (omega (arith, ints))
unsigned-between l (negsuc h) (pos x) s a b = absurd (omega (arith, ints))
unsigned-between (negsuc l) (pos h) x (inl s) a b = absurd (omega (arith, ints))
unsigned-between (negsuc l) (pos h) x (inr s) a b = absurd (omega (arith, ints))

-- -1 reads as the greatest word without sign
pub unsigned-most : (x : ℤ) → FitsSigned w64 x → unsigned x ≤ unsigned (negsuc 0)
unsigned-most x f = let few : unsigned x < 2 ^ 64 = reads_below x f in omega arith
