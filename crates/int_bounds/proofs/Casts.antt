-- What the code passes on: words cast and cast back.
use Rattle.std.proofs.Common.{◌≡◌, ◌^◌, ℤ, pos, ◌≤ℤ◌, ◌<ℤ◌, ◌*ℤ◌, true, false, ap, subst, ◌∙◌, arith, FitsSigned, to_z, of_z}
use Rattle.std.specs.Int.{w64, w128}
use Rattle.std.specs.Int.Signed.{le_z, lt_z}
use Rattle.std.proofs.lemmas.Int.{ints, to_z-of_z}
use Rattle.trace_ops.specs.Words.{shift_of}

product_of : (p x y : ℤ) → FitsSigned w64 x → FitsSigned w64 y
    → p ≡ to_z w64 (of_z w64 x) *ℤ to_z w64 (of_z w64 y) → p ≡ x *ℤ y
product_of p x y f g e =
    e ∙ ap (λ (v : ℤ). v *ℤ to_z w64 (of_z w64 y)) (to_z-of_z w64 x f) ∙ ap (λ (v : ℤ). x *ℤ v) (to_z-of_z w64 y g)

-- at most a product
pub below-cast : (m p x y : ℤ) → FitsSigned w128 p → FitsSigned w64 x → FitsSigned w64 y
    → m ≤ℤ to_z w128 (of_z w128 p) → p ≡ to_z w64 (of_z w64 x) *ℤ to_z w64 (of_z w64 y) → m ≤ℤ (x *ℤ y)
below-cast m p x y fp f g h e =
    let P : ℤ → Type 0 = λ v. m ≤ℤ v in
    subst P (to_z-of_z w128 p fp ∙ product_of p x y f g e) h

-- at least a product
pub above-cast : (m p x y : ℤ) → FitsSigned w128 p → FitsSigned w64 x → FitsSigned w64 y
    → to_z w128 (of_z w128 p) ≤ℤ m → p ≡ to_z w64 (of_z w64 x) *ℤ to_z w64 (of_z w64 y) → (x *ℤ y) ≤ℤ m
above-cast m p x y fp f g h e =
    let P : ℤ → Type 0 = λ v. v ≤ℤ m in
    subst P (to_z-of_z w128 p fp ∙ product_of p x y f g e) h

-- a product with a power of two
pub scaled-cast : (p x by : ℤ) → FitsSigned w128 p → FitsSigned w64 x → FitsSigned w64 by
    → p ≡ to_z w64 (of_z w64 x) *ℤ pos (2 ^ shift_of (to_z w64 (of_z w64 by))) → to_z w128 (of_z w128 p) ≡ x *ℤ pos (2 ^ shift_of by)
scaled-cast p x by fp f g e =
    to_z-of_z w128 p fp ∙ e
    ∙ ap (λ (v : ℤ). v *ℤ pos (2 ^ shift_of (to_z w64 (of_z w64 by)))) (to_z-of_z w64 x f)
    ∙ ap (λ (v : ℤ). x *ℤ pos (2 ^ shift_of v)) (to_z-of_z w64 by g)

-- any operation on words
pub binary-cast : (f : ℤ → ℤ → ℤ) (p x y : ℤ) → FitsSigned w64 p → FitsSigned w64 x → FitsSigned w64 y
    → p ≡ f (to_z w64 (of_z w64 x)) (to_z w64 (of_z w64 y)) → to_z w64 (of_z w64 p) ≡ f x y
binary-cast f p x y fp fx fy e =
    to_z-of_z w64 p fp ∙ e
    ∙ ap (λ (v : ℤ). f v (to_z w64 (of_z w64 y))) (to_z-of_z w64 x fx)
    ∙ ap (λ (v : ℤ). f x v) (to_z-of_z w64 y fy)

-- what is at most a word that is below a number is below it
pub under-cast : (x h p : ℤ) → FitsSigned w64 h → x ≤ℤ h → to_z w64 (of_z w64 h) <ℤ p → x <ℤ p
under-cast x h p f le lt = let lt' : h <ℤ p = rw (to_z-of_z w64 h f) at lt in omega (arith, ints)

-- what is at least a word that isn't negative isn't negative
pub zero-cast : (l x : ℤ) → FitsSigned w64 l → l ≤ℤ x → le_z (pos 0) (to_z w64 (of_z w64 l)) ≡ true → pos 0 ≤ℤ x
zero-cast l x f le t = let t' : le_z (pos 0) l ≡ true = rw (to_z-of_z w64 l f) at t in grind (arith, ints)

pub lone-cast : (f : ℤ → ℤ) (p y : ℤ) → FitsSigned w64 p → FitsSigned w64 y
    → p ≡ f (to_z w64 (of_z w64 y)) → to_z w64 (of_z w64 p) ≡ f y
lone-cast f p y fp fy e = to_z-of_z w64 p fp ∙ e ∙ ap f (to_z-of_z w64 y fy)

-- what the tests of a sign say
pub below_zero-cast : (h : ℤ) → FitsSigned w64 h → le_z (pos 0) (to_z w64 (of_z w64 h)) ≡ false → h <ℤ pos 0
below_zero-cast h f t = let t' : le_z (pos 0) h ≡ false = rw (to_z-of_z w64 h f) at t in grind (arith, ints)

pub from_zero-cast : (l : ℤ) → FitsSigned w64 l → lt_z (to_z w64 (of_z w64 l)) (pos 0) ≡ false → pos 0 ≤ℤ l
from_zero-cast l f t = let t' : lt_z l (pos 0) ≡ false = rw (to_z-of_z w64 l f) at t in grind (arith, ints)

-- what is at most a negative word is negative
pub negative-cast : (h x : ℤ) → FitsSigned w64 h → x ≤ℤ h → lt_z (to_z w64 (of_z w64 h)) (pos 0) ≡ true → x <ℤ pos 0
negative-cast h x f le t = let t' : lt_z h (pos 0) ≡ true = rw (to_z-of_z w64 h f) at t in grind (arith, ints)

-- an exact result of 128 bits
pub wide-cast : (f : ℤ → ℤ → ℤ) (p x y : ℤ) → FitsSigned w128 p → FitsSigned w64 x → FitsSigned w64 y
    → p ≡ f (to_z w64 (of_z w64 x)) (to_z w64 (of_z w64 y)) → to_z w128 (of_z w128 p) ≡ f x y
wide-cast f p x y fp fx fy e =
    to_z-of_z w128 p fp ∙ e
    ∙ ap (λ (v : ℤ). f v (to_z w64 (of_z w64 y))) (to_z-of_z w64 x fx)
    ∙ ap (λ (v : ℤ). f x v) (to_z-of_z w64 y fy)
