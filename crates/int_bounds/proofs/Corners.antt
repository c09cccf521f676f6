-- A product with a factor between two lies between the products with them.
use Rattle.std.proofs.Common.{◌≡◌, ℕ, suc, ◌≤◌, ◌*◌, ℤ, pos, negsuc, neg_ℤ, ◌≤ℤ◌, ◌*ℤ◌, arith}
use Rattle.std.proofs.Math.IntN.{pos-*ℤ-pos, negsuc-*ℤ-pos, *ℤ-negsuc, *ℤ_comm}
use Rattle.std.proofs.Math.Nat.{mul-le-mul_right}
use Rattle.std.proofs.lemmas.Int.{ints}

-- more of a factor that isn't negative
pub more-times : (l x : ℤ) (k : ℕ) → l ≤ℤ x → (l *ℤ pos k) ≤ℤ (x *ℤ pos k)
more-times (pos a) (pos b) k h =
    let le : a ≤ b = omega (arith, ints) in
    let m : a * k ≤ b * k = mul-le-mul_right k le in
    omega (arith, ints, pos-*ℤ-pos a k, pos-*ℤ-pos b k)
more-times (negsuc a) (pos b) k h = omega (arith, ints, negsuc-*ℤ-pos a k, pos-*ℤ-pos b k)
more-times (negsuc a) (negsuc b) k h =
    let le : suc b ≤ suc a = omega (arith, ints) in
    let m : suc b * k ≤ suc a * k = mul-le-mul_right k le in
    omega (arith, ints, negsuc-*ℤ-pos a k, negsuc-*ℤ-pos b k)
more-times (pos a) (negsuc b) k h = absurd (omega (arith, ints))

-- less of a factor that is negative
pub less-times : (l x : ℤ) (k : ℕ) → l ≤ℤ x → (x *ℤ negsuc k) ≤ℤ (l *ℤ negsuc k)
less-times l x k h =
    let m : (l *ℤ pos (suc k)) ≤ℤ (x *ℤ pos (suc k)) = more-times l x (suc k) h in
    let e : l *ℤ negsuc k ≡ neg_ℤ (l *ℤ pos (suc k)) = *ℤ-negsuc l k in
    let f : x *ℤ negsuc k ≡ neg_ℤ (x *ℤ pos (suc k)) = *ℤ-negsuc x k in
    omega (arith, ints)

-- what is at most both ends is at most what lies between
below-times : (m l h x k : ℤ) → l ≤ℤ x → x ≤ℤ h → m ≤ℤ (l *ℤ k) → m ≤ℤ (h *ℤ k) → m ≤ℤ (x *ℤ k)
below-times m l h x (pos k) a b p q =
    let t : (l *ℤ pos k) ≤ℤ (x *ℤ pos k) = more-times l x k a in
    omega (arith, ints)
below-times m l h x (negsuc k) a b p q =
    let t : (h *ℤ negsuc k) ≤ℤ (x *ℤ negsuc k) = less-times x h k b in
    omega (arith, ints)

above-times : (m l h x k : ℤ) → l ≤ℤ x → x ≤ℤ h → (l *ℤ k) ≤ℤ m → (h *ℤ k) ≤ℤ m → (x *ℤ k) ≤ℤ m
above-times m l h x (pos k) a b p q =
    let t : (x *ℤ pos k) ≤ℤ (h *ℤ pos k) = more-times x h k b in
    omega (arith, ints)
above-times m l h x (negsuc k) a b p q =
    let t : (x *ℤ negsuc k) ≤ℤ (l *ℤ negsuc k) = less-times l x k a in
    omega (arith, ints)

-- the same of the second factor
below-times_right : (m k l h y : ℤ) → l ≤ℤ y → y ≤ℤ h → m ≤ℤ (k *ℤ l) → m ≤ℤ (k *ℤ h) → m ≤ℤ (k *ℤ y)
below-times_right m k l h y a b p q =
    let p' : m ≤ℤ (l *ℤ k) = rw (*ℤ_comm l k) p in
    let q' : m ≤ℤ (h *ℤ k) = rw (*ℤ_comm h k) q in
    rw (*ℤ_comm k y) (below-times m l h y k a b p' q')

above-times_right : (m k l h y : ℤ) → l ≤ℤ y → y ≤ℤ h → (k *ℤ l) ≤ℤ m → (k *ℤ h) ≤ℤ m → (k *ℤ y) ≤ℤ m
above-times_right m k l h y a b p q =
    let p' : (l *ℤ k) ≤ℤ m = rw (*ℤ_comm l k) p in
    let q' : (h *ℤ k) ≤ℤ m = rw (*ℤ_comm h k) q in
    rw (*ℤ_comm k y) (above-times m l h y k a b p' q')

-- what is at most the four products of ends is at most each product
pub below-corners : (m al ah bl bh x y : ℤ) → al ≤ℤ x → x ≤ℤ ah → bl ≤ℤ y → y ≤ℤ bh
    → m ≤ℤ (al *ℤ bl) → m ≤ℤ (al *ℤ bh) → m ≤ℤ (ah *ℤ bl) → m ≤ℤ (ah *ℤ bh) → m ≤ℤ (x *ℤ y)
below-corners m al ah bl bh x y a b c d p q r s =
    below-times m al ah x y a b (below-times_right m al bl bh y c d p q) (below-times_right m ah bl bh y c d r s)

-- what is at least the four products of ends is at least each product
pub above-corners : (m al ah bl bh x y : ℤ) → al ≤ℤ x → x ≤ℤ ah → bl ≤ℤ y → y ≤ℤ bh
    → (al *ℤ bl) ≤ℤ m → (al *ℤ bh) ≤ℤ m → (ah *ℤ bl) ≤ℤ m → (ah *ℤ bh) ≤ℤ m → (x *ℤ y) ≤ℤ m
above-corners m al ah bl bh x y a b c d p q r s =
    above-times m al ah x y a b (above-times_right m al bl bh y c d p q) (above-times_right m ah bl bh y c d r s)

pub through : (m p n : ℤ) → m ≤ℤ p → p ≤ℤ n → m ≤ℤ n
through m p n a b = omega (arith, ints)
