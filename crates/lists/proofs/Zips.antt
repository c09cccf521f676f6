-- Two lists that agree item by item.
use Rattle.std.proofs.Common.{◌≡◌, ℕ, zero, suc, ◌+◌, ◌<◌, ◌≤◌, List, [], ◌∷◌, ◌++◌, Some, length, drop, map, refl, sym, ap, subst, arith}
use Rattle.std.specs.Prelude.{slice_get, slice_set, slice_index_or}
use Rattle.std.specs.List.{AllZip}
use Rattle.lists.proofs.Options.{some_same}

pub zip_long : {X Y : Type 0} (P : X → Y → Type 0) (xs : List X) (ys : List Y) → AllZip P xs ys → length xs ≡ length ys
zip_long P [] [] a = refl
zip_long P [] (y ∷ ys) a = absurd a
zip_long P (x ∷ xs) [] a = absurd a
zip_long P (x ∷ xs) (y ∷ ys) a = ap suc (zip_long P xs ys a.1)

pub zip_weaker : {X Y : Type 0} (P Q : X → Y → Type 0) → ((x : X) (y : Y) → P x y → Q x y) → (xs : List X) (ys : List Y) → AllZip P xs ys → AllZip Q xs ys
zip_weaker P Q h [] [] a = tt
zip_weaker P Q h [] (y ∷ ys) a = a
zip_weaker P Q h (x ∷ xs) [] a = a
zip_weaker P Q h (x ∷ xs) (y ∷ ys) a = (h x y a.0, zip_weaker P Q h xs ys a.1)

pub zip_map : {X Y Z : Type 0} (f : X → Y) (P : X → Z → Type 0) (Q : Y → Z → Type 0) → ((x : X) (z : Z) → P x z → Q (f x) z) → (xs : List X) (zs : List Z) → AllZip P xs zs → AllZip Q (map f xs) zs
zip_map f P Q h [] [] a = tt
zip_map f P Q h [] (z ∷ zs) a = absurd a
zip_map f P Q h (x ∷ xs) [] a = absurd a
zip_map f P Q h (x ∷ xs) (z ∷ zs) a = (h x z a.0, zip_map f P Q h xs zs a.1)

pub zip_append : {X Y : Type 0} (P : X → Y → Type 0) (xs : List X) (ys : List Y) (us : List X) (vs : List Y) → AllZip P xs ys → AllZip P us vs → AllZip P (xs ++ us) (ys ++ vs)
zip_append P [] [] us vs a b = b
zip_append P [] (y ∷ ys) us vs a b = absurd a
zip_append P (x ∷ xs) [] us vs a b = absurd a
zip_append P (x ∷ xs) (y ∷ ys) us vs a b = (a.0, zip_append P xs ys us vs a.1 b)

pub zip_push : {X Y : Type 0} (P : X → Y → Type 0) (xs : List X) (ys : List Y) (x : X) (y : Y) → AllZip P xs ys → P x y → AllZip P (xs ++ x ∷ []) (ys ++ y ∷ [])
zip_push P xs ys x y a p = zip_append P xs ys (x ∷ []) (y ∷ []) a (p, tt)

-- the item beside this one
pub zip_first : {X Y : Type 0} (P : X → Y → Type 0) (xs : List X) (ys : List Y) → AllZip P xs ys → (i : ℕ) (x : X) → slice_get xs i ≡ Some x → (y : Y) × (slice_get ys i ≡ Some y) × P x y
zip_first P [] [] a i x e = cc
zip_first P [] (z ∷ ys) a i x e = absurd a
zip_first P (z ∷ xs) [] a i x e = absurd a
zip_first P (z ∷ xs) (y ∷ ys) a zero x e = (y, refl, rw (some_same (sym e)) a.0)
zip_first P (z ∷ xs) (y ∷ ys) a (suc i) x e = zip_first P xs ys a.1 i x e

pub zip_second : {X Y : Type 0} (P : X → Y → Type 0) (xs : List X) (ys : List Y) → AllZip P xs ys → (i : ℕ) (y : Y) → slice_get ys i ≡ Some y → (x : X) × (slice_get xs i ≡ Some x) × P x y
zip_second P [] [] a i y e = cc
zip_second P [] (z ∷ ys) a i y e = absurd a
zip_second P (x ∷ xs) [] a i y e = absurd a
zip_second P (x ∷ xs) (z ∷ ys) a zero y e = (x, refl, rw (some_same (sym e)) a.0)
zip_second P (x ∷ xs) (z ∷ ys) a (suc i) y e = zip_second P xs ys a.1 i y e

-- one item changed on both sides
pub zip_set : {X Y : Type 0} (P : X → Y → Type 0) (xs : List X) (ys : List Y) → AllZip P xs ys → (i : ℕ) (x : X) (y : Y) → P x y → AllZip P (slice_set xs i x) (slice_set ys i y)
zip_set P [] [] a i x y p = tt
zip_set P [] (b ∷ ys) a i x y p = absurd a
zip_set P (c ∷ xs) [] a i x y p = absurd a
zip_set P (c ∷ xs) (b ∷ ys) a zero x y p = (p, a.1)
zip_set P (c ∷ xs) (b ∷ ys) a (suc i) x y p = (a.0, zip_set P xs ys a.1 i x y p)

-- of what a loop has left
pub zip_end : {X Y : Type 0} (P : X → Y → Type 0) (xs : List X) (ys : List Y) (i : ℕ) → length xs ≡ length ys → length xs ≤ i → AllZip P (drop i xs) (drop i ys)
zip_end P [] [] zero e h = tt
zip_end P [] [] (suc i) e h = tt
zip_end P [] (y ∷ ys) i e h = absurd (omega (arith, e))
zip_end P (x ∷ xs) [] i e h = absurd (omega (arith, e))
zip_end P (x ∷ xs) (y ∷ ys) zero e h = absurd (omega (arith, h))
zip_end P (x ∷ xs) (y ∷ ys) (suc i) e h = zip_end P xs ys i (omega (arith, e)) (omega (arith, h))

zip_more : {X Y : Type 0} (P : X → Y → Type 0) (xs : List X) (ys : List Y) (i : ℕ) (d : X) (e : Y) → length xs ≡ length ys → i < length xs
    → P (slice_index_or xs i d) (slice_index_or ys i e) → AllZip P (drop (suc i) xs) (drop (suc i) ys) → AllZip P (drop i xs) (drop i ys)
zip_more P [] ys i d e q lt p h = absurd (omega (arith, lt))
zip_more P (x ∷ xs) [] i d e q lt p h = absurd (omega (arith, q))
zip_more P (x ∷ xs) (y ∷ ys) zero d e q lt p h = (p, h)
zip_more P (x ∷ xs) (y ∷ ys) (suc i) d e q lt p h = zip_more P xs ys i d e (omega (arith, q)) (omega (arith, lt)) p h

pub zip_step : {X Y : Type 0} (P : X → Y → Type 0) (xs : List X) (ys : List Y) (i : ℕ) (d : X) (e : Y) → length xs ≡ length ys → i < length xs
    → P (slice_index_or xs i d) (slice_index_or ys i e) → AllZip P (drop (i + 1) xs) (drop (i + 1) ys) → AllZip P (drop i xs) (drop i ys)
zip_step P xs ys i d e q lt p h =
    let one : i + 1 ≡ suc i = omega arith in zip_more P xs ys i d e q lt p (subst (λ n. AllZip P (drop n xs) (drop n ys)) one h)
