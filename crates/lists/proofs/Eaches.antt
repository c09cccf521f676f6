-- What holds of each item, by recursion.
use Rattle.std.proofs.Common.{◌≡◌, ℕ, zero, suc, ◌+◌, ◌<◌, ◌≤◌, List, [], ◌∷◌, ◌++◌, Some, length, drop, map, refl, subst, arith}
use Rattle.std.specs.Prelude.{slice_get, slice_set, slice_index_or}
use Rattle.std.specs.List.{AllByRecursion}
use Rattle.lists.proofs.Options.{some_same}

pub each_at : {X : Type 0} (P : X → Type 0) (xs : List X) (k : ℕ) (x : X) → AllByRecursion P xs → slice_get xs k ≡ Some x → P x
each_at P [] k x h e = cc
each_at P (y ∷ ys) zero x h e = subst P (some_same e) h.0
each_at P (y ∷ ys) (suc k) x h e = each_at P ys k x h.1 e

pub each_from : {X : Type 0} (P : X → Type 0) (xs : List X) → ((k : ℕ) (x : X) → slice_get xs k ≡ Some x → P x) → AllByRecursion P xs
each_from P [] h = tt
each_from P (x ∷ xs) h = (h 0 x refl, each_from P xs (λ k y e. h (suc k) y e))

pub each_append : {X : Type 0} (P : X → Type 0) (xs ys : List X) → AllByRecursion P xs → AllByRecursion P ys → AllByRecursion P (xs ++ ys)
each_append P [] ys a b = b
each_append P (x ∷ xs) ys a b = (a.0, each_append P xs ys a.1 b)

pub each_push : {X : Type 0} (P : X → Type 0) (xs : List X) (x : X) → AllByRecursion P xs → P x → AllByRecursion P (xs ++ x ∷ [])
each_push P xs x h p = each_append P xs (x ∷ []) h (p, tt)

pub each_parts : {X : Type 0} (P : X → Type 0) (xs ys : List X) → AllByRecursion P (xs ++ ys) → AllByRecursion P xs × AllByRecursion P ys
each_parts P [] ys h = (tt, h)
each_parts P (x ∷ xs) ys h = let rest = each_parts P xs ys h.1 in ((h.0, rest.0), rest.1)

pub each_middle : {X : Type 0} (P : X → Type 0) (xs : List X) (x : X) (ys : List X) → AllByRecursion P (xs ++ x ∷ ys) → P x × AllByRecursion P (xs ++ ys)
each_middle P [] x ys h = (h.0, h.1)
each_middle P (z ∷ xs) x ys h = let s = each_middle P xs x ys h.1 in (s.0, (h.0, s.1))

pub each_set : {X : Type 0} (P : X → Type 0) (xs : List X) (i : ℕ) (y : X) → P y → AllByRecursion P xs → AllByRecursion P (slice_set xs i y)
each_set P [] i y p h = h
each_set P (x ∷ xs) zero y p h = (p, h.1)
each_set P (x ∷ xs) (suc i) y p h = (h.0, each_set P xs i y p h.1)

pub each_weaker : {X : Type 0} (P Q : X → Type 0) → ((x : X) → P x → Q x) → (xs : List X) → AllByRecursion P xs → AllByRecursion Q xs
each_weaker P Q f [] h = tt
each_weaker P Q f (x ∷ xs) h = (f x h.0, each_weaker P Q f xs h.1)

pub each_both : {X : Type 0} (P Q R : X → Type 0) → ((x : X) → P x → Q x → R x) → (xs : List X) → AllByRecursion P xs → AllByRecursion Q xs → AllByRecursion R xs
each_both P Q R f [] a b = tt
each_both P Q R f (x ∷ xs) a b = (f x a.0 b.0, each_both P Q R f xs a.1 b.1)

-- f takes what P holds of to what Q holds of
pub each_map : {X Y : Type 0} (f : X → Y) (P : X → Type 0) (Q : Y → Type 0) → ((x : X) → P x → Q (f x)) → (xs : List X) → AllByRecursion P xs → AllByRecursion Q (map f xs)
each_map f P Q h [] a = tt
each_map f P Q h (x ∷ xs) a = (h x a.0, each_map f P Q h xs a.1)

-- of what a loop has left
pub each_end : {X : Type 0} (P : X → Type 0) (xs : List X) (i : ℕ) → length xs ≤ i → AllByRecursion P (drop i xs)
each_end P [] zero h = tt
each_end P [] (suc i) h = tt
each_end P (x ∷ xs) zero h = absurd (omega arith)
each_end P (x ∷ xs) (suc i) h = each_end P xs i (omega arith)

each_more : {X : Type 0} (P : X → Type 0) (xs : List X) (i : ℕ) (d : X) → i < length xs → P (slice_index_or xs i d) → AllByRecursion P (drop (suc i) xs) → AllByRecursion P (drop i xs)
each_more P [] i d lt p h = absurd (omega arith)
each_more P (x ∷ xs) zero d lt p h = (p, h)
each_more P (x ∷ xs) (suc i) d lt p h = each_more P xs i d (omega arith) p h

pub each_step : {X : Type 0} (P : X → Type 0) (xs : List X) (i : ℕ) (d : X) → i < length xs → P (slice_index_or xs i d) → AllByRecursion P (drop (i + 1) xs) → AllByRecursion P (drop i xs)
each_step P xs i d lt p h =
    let one : i + 1 ≡ suc i = omega arith in each_more P xs i d lt p (subst (λ n. AllByRecursion P (drop n xs)) one h)
