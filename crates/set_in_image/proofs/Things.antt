-- Lists, and what stands in them.
use Rattle.std.proofs.Common.{◌≡◌, ◌⊎◌, inl, inr, ◌-◌, arith, length, true, false, List, [], ◌∷◌, ◌++◌, Some, None, map, refl, sym, ap, ◌∙◌, subst}
use Rattle.std.specs.List.{AllByRecursion, AllZip, Contains, flat_map}
use Rattle.std.proofs.lemmas.Option.{slice_get_within, slice_get-get_or, get_or_from_slice_get}
use Rattle.lists.specs.Has.{Has, IsOnce}
use Rattle.std.specs.Prelude.{slice_index_or}
use Rattle.lists.proofs.Appends.{length_push}
use Rattle.lists.proofs.Eaches.{each_at}
use Rattle.lists.proofs.Membership.{has_left, has_right, has_cases, has_at, has_get}
use Rattle.trace_ops.specs.Sound.{AreApart}

pub false_true : false ≡ true → ⊥
false_true e = cc

pub some_none : {X : Type 0} {x : X} → Some x ≡ None → ⊥
some_none e = cc

pub none_pieces : {X : Type 0} {x : X} → Some None ≡ Some (Some x) → ⊥
none_pieces e = cc

pub cons_none : {X : Type 0} {x : X} {xs : List X} → x ∷ xs ≡ [] → ⊥
cons_none e = cc

tail_same : {X : Type 0} {x y : X} {xs ys : List X} → x ∷ xs ≡ y ∷ ys → xs ≡ ys
tail_same {X} {x} {y} {xs} {ys} e = ap rest e
  where
    rest : List X → List X
    rest [] = []
    rest (z ∷ zs) = zs

head_same : {X : Type 0} {x y : X} {xs ys : List X} → x ∷ xs ≡ y ∷ ys → x ≡ y
head_same {X} {x} {y} {xs} {ys} e = ap first e
  where
    first : List X → X
    first [] = x
    first (z ∷ zs) = z

pub append_none : {X : Type 0} (xs : List X) → xs ++ [] ≡ xs
append_none [] = refl
append_none (x ∷ xs) = ap (λ l. x ∷ l) (append_none xs)

pub append_assoc : {X : Type 0} (xs ys zs : List X) → (xs ++ ys) ++ zs ≡ xs ++ (ys ++ zs)
append_assoc [] ys zs = refl
append_assoc (x ∷ xs) ys zs = ap (λ l. x ∷ l) (append_assoc xs ys zs)

pub flat_both : {X Y : Type 0} (f : X → List Y) (xs ys : List X) → flat_map f (xs ++ ys) ≡ flat_map f xs ++ flat_map f ys
flat_both f [] ys = refl
flat_both f (x ∷ xs) ys = ap (λ l. f x ++ l) (flat_both f xs ys) ∙ sym (append_assoc (f x) (flat_map f xs) (flat_map f ys))

pub map_both : {X Y : Type 0} (f : X → Y) (xs ys : List X) → map f (xs ++ ys) ≡ map f xs ++ map f ys
map_both f [] ys = refl
map_both f (x ∷ xs) ys = ap (λ l. f x ∷ l) (map_both f xs ys)

-- a list whose images are two lists one behind the other
pub record Parted {X Y : Type 0} (f : X → Y) (zs : List X) (xs ys : List Y) : Type 0 where
  pub front : List X
  pub back : List X
  pub whole : zs ≡ front ++ back
  pub fronts : map f front ≡ xs
  pub backs : map f back ≡ ys

pub parted : {X Y : Type 0} (f : X → Y) (zs : List X) (xs ys : List Y) → map f zs ≡ xs ++ ys → Parted f zs xs ys
parted f zs [] ys e = record { front = []; back = zs; whole = refl; fronts = refl; backs = e }
parted f [] (x ∷ xs) ys e = absurd (cons_none (sym e))
parted f (z ∷ zs) (x ∷ xs) ys e =
    let r = parted f zs xs ys (tail_same e) in
    record { front = z ∷ r.front; back = r.back; whole = ap (λ l. z ∷ l) r.whole; fronts = ap (λ y. y ∷ map f r.front) (head_same e) ∙ ap (λ l. x ∷ l) r.fronts; backs = r.backs }

pub push_last : {X : Type 0} (xs : List X) (x y : X) → xs ++ x ∷ [] ≡ xs ++ y ∷ [] → x ≡ y
push_last [] x y e = head_same e
push_last (z ∷ xs) x y e = push_last xs x y (tail_same e)

last_at : {X : Type 0} (xs : List X) (x d : X) → slice_index_or (xs ++ x ∷ []) (length xs) d ≡ x
last_at [] x d = refl
last_at (z ∷ xs) x d = last_at xs x d

pub last_index : {X : Type 0} (xs : List X) (x d : X) → slice_index_or (xs ++ x ∷ []) (length (xs ++ x ∷ []) - 1) d ≡ x
last_index xs x d =
    let long : length (xs ++ x ∷ []) - 1 ≡ length xs = omega (arith, length_push xs x) in
    ap (λ n. slice_index_or (xs ++ x ∷ []) n d) long ∙ last_at xs x d

-- Membership

pub had : {X : Type 0} (xs : List X) (x : X) → Contains xs x → Has xs x
had xs x c = has_get xs c.0 x (slice_get-get_or xs c.0 x c.1 ∙ ap Some c.2)

pub contained : {X : Type 0} (xs : List X) (x : X) → Has xs x → Contains xs x
contained xs x h = let s = has_at xs x h in (s.0, slice_get_within xs s.0 x s.1, get_or_from_slice_get xs s.0 x x s.1)

pub each_of : {X : Type 0} (P : X → Type 0) (xs : List X) (x : X) → AllByRecursion P xs → Has xs x → P x
each_of P xs x all h = let at = has_at xs x h in each_at P xs at.0 x all at.1

pub has_from : {X Y : Type 0} (f : X → Y) (xs : List X) (y : Y) → Has (map f xs) y → (x : X) × Has xs x × (f x ≡ y)
has_from f [] y h = absurd h
has_from f (x ∷ xs) y (inl e) = (x, inl refl, e)
has_from f (x ∷ xs) y (inr h) = let r = has_from f xs y h in (r.0, inr r.1, r.2)

pub flat_has : {X Y : Type 0} (f : X → List Y) (xs : List X) (x : X) (y : Y) → Has xs x → Has (f x) y → Has (flat_map f xs) y
flat_has f [] x y h k = absurd h
flat_has f (z ∷ xs) x y (inl e) k = has_left (f z) (flat_map f xs) y (subst (λ w. Has (f w) y) (sym e) k)
flat_has f (z ∷ xs) x y (inr h) k = has_right (f z) (flat_map f xs) y (flat_has f xs x y h k)

flat_either : {X Y : Type 0} (f : X → List Y) (z : X) (xs : List X) (y : Y) → (Has (flat_map f xs) y → (x : X) × Has xs x × Has (f x) y) → Has (f z) y ⊎ Has (flat_map f xs) y → (x : X) × Has (z ∷ xs) x × Has (f x) y
flat_either f z xs y g (inl h) = (z, inl refl, h)
flat_either f z xs y g (inr h) = let r = g h in (r.0, inr r.1, r.2)

pub flat_from : {X Y : Type 0} (f : X → List Y) (xs : List X) (y : Y) → Has (flat_map f xs) y → (x : X) × Has xs x × Has (f x) y
flat_from f [] y h = absurd h
flat_from f (z ∷ xs) y h = flat_either f z xs y (flat_from f xs y) (has_cases (f z) (flat_map f xs) y h)

-- Pairs

none_zip : {X Y : Type 0} (P : X → Y → Type 0) (ys : List Y) (y : Y) → AllZip P [] (ys ++ y ∷ []) → ⊥
none_zip P [] y z = z
none_zip P (b ∷ ys) y z = z

zip_none : {X Y : Type 0} (P : X → Y → Type 0) (xs : List X) (x : X) → AllZip P (xs ++ x ∷ []) [] → ⊥
zip_none P [] x z = z
zip_none P (a ∷ xs) x z = z

pub zip_last : {X Y : Type 0} (P : X → Y → Type 0) (xs : List X) (ys : List Y) (x : X) (y : Y) → AllZip P (xs ++ x ∷ []) (ys ++ y ∷ []) → P x y
zip_last P [] [] x y z = z.0
zip_last P [] (b ∷ ys) x y z = absurd (none_zip P ys y z.1)
zip_last P (a ∷ xs) [] x y z = absurd (zip_none P xs x z.1)
zip_last P (a ∷ xs) (b ∷ ys) x y z = zip_last P xs ys x y z.1

pub zip_had : {X Y : Type 0} (P : X → Y → Type 0) (xs : List X) (ys : List Y) → AllZip P xs ys → (x : X) → Has xs x → (y : Y) × Has ys y × P x y
zip_had P [] [] z x h = absurd h
zip_had P [] (v ∷ ys) z x h = absurd z
zip_had P (u ∷ xs) [] z x h = absurd z
zip_had P (u ∷ xs) (v ∷ ys) z x (inl e) = (v, inl refl, subst (λ w. P w v) e z.0)
zip_had P (u ∷ xs) (v ∷ ys) z x (inr h) = let r = zip_had P xs ys z.1 x h in (r.0, inr r.1, r.2)

pub zip_has : {X Y : Type 0} (P : X → Y → Type 0) (xs : List X) (ys : List Y) → AllZip P xs ys → (y : Y) → Has ys y → (x : X) × Has xs x × P x y
zip_has P [] [] z y h = absurd h
zip_has P [] (v ∷ ys) z y h = absurd z
zip_has P (x ∷ xs) [] z y h = absurd z
zip_has P (x ∷ xs) (v ∷ ys) z y (inl e) = (x, inl refl, subst (P x) e z.0)
zip_has P (x ∷ xs) (v ∷ ys) z y (inr h) = let r = zip_has P xs ys z.1 y h in (r.0, inr r.1, r.2)

-- Nothing twice

pub apart_once : {X : Type 0} (xs : List X) → AreApart xs → IsOnce xs
apart_once [] h = tt
apart_once (x ∷ xs) h = (λ k. h.0 (contained xs x k), apart_once xs h.1)

pub once_apart : {X : Type 0} (xs : List X) → IsOnce xs → AreApart xs
once_apart [] h = tt
once_apart (x ∷ xs) h = (λ c. h.0 (had xs x c), once_apart xs h.1)

pub once_right : {X : Type 0} (xs ys : List X) → IsOnce (xs ++ ys) → IsOnce ys
once_right [] ys h = h
once_right (x ∷ xs) ys h = once_right xs ys h.1
