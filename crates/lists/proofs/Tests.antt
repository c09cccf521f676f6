-- Tests of each item.
use Rattle.std.proofs.Common.{◌≡◌, Bool, true, List, [], ◌∷◌, ◌++◌, refl}
use Rattle.std.specs.List.{list_all}
use Rattle.std.proofs.lemmas.Bool.{and_parts}

pub list_all_append : {X : Type 0} (p : X → Bool) (xs ys : List X) → list_all p xs ≡ true → list_all p ys ≡ true → list_all p (xs ++ ys) ≡ true
list_all_append p [] ys a b = b
list_all_append p (x ∷ xs) ys a b =
    let h = and_parts (p x) (list_all p xs) a in
    let rest : list_all p (xs ++ ys) ≡ true = list_all_append p xs ys h.1 b in
    rw (h.0, rest) refl

pub list_all_weaker : {X : Type 0} (p q : X → Bool) → ((x : X) → p x ≡ true → q x ≡ true) → (xs : List X) → list_all p xs ≡ true → list_all q xs ≡ true
list_all_weaker p q f [] h = refl
list_all_weaker p q f (x ∷ xs) h =
    let e = and_parts (p x) (list_all p xs) h in
    let one : q x ≡ true = f x e.0 in
    let rest : list_all q xs ≡ true = list_all_weaker p q f xs e.1 in
    rw (one, rest) refl
