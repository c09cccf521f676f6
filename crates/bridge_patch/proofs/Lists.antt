-- Lists that are gone through.
use Rattle.std.proofs.Common.{◌≡◌, ℕ, suc, ◌+◌, ◌<◌, List, [], ◌∷◌, ◌++◌, length, take, drop, get_or, refl, sym, ap, ◌∙◌, arith, drop-cons, append-nil, length-drop, ◌≤◌}
use Rattle.std.proofs.lemmas.List.{take-append-drop}
use Rattle.std.specs.Prelude.{map}
use Rattle.std.proofs.lemmas.List.{map-append}
use Rattle.std.proofs.lemmas.Grind.{take_at_read}

pub front_of : {X : Type 0} (xs : List X) (i : ℕ) (x : X) → i < length xs → x ≡ get_or xs i x → drop i xs ≡ x ∷ drop (i + 1) xs
front_of xs i x lt e =
    let n : suc i ≡ i + 1 = omega arith in
    drop-cons xs i x lt ∙ ap (λ z. z ∷ drop (suc i) xs) (sym e) ∙ ap (λ m. x ∷ drop m xs) n

pub take_of : {X : Type 0} (xs : List X) (i : ℕ) (x : X) → i < length xs → x ≡ get_or xs i x → take (i + 1) xs ≡ take i xs ++ x ∷ []
take_of xs i x lt e = (take_at_read xs i x lt).1 ∙ ap (λ z. take i xs ++ z ∷ []) (sym e)

pub take_map : {X Y : Type 0} (f : X → Y) (xs : List X) (i : ℕ) (x : X) → i < length xs → x ≡ get_or xs i x → map f (take (i + 1) xs) ≡ map f (take i xs) ++ f x ∷ []
take_map f xs i x lt e = ap (map f) (take_of xs i x lt e) ∙ map-append f (take i xs) (x ∷ [])

pub drop_map : {X Y : Type 0} (f : X → Y) (xs : List X) (i : ℕ) (x : X) → i < length xs → x ≡ get_or xs i x → map f (drop i xs) ≡ f x ∷ map f (drop (i + 1) xs)
drop_map f xs i x lt e = ap (map f) (front_of xs i x lt e)

-- what is read at one place is one
pub get_same : {X : Type 0} (xs : List X) (i : ℕ) (x y : X) → i < length xs → x ≡ get_or xs i x → y ≡ get_or xs i y → x ≡ y
get_same xs i x y lt a b = a ∙ same xs i x y lt ∙ sym b
  where
    same : {X : Type 0} (xs : List X) (i : ℕ) (x y : X) → i < length xs → get_or xs i x ≡ get_or xs i y
    same xs i x y lt = head_same (sym (drop-cons xs i x lt) ∙ drop-cons xs i y lt)
      where
        head_same : {X : Type 0} {a b : X} {l m : List X} → a ∷ l ≡ b ∷ m → a ≡ b
        head_same e = cc

pub take_whole : {X : Type 0} (k : ℕ) (xs : List X) → length xs ≤ k → take k xs ≡ xs
take_whole k xs le = sym (append-nil (take k xs)) ∙ ap (λ l. take k xs ++ l) (sym (nil_of (drop k xs) (length-drop k xs ∙ omega (arith, le)))) ∙ take-append-drop k xs
  where
    nil_of : {X : Type 0} (ys : List X) → length ys ≡ 0 → ys ≡ []
    nil_of [] e = refl
    nil_of (y ∷ ys) e = absurd (no (length ys) e)
      where
        no : (n : ℕ) → suc n ≡ 0 → ⊥
        no n h = omega (arith, h)
