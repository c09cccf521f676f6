-- Stores of parts, and spots of items, made one after another.
use Rattle.std.proofs.Common.{◌≡◌, ℕ, zero, suc, ◌+◌, ◌-◌, ◌<◌, ◌≤◌, List, [], ◌∷◌, ◌++◌, length, map, drop, min, refl, sym, ap, ◌∙◌, append_assoc, arith}
use Rattle.trace_ops.specs.declared.trace.BoxId.{BoxId}
use Rattle.trace_ops.specs.declared.piece.Val.{Val}
use Rattle.trace_ops.specs.declared.piece.Spot.{Spot}
use Rattle.trace_ops.specs.declared.piece.Pending.{Pending}
use Rattle.agreement.specs.Spots.{items_from}
use Rattle.opt_pass.specs.Starting.{item_at, fills}

append_none : {X : Type 0} (xs : List X) → xs ++ [] ≡ xs
append_none [] = refl
append_none (z ∷ zs) = ap (λ l. z ∷ l) (append_none zs)

none_left : (b : BoxId) (ss : List Spot) → fills b ss [] ≡ []
none_left b [] = refl
none_left b (s ∷ ss) = refl

-- after the last
past_all : (b : BoxId) (f : Val → Val) (ss : List Spot) (xs : List Val) (k : ℕ) → min (length ss) (length xs) ≤ k → fills b (drop k ss) (map f (drop k xs)) ≡ []
past_all b f [] xs zero h = refl
past_all b f (s ∷ ss) [] zero h = refl
past_all b f (s ∷ ss) (x ∷ xs) zero h = absurd (omega (arith, h))
past_all b f [] xs (suc k) h = refl
past_all b f (s ∷ ss) [] (suc k) h = none_left b (drop k ss)
past_all b f (s ∷ ss) (x ∷ xs) (suc k) h = past_all b f ss xs k (omega (arith, h))

pub fills_all : (out begun : List Pending) (b : BoxId) (f : Val → Val) (ss : List Spot) (xs : List Val) (k : ℕ) → min (length ss) (length xs) ≤ k → out ++ fills b (drop k ss) (map f (drop k xs)) ≡ begun ++ fills b ss (map f xs) → out ≡ begun ++ fills b ss (map f xs)
fills_all out begun b f ss xs k past h = sym (append_none out) ∙ ap (λ z. out ++ z) (sym (past_all b f ss xs k past)) ∙ h

-- Items

pub items_all : (out : List Spot) (array k count : ℕ) → count ≤ k → out ++ items_from array k (count - k) ≡ items_from array 0 count → out ≡ items_from array 0 count
items_all out array k count past h =
    let none : count - k ≡ 0 = omega (arith, past) in
    sym (append_none out) ∙ ap (λ z. out ++ items_from array k z) (sym none) ∙ h

pub items_more : (out more : List Spot) (array k count : ℕ) → k < count → more ≡ out ++ item_at array k ∷ [] → out ++ items_from array k (count - k) ≡ items_from array 0 count → more ++ items_from array (k + 1) (count - (k + 1)) ≡ items_from array 0 count
items_more out more array k count lt m h =
    let one : count - k ≡ suc (count - (k + 1)) = omega (arith, lt) in
    ap (λ z. z ++ items_from array (k + 1) (count - (k + 1))) m ∙ append_assoc out (item_at array k ∷ []) (items_from array (k + 1) (count - (k + 1))) ∙ ap (λ z. out ++ items_from array k z) (sym one) ∙ h
