-- Lists of which one item is written.
use Rattle.std.proofs.Common.{◌≡◌, ℕ, zero, suc, List, [], ◌∷◌, Some, length, slice_get, map, refl, sym, ap, ◌∙◌}
use Rattle.std.specs.Prelude.{slice_set}
use Rattle.lists.proofs.Options.{some_same}

pub length_set : {X : Type 0} (xs : List X) (j : ℕ) (v : X) → length (slice_set xs j v) ≡ length xs
length_set [] j v = refl
length_set (x ∷ xs) zero v = refl
length_set (x ∷ xs) (suc j) v = ap suc (length_set xs j v)

-- by one that f doesn't tell from the one before
pub map_set : {X Y : Type 0} (f : X → Y) (xs : List X) (i : ℕ) (x y : X) → slice_get xs i ≡ Some x → f y ≡ f x → map f (slice_set xs i y) ≡ map f xs
map_set f [] i x y e same = refl
map_set f (z ∷ zs) zero x y e same = ap (λ w. w ∷ map f zs) (same ∙ ap f (sym (some_same e)))
map_set f (z ∷ zs) (suc i) x y e same = ap (λ ws. f z ∷ ws) (map_set f zs i x y e same)
