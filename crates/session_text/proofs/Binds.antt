-- What gave a value, step by step.
use Rattle.std.proofs.Common.{◌≡◌, ℕ, Bool, true, false, cond, List, [], ◌∷◌, Option, Some, None, refl, subst, inl, inr, ◌⊎◌}
use Rattle.std.specs.Prelude.{◌||◌}
use Rattle.std.specs.Str.{bytes_eq}
use Rattle.std.proofs.lemmas.Slice.Eq.{bytes_eq-Decides}
use Rattle.text_lines.specs.Words.{is_name}
use Rattle.lists.specs.Binds.{◌>>=◌}
use Rattle.lists.proofs.Bools.{if_some}
use Rattle.text_lines.specs.Reading.{name_at, ended}

-- one of two
pub name_takes : (ws : List (List ℕ)) (x : List ℕ × List (List ℕ)) → name_at ws ≡ Some x → (ws ≡ x.0 ∷ x.1) × (is_name x.0 ≡ true)
unfolding name_at
name_takes [] x e = absurd cc
name_takes (w ∷ ws) x e =
    let g = if_some (is_name w) (w, ws) x e in
    subst (λ (y : List ℕ × List (List ℕ)). (w ∷ ws ≡ y.0 ∷ y.1) × (is_name y.0 ≡ true)) g.1 (refl, g.0)

pub ended_takes : {A : Type 0} (x y : A) (ws : List (List ℕ)) → ended x ws ≡ Some y → (ws ≡ []) × (x ≡ y)
ended_takes x y [] e = (refl, cc)
ended_takes x y (w ∷ ws) e = absurd cc
