-- A list that is filled place by place.
use Rattle.std.proofs.Common.{◌≡◌, ℕ, ◌+◌, ◌<◌, List, length, get_or, ap, sym, ◌∙◌, arith, inl, inr}
use Rattle.std.proofs.Math.ListN.{set}
use Rattle.std.proofs.lemmas.List.{get_or-set_other, get_or-set_same}
use Rattle.std.proofs.lemmas.Bool.Decides.{eqb_tells}

pub filled_more : {X : Type 0} (xs : List X) (i : ℕ) (v d : X) (f : ℕ → X) → i < length xs → v ≡ f i → ((j : ℕ) → j < i → get_or xs j d ≡ f j) → (j : ℕ) → j < i + 1 → get_or (set xs i v) j d ≡ f j
filled_more xs i v d f within e below j h =
    elim (eqb_tells j i) [ inl t ↦ ap (λ k. get_or (set xs i v) k d) t.1 ∙ get_or-set_same xs i v d within ∙ e ∙ ap f (sym t.1) | inr t ↦ get_or-set_other xs i j v d t.1 ∙ below j (omega arith) ]
