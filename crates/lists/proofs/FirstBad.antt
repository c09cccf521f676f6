-- The first item that is refused decides.
use Rattle.std.proofs.Common.{◌≡◌, ℕ, suc, ◌+◌, List, [], ◌∷◌, length, Result, Ok, Err, refl, ap, ◌∙◌, arith, inl, inr, ◌⊎◌}
use Rattle.lists.specs.Refused.{read_lines, ok_then, IsFirstBad}

one_more : {X S F : Type 0} (read : ℕ → X → S → Result S F) (l : X) (ls : List X) (n : ℕ) (s made : S) (e : F) → read n l s ≡ Ok made → IsFirstBad read ls (suc n) made e → IsFirstBad read (l ∷ ls) n s e
unfolding read_lines
one_more {X} read l ls n s made e is r =
    let at : n + suc (length r.front) ≡ suc n + length r.front = omega arith in
    record { front = l ∷ r.front; line = r.line; back = r.back; made = r.made; parts = ap (λ (x : List X). l ∷ x) r.parts; good = ap (λ x. ok_then x (λ m. read_lines read (suc n) r.front m)) is ∙ r.good; bad = ap (λ k. read k r.line r.made) at ∙ r.bad }

here : {X S F : Type 0} (read : ℕ → X → S → Result S F) (l : X) (ls : List X) (n : ℕ) (s : S) (e : F) → read n l s ≡ Err e → IsFirstBad read (l ∷ ls) n s e
unfolding read_lines
here read l ls n s e is =
    let at : n + 0 ≡ n = omega arith in
    record { front = []; line = l; back = ls; made = s; parts = refl; good = refl; bad = ap (λ k. read k l s) at ∙ is }

either : {S F : Type 0} (r : Result S F) (f : S → Result S F) (e : F) → ok_then r f ≡ Err e → ((made : S) × (r ≡ Ok made) × (f made ≡ Err e)) ⊎ (r ≡ Err e)
either (Ok x) f e h = inl (x, refl, h)
either (Err d) f e h = inr h

pub first_bad : {X S F : Type 0} (read : ℕ → X → S → Result S F) (ls : List X) (n : ℕ) (s : S) (e : F) → read_lines read n ls s ≡ Err e → IsFirstBad read ls n s e
unfolding read_lines
first_bad read [] n s e h = absurd cc
first_bad read (l ∷ ls) n s e h = elim (either (read n l s) (λ made. read_lines read (suc n) ls made) e h) [
  | inl x ↦ one_more read l ls n s x.0 e x.1 (first_bad read ls (suc n) x.0 e x.2)
  | inr is ↦ here read l ls n s e is
]
