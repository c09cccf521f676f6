-- An operation of a selected piece, by its place.
use Rattle.std.proofs.Common.{◌≡◌, ℕ, suc, ◌+◌, List, [], ◌∷◌, ◌++◌, length, drop, refl, sym, ap, ◌∙◌, subst, arith, ◌⊎◌}
use Rattle.trace_ops.specs.declared.piece.OptOp.{OptOp}
use Rattle.asm_select.specs.declared.told.Told.{Told}
use Rattle.asm_select.specs.Slots.{Slot}
use Rattle.asm_select.specs.Chosen.{Setting, told_by, code_of}
use Rattle.asm_select.specs.Reached.{IsApart, AreApart, HasWords}
use Rattle.asm_select.specs.Ended.{IsHere}
use Rattle.asm_select.specs.Asked.{IsSafe, AreSafe, IsAsked, AreChosen}
use Rattle.image_model.specs.Modelled.{told_at}
use Rattle.image_model.specs.Laws.{codes_from}

pub record Split (st : Setting) (k : ℕ) (told : Told) (ops done : List OptOp) (op : OptOp) (rest : List OptOp) (xs : List Slot) (more : List (List Slot)) : Type 0 where
  pub code : xs ≡ code_of st (k + length done) (told_at told ops (length done)) op rest
  pub told_next : told_at told ops (length done + 1) ≡ told_by op rest
  pub here : drop (length done) ops ≡ op ∷ rest
  pub after : drop (length done + 1) ops ≡ rest
  pub apart : IsApart st.at op rest
  pub safe : IsSafe st.at op rest
  pub chosen : IsHere st (told_at told ops (length done)) op ⊎ IsAsked st (k + length done) op
  pub words : HasWords st.table op

abbrev head_of : {X : Type 0} → X → List X → X
head_of d [] = d
head_of d (x ∷ xs) = x

abbrev tail_of : {X : Type 0} → List X → List X
tail_of [] = []
tail_of (x ∷ xs) = xs

pub split_at : (st : Setting) (k : ℕ) (told : Told) (done : List OptOp) (op : OptOp) (rest : List OptOp) (before more : List (List Slot)) (xs : List Slot)
    → codes_from st k told (done ++ op ∷ rest) ≡ before ++ xs ∷ more → length done ≡ length before
    → AreApart st.at (done ++ op ∷ rest) → AreSafe st.at (done ++ op ∷ rest) → AreChosen st k told (done ++ op ∷ rest)
    → Split st k told (done ++ op ∷ rest) done op rest xs more
split_at st k told [] op rest [] more xs e same apart safe chosen =
    let key : k ≡ k + 0 = omega arith in
    record {
      code = ap (head_of xs) (sym e) ∙ ap (λ (n : ℕ). code_of st n told op rest) key;
      told_next = refl;
      here = refl;
      after = refl;
      apart = apart.0;
      safe = safe.0;
      chosen = subst (λ (n : ℕ). IsHere st told op ⊎ IsAsked st n op) key chosen.0;
      words = chosen.1;
    }
split_at st k told [] op rest (b ∷ bs) more xs e same apart safe chosen = absurd (omega (arith, same))
split_at st k told (d ∷ ds) op rest [] more xs e same apart safe chosen = absurd (omega (arith, same))
split_at st k told (d ∷ ds) op rest (b ∷ bs) more xs e same apart safe chosen =
    let ops = ds ++ op ∷ rest in
    let z = split_at st (k + 1) (told_by d ops) ds op rest bs more xs (ap tail_of e) (omega (arith, same)) apart.1 safe.1 chosen.2 in
    let long : length (d ∷ ds) ≡ suc (length ds) = refl in
    let next : length (d ∷ ds) + 1 ≡ suc (length ds + 1) = omega arith in
    let key : (k + 1) + length ds ≡ k + length (d ∷ ds) = omega arith in
    record {
      code = z.code ∙ ap (λ (n : ℕ). code_of st n (told_at (told_by d ops) ops (length ds)) op rest) key;
      told_next = ap (told_at told (d ∷ ops)) next ∙ z.told_next;
      here = z.here;
      after = ap (λ (n : ℕ). drop n (d ∷ ops)) next ∙ z.after;
      apart = z.apart;
      safe = z.safe;
      chosen = subst (λ (n : ℕ). IsHere st (told_at (told_by d ops) ops (length ds)) op ⊎ IsAsked st n op) key z.chosen;
      words = z.words;
    }

pub codes_count : (st : Setting) (k : ℕ) (told : Told) (ops : List OptOp) → length (codes_from st k told ops) ≡ length ops
codes_count st k told [] = refl
codes_count st k told (op ∷ ops) = omega (arith, codes_count st (k + 1) (told_by op ops) ops)
