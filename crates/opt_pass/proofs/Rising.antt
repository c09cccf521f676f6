-- Guards bear rising numbers, and what sets overflow stands before the guard that reads it.
use Rattle.std.proofs.Common.{◌≡◌, ℕ, zero, suc, ◌+◌, ◌<◌, ◌≤◌, Bool, true, false, cond, List, [], ◌∷◌, ◌++◌, Option, Some, None, length, slice_get, take, refl, sym, ap, ◌∙◌, subst, arith, ◌⊎◌, inl, inr}
use Rattle.std.specs.Option.{option_map}
use Rattle.std.specs.List.{AllByRecursion, Contains, flat_map}
use Rattle.trace_ops.specs.declared.trace.Op.{Op}
use Rattle.trace_ops.specs.declared.piece.OptOp.{OptOp}
use Rattle.trace_ops.specs.Classes.{is_guard, is_overflowing, reads_overflow}
use Rattle.trace_ops.specs.Pieces.{guards_of, sets_overflow, tests_overflow, HasItsPair, IsPaired}
use Rattle.trace_ops.specs.Sound.{AreApart}
use Rattle.lists.specs.Has.{Has, IsOnce}
use Rattle.lists.proofs.Eaches.{each_weaker, each_append}
use Rattle.lists.proofs.Onces.{once_push}
use Rattle.lists.proofs.Options.{some_same, none_some}
use Rattle.opt_pass.specs.Rising.{Pairs, sets_behind}
use Rattle.opt_pass.proofs.Snapping.{has_contained, no_more}

-- Pairs

pub pairs_push : (p q : Bool) (xs : List OptOp) (x : OptOp) → Pairs p xs q → tests_overflow x ≡ q → Pairs p (xs ++ x ∷ []) (sets_overflow x)
pairs_push p q [] x h e = (e ∙ sym h, refl)
pairs_push p q (y ∷ xs) x h e = (h.0, pairs_push (sets_overflow y) q xs x h.1 e)

true_false : true ≡ false → ⊥
true_false e = cc

pub pairs_tested : (p : Bool) (xs : List OptOp) → Pairs p xs false → HasItsPair xs
pairs_tested p [] h k e = absurd (none_some e)
pairs_tested p (x ∷ xs) h zero e = next xs h.1 (some_same e)
  where
    next : (xs : List OptOp) → Pairs (sets_overflow x) xs false → sets_overflow x ≡ true → option_map tests_overflow (slice_get (x ∷ xs) (0 + 1)) ≡ Some true
    next [] h e = absurd (true_false (sym e ∙ h))
    next (y ∷ xs) h e = ap Some (h.0 ∙ e)
pairs_tested p (x ∷ xs) h (suc k) e =
    let shift : suc k + 1 ≡ suc (k + 1) = omega arith in
    ap (λ z. option_map tests_overflow (slice_get (x ∷ xs) z)) shift ∙ pairs_tested (sets_overflow x) xs h.1 k e

pub pairs_set : (p q : Bool) (xs : List OptOp) → Pairs p xs q → (k : ℕ) → option_map tests_overflow (slice_get xs k) ≡ Some true → ((k ≡ 0) × (p ≡ true)) ⊎ ((j : ℕ) × (k ≡ j + 1) × (option_map sets_overflow (slice_get xs j) ≡ Some true))
pairs_set p q [] h k e = absurd (none_some e)
pairs_set p q (x ∷ xs) h zero e = inl (refl, sym h.0 ∙ some_same e)
pairs_set p q (x ∷ xs) h (suc k) e = by (pairs_set (sets_overflow x) q xs h.1 k e)
  where
    by : ((k ≡ 0) × (sets_overflow x ≡ true)) ⊎ ((j : ℕ) × (k ≡ j + 1) × (option_map sets_overflow (slice_get xs j) ≡ Some true)) → ((suc k ≡ 0) × (p ≡ true)) ⊎ ((j : ℕ) × (suc k ≡ j + 1) × (option_map sets_overflow (slice_get (x ∷ xs) j) ≡ Some true))
    by (inl s) = let first : k ≡ 0 = s.0 in inr (0, omega (arith, first), ap Some s.1)
    by (inr s) = let more : k ≡ s.0 + 1 = s.1 in inr (suc s.0, omega (arith, more), s.2)

pub pairs_paired : (q : Bool) (xs : List OptOp) → Pairs false xs q → IsPaired xs
pairs_paired q xs h k e = by (pairs_set false q xs h k e)
  where
    by : ((k ≡ 0) × (false ≡ true)) ⊎ ((j : ℕ) × (k ≡ j + 1) × (option_map sets_overflow (slice_get xs j) ≡ Some true)) → (j : ℕ) × (k ≡ j + 1) × (option_map sets_overflow (slice_get xs j) ≡ Some true)
    by (inl s) = absurd (true_false (sym s.1))
    by (inr s) = s

pub behind_push : (ops : List Op) (op : Op) → sets_behind (ops ++ op ∷ []) ≡ is_overflowing op.code
behind_push [] op = refl
behind_push (x ∷ []) op = refl
behind_push (x ∷ y ∷ ops) op = behind_push (y ∷ ops) op

-- Numbers

pub apart_once : {X : Type 0} (xs : List X) → IsOnce xs → AreApart xs
apart_once [] h = tt
apart_once (x ∷ xs) h = ((λ c. h.0 (has_contained xs x c)), apart_once xs h.1)

below_not : (n : ℕ) (gs : List ℕ) → AllByRecursion (λ g. g < n) gs → Has gs n → ⊥
below_not n [] h k = k
below_not n (g ∷ gs) h (inl e) = let lt : g < n = h.0 in absurd (omega (arith, lt, e))
below_not n (g ∷ gs) h (inr k) = below_not n gs h.1 k

pub once_more : (n : ℕ) (gs more : List ℕ) → length more ≤ 1 → AllByRecursion (λ g. g ≡ n) more → AllByRecursion (λ g. g < n) gs → IsOnce gs → IsOnce (gs ++ more)
once_more n gs [] few h below once = subst IsOnce (sym (no_more gs)) once
once_more n gs (g ∷ []) few h below once = once_push gs g once (λ k. below_not n gs below (subst (Has gs) h.0 k))
once_more n gs (g ∷ z ∷ more) few h below once = absurd (omega (arith, few))
