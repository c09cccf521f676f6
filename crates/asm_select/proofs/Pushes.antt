-- Lists that are gone through place by place.
use Rattle.std.proofs.Common.{◌≡◌, ◌≤◌, ◌<◌, ℕ, zero, suc, ◌+◌, Some, List, [], ◌∷◌, ◌++◌, length, drop, get_or, refl, ap, ◌∙◌, sym, arith, drop-cons, append_assoc}
use Rattle.trace_ops.specs.declared.code.OpCode.{OpCode}
use Rattle.trace_ops.specs.declared.trace.BoxId.{BoxId}
use Rattle.trace_ops.specs.declared.trace.Arg.{Arg}
use Rattle.trace_ops.specs.declared.trace.Descr.{Descr}
use Rattle.trace_ops.specs.declared.piece.OptOp.{OptOp}
use Rattle.trace_ops.specs.declared.piece.OptOp.TheVariants as opt
use Rattle.trace_ops.specs.Classes.{is_overflowing}
use Rattle.target_base.specs.declared.place.Place.{Place}
use Rattle.asm_select.specs.Drafting.{pair_at, pairs_at}
use Rattle.asm_select.specs.Chosen.{Where, Setting, operand_of, set_operand, constants_code, binary_form, binary_cond, is_tested, told_if, told_over, told_by}

pub told_two : (operation : OpCode) (r : BoxId) (args : List Arg) (d : Descr) (ops : List OptOp) → 2 ≤ length args → length args < 3 → told_over (is_overflowing operation) (told_if (is_tested r ops) (binary_cond (binary_form operation)) r) ≡ told_by (opt.Plain operation (Some r) args d) ops
told_two operation r [] d ops two three = absurd (omega (arith, two))
told_two operation r (a ∷ []) d ops two three = absurd (omega (arith, two))
told_two operation r (a ∷ b ∷ []) d ops two three = refl
told_two operation r (a ∷ b ∷ e ∷ args) d ops two three = absurd (omega (arith, three))

pub none_left : {A : Type 0} (targets : List A) (k : ℕ) → length targets ≤ k → drop k targets ≡ []
none_left [] zero h = refl
none_left [] (suc k) h = refl
none_left (y ∷ targets) zero h = absurd (omega (arith, h))
none_left (y ∷ targets) (suc k) h = none_left targets k (omega (arith, h))

no_targets : (c : Setting) (args : List Arg) → constants_code c args [] ≡ []
no_targets c [] = refl
no_targets c (a ∷ args) = refl

pub constants_then : (c : Setting) (args : List Arg) (targets : List Place) (k : ℕ) (a : Arg) (t : Place) → k < length args → k < length targets
    → constants_code c (drop k args) (drop k targets) ≡ set_operand (get_or targets k t) (operand_of c (get_or args k a)) ++ constants_code c (drop (k + 1) args) (drop (k + 1) targets)
constants_then c args targets k a t la lt =
    let n : suc k ≡ k + 1 = omega arith in
    let x = get_or args k a in
    let y = get_or targets k t in
    ap (λ (xs : List Arg). constants_code c xs (drop k targets)) (drop-cons args k a la)
    ∙ ap (λ (ys : List Place). constants_code c (x ∷ drop (suc k) args) ys) (drop-cons targets k t lt)
    ∙ ap (λ (m : ℕ). set_operand y (operand_of c x) ++ constants_code c (drop m args) (drop m targets)) n

pub constants_else : (c : Setting) (args : List Arg) (targets : List Place) (k : ℕ) → length targets ≤ k → constants_code c (drop k args) (drop k targets) ≡ constants_code c (drop (k + 1) args) (drop (k + 1) targets)
constants_else c args targets k h =
    ap (λ (ys : List Place). constants_code c (drop k args) ys) (none_left targets k h) ∙ no_targets c (drop k args)
    ∙ sym (ap (λ (ys : List Place). constants_code c (drop (k + 1) args) ys) (none_left targets (k + 1) (omega (arith, h))) ∙ no_targets c (drop (k + 1) args))

-- one more of a list, and no more
pub one_more : {A : Type 0} (out was : List A) (x rest all whole : List A) → out ≡ was ++ x → all ≡ x ++ rest → was ++ all ≡ whole → out ++ rest ≡ whole
one_more {A} out was x rest all whole e f g =
    ap (λ (l : List A). l ++ rest) e ∙ append_assoc was x rest ∙ ap (λ (l : List A). was ++ l) (sym f) ∙ g

no_pairs : (at : Where) (args : List Arg) → pairs_at at args [] ≡ []
no_pairs at [] = refl
no_pairs at (a ∷ args) = refl

pub pairs_then : (at : Where) (args : List Arg) (targets : List Place) (k : ℕ) (a : Arg) (t : Place) → k < length args → k < length targets
    → pairs_at at (drop k args) (drop k targets) ≡ pair_at at (get_or targets k t) (get_or args k a) ++ pairs_at at (drop (k + 1) args) (drop (k + 1) targets)
pairs_then at args targets k a t la lt =
    let n : suc k ≡ k + 1 = omega arith in
    let x = get_or args k a in
    let y = get_or targets k t in
    ap (λ (xs : List Arg). pairs_at at xs (drop k targets)) (drop-cons args k a la)
    ∙ ap (λ (ys : List Place). pairs_at at (x ∷ drop (suc k) args) ys) (drop-cons targets k t lt)
    ∙ ap (λ (m : ℕ). pair_at at y x ++ pairs_at at (drop m args) (drop m targets)) n

pub pairs_else : (at : Where) (args : List Arg) (targets : List Place) (k : ℕ) → length targets ≤ k → pairs_at at (drop k args) (drop k targets) ≡ pairs_at at (drop (k + 1) args) (drop (k + 1) targets)
pairs_else at args targets k h =
    ap (λ (ys : List Place). pairs_at at (drop k args) ys) (none_left targets k h) ∙ no_pairs at (drop k args)
    ∙ sym (ap (λ (ys : List Place). pairs_at at (drop (k + 1) args) ys) (none_left targets (k + 1) (omega (arith, h))) ∙ no_pairs at (drop (k + 1) args))
