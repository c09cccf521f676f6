-- Passed guards, constants and intervals.
use Rattle.std.proofs.Common.{◌≡◌, ℤ, pos, Bool, true, false, cond, Option, Some, None, List, [], ◌∷◌, refl, sym, ap, ◌∙◌}
use Rattle.std.specs.Prelude.{not, int_lt, int_le, nat_lt, nat_le}
use Rattle.std.specs.Option.{option_map}
use Rattle.std.specs.Ordering.{int_eq}
use Rattle.lists.proofs.Options.{some_same, none_some}
use Rattle.trace_ops.specs.declared.code.OpCode.{OpCode}
use Rattle.trace_ops.specs.declared.code.OpCode.TheVariants as code
use Rattle.trace_ops.specs.declared.trace.BoxId.{BoxId}
use Rattle.trace_ops.specs.declared.trace.Arg.{Arg}
use Rattle.trace_ops.specs.declared.trace.Arg.TheVariants as arg
use Rattle.trace_ops.specs.declared.table.Table.{Table}
use Rattle.trace_ops.specs.declared.piece.Fact.TheVariants as fact
use Rattle.trace_ops.specs.Words.{truth, unsigned}
use Rattle.trace_ops.specs.Folds.{binary}
use Rattle.trace_meaning.specs.declared.value.Value.{Value}
use Rattle.trace_meaning.specs.declared.value.Value.TheVariants as v
use Rattle.trace_meaning.specs.Boxes.{arg_value, has_value, with_first, all_values}
use Rattle.trace_meaning.specs.Folding.{fold, fold_words}
use Rattle.trace_meaning.specs.Passing.{passes}
use Rattle.opt_meaning.specs.Agrees.{Place, FactHolds}
use Rattle.int_bounds.specs.declared.interval.Interval.{Interval}
use Rattle.int_bounds.specs.Within.{IsWithin}
use Rattle.int_bounds.specs.Narrows.{Answers, Narrows}
use Rattle.agreement.specs.Narrowing.{PassedFixes, compares_words, guard_of, LiesIn, PassedNarrows, ZeroIsCompared}
use Rattle.agreement.proofs.Further.{first_parts}
use Rattle.agreement.proofs.Telling.{false_told, isnull_told, equal_told, same_head, nil_cons}

pub passed_fixes : PassedFixes
passed_fixes args u x w = (
  λ e. same_head (false_told (u ∷ []) e),
  λ e. same_head (isnull_told (u ∷ []) e),
  λ e. equal_told u x e,
)

-- The answer of a comparison

-- 1 or 0
abbrev IsTruth : Option ℤ → Type 0
IsTruth o = (b : Bool) × (o ≡ Some (truth b))

answers_truth : (operation : OpCode) (a b : ℤ) → compares_words operation ≡ true → IsTruth (binary operation a b)
answers_truth code.IntLt a b e = (int_lt a b, refl)
answers_truth code.IntLe a b e = (int_le a b, refl)
answers_truth code.IntEq a b e = (int_eq a b, refl)
answers_truth code.IntNe a b e = (not (int_eq a b), refl)
answers_truth code.IntGt a b e = (int_lt b a, refl)
answers_truth code.IntGe a b e = (int_le b a, refl)
answers_truth code.UintLt a b e = (nat_lt (unsigned a) (unsigned b), refl)
answers_truth code.UintLe a b e = (nat_le (unsigned a) (unsigned b), refl)
answers_truth code.UintGt a b e = (nat_lt (unsigned b) (unsigned a), refl)
answers_truth code.UintGe a b e = (nat_le (unsigned b) (unsigned a), refl)
answers_truth _ a b e = absurd (cc)

-- what a comparison of words gives is its answer
folds_words : (operation : OpCode) (a b : ℤ) → compares_words operation ≡ true → fold operation (v.Int a ∷ v.Int b ∷ []) ≡ option_map v.Int (binary operation a b)
folds_words code.IntLt a b e = refl
folds_words code.IntLe a b e = refl
folds_words code.IntEq a b e = refl
folds_words code.IntNe a b e = refl
folds_words code.IntGt a b e = refl
folds_words code.IntGe a b e = refl
folds_words code.UintLt a b e = refl
folds_words code.UintLe a b e = refl
folds_words code.UintGt a b e = refl
folds_words code.UintGe a b e = refl
folds_words _ a b e = absurd (cc)

int_same : {x y : ℤ} → v.Int x ≡ v.Int y → x ≡ y
int_same e = cc

-- the guard passes where the answer is the one that it wants
truth_passes : (passed b : Bool) (args : List Arg) (at : Place) → passes (guard_of passed) args (v.Int (truth b) ∷ []) at.opt ≡ Some true → b ≡ passed
truth_passes true true args at e = refl
truth_passes false false args at e = refl
truth_passes true false args at e = absurd (cc)
truth_passes false true args at e = absurd (cc)

-- Values of two arguments

two_here : (p q : Bool) (x y : Option Value) (a b : Value) (xs : List Value) → x ≡ Some a → y ≡ Some b → p ≡ true → q ≡ true
    → cond p (with_first x (cond q (with_first y (Some [])) (Some []))) (cond q (with_first y (Some [])) (Some [])) ≡ Some xs → xs ≡ a ∷ b ∷ []
two_here p q x y a b xs ex ey ep eq e =
    let full : Some (a ∷ b ∷ []) ≡ Some xs =
    sym (ap (λ o. with_first (Some a) (with_first o (Some []))) ey) ∙ sym (ap (λ o. with_first o (with_first y (Some []))) ex)
    ∙ sym (ap (λ k. with_first x (cond k (with_first y (Some [])) (Some []))) eq)
    ∙ sym (ap (λ k. cond k (with_first x (cond q (with_first y (Some [])) (Some []))) (cond q (with_first y (Some [])) (Some []))) ep) ∙ e in
    sym (some_same full)

value_there : (value : BoxId → Option Value) (a : Arg) (x : Value) → arg_value value a ≡ Some x → has_value a ≡ true
value_there value (arg.Of b) x e = refl
value_there value (arg.Const z) x e = refl
value_there value arg.Null x e = refl
value_there value (arg.Class k) x e = absurd (none_some e)
value_there value (arg.Func k) x e = absurd (none_some e)
value_there value (arg.Ptr k) x e = refl

two_words : (at : Place) (x y : Arg) (a b : Value) (xs : List Value) → arg_value at.box x ≡ Some a → arg_value at.box y ≡ Some b
    → all_values (arg_value at.box) (x ∷ y ∷ []) ≡ Some xs → xs ≡ a ∷ b ∷ []
two_words at x y a b xs ex ey e = two_here (has_value x) (has_value y) (arg_value at.box x) (arg_value at.box y) a b xs ex ey (value_there at.box x a ex) (value_there at.box y b ey) e

-- the pair stays in what is left of the intervals
stays_in : (operation : OpCode) (passed : Bool) (i j : Interval) (narrowed : Option (Interval × Interval)) (at : Place) (x y : Arg) (a b : ℤ)
    → arg_value at.box x ≡ Some (v.Int a) → arg_value at.box y ≡ Some (v.Int b) → IsWithin i a → IsWithin j b → Answers operation passed a b
    → Narrows (Answers operation passed) i j narrowed
    → (r : Interval × Interval) × (narrowed ≡ Some r) × LiesIn at r.0 x × LiesIn at r.1 y
stays_in operation passed i j None at x y a b ex ey ia jb answers n = absurd (n a b ia jb answers)
stays_in operation passed i j (Some r) at x y a b ex ey ia jb answers n =
    let both = n.0 a b ia jb answers in
    (r, refl, (a, ex, both.0), (b, ey, both.1))

pub passed_narrows : PassedNarrows
passed_narrows t at operation passed x y b u args i j narrowed compares same here passing lx ly n =
    let words : same.0 ≡ v.Int lx.0 ∷ v.Int ly.0 ∷ [] = two_words at x y (v.Int lx.0) (v.Int ly.0) same.0 lx.1 ly.1 same.1 in
    let answer = answers_truth operation lx.0 ly.0 compares in
    let folded : fold operation same.0 ≡ Some (v.Int (truth answer.0)) =
    ap (fold operation) words ∙ folds_words operation lx.0 ly.0 compares ∙ ap (option_map v.Int) answer.1 in
    let is : u ≡ v.Int (truth answer.0) = some_same (sym here ∙ same.4 ∙ sym same.3 ∙ folded) in
    let so : answer.0 ≡ passed = truth_passes passed answer.0 args at (sym (ap (λ k. passes (guard_of passed) args (k ∷ []) at.opt) is) ∙ passing) in
    (is ∙ ap (λ k. v.Int (truth k)) so, stays_in operation passed i j narrowed at x y lx.0 ly.0 lx.1 ly.1 lx.2 ly.2 (answer.1 ∙ ap (λ k. Some (truth k)) so) n)

-- Zero

-- the one argument that such a test takes is a word
one_word : (operation : OpCode) → ((xs : List Value) → fold operation xs ≡ option_map v.Int (fold_words operation xs)) → ((a b : ℤ) → binary operation a b ≡ None)
    → (xs : List Value) (y : Value) → fold operation xs ≡ Some y → (a : ℤ) × (xs ≡ v.Int a ∷ [])
one_word operation folds none [] y e = absurd (none_some (sym (folds []) ∙ e))
one_word operation folds none (v.Int a ∷ []) y e = (a, refl)
one_word operation folds none (v.Int a ∷ v.Int b ∷ []) y e = absurd (none_some (sym (folds (v.Int a ∷ v.Int b ∷ []) ∙ ap (option_map v.Int) (none a b)) ∙ e))
one_word operation folds none (v.Int a ∷ v.Int b ∷ c ∷ rest) y e = absurd (none_some (sym (folds (v.Int a ∷ v.Int b ∷ c ∷ rest)) ∙ e))
one_word operation folds none (v.Int a ∷ v.Null ∷ rest) y e = absurd (none_some (sym (folds (v.Int a ∷ v.Null ∷ rest)) ∙ e))
one_word operation folds none (v.Int a ∷ v.Obj n ∷ rest) y e = absurd (none_some (sym (folds (v.Int a ∷ v.Obj n ∷ rest)) ∙ e))
one_word operation folds none (v.Null ∷ rest) y e = absurd (none_some (sym (folds (v.Null ∷ rest)) ∙ e))
one_word operation folds none (v.Obj n ∷ rest) y e = absurd (none_some (sym (folds (v.Obj n ∷ rest)) ∙ e))

beside_zero : (h : Bool) (o : Option Value) (u : Value) → cond h (with_first o (Some [])) (Some []) ≡ Some (u ∷ [])
    → cond h (with_first o (Some (v.Int (pos 0) ∷ []))) (Some (v.Int (pos 0) ∷ [])) ≡ Some (u ∷ v.Int (pos 0) ∷ [])
beside_zero true (Some x) u e = ap (λ k. Some (k ∷ v.Int (pos 0) ∷ [])) (same_head (some_same e))
beside_zero true None u e = absurd (none_some e)
beside_zero false o u e = absurd (nil_cons (some_same e))

compared_with_zero : (one two : OpCode) (t : Table) (at : Place) (x value : Arg)
    → ((xs : List Value) → fold one xs ≡ option_map v.Int (fold_words one xs)) → ((a b : ℤ) → binary one a b ≡ None)
    → ((a : ℤ) → fold one (v.Int a ∷ []) ≡ fold two (v.Int a ∷ v.Int (pos 0) ∷ []))
    → FactHolds t at (fact.Same one (x ∷ []) value) → FactHolds t at (fact.Same two (x ∷ arg.Const (pos 0) ∷ []) value)
compared_with_zero one two t at x value folds none same h =
    let w = one_word one folds none h.0 h.2 h.3 in (
      v.Int w.0 ∷ v.Int (pos 0) ∷ [],
      beside_zero (has_value x) (arg_value at.box x) (v.Int w.0) (h.1 ∙ ap Some w.1),
      h.2,
      sym (same w.0) ∙ sym (ap (fold one) w.1) ∙ h.3,
      h.4,
    )

pub zero_is_compared : ZeroIsCompared
zero_is_compared t at x value = (
  compared_with_zero code.IntIsZero code.IntEq t at x value (λ xs. refl) (λ a b. refl) (λ a. refl),
  compared_with_zero code.IntIsTrue code.IntNe t at x value (λ xs. refl) (λ a b. refl) (λ a. refl),
)
