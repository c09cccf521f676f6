-- Values of their kinds in boxes and in arguments.
use Rattle.std.proofs.Common.{◌≡◌, ℕ, ◌<◌, ◌≤◌, ◌⊎◌, inl, inr, Bool, true, false, cond, Option, Some, None, List, [], ◌∷◌, length, map, refl, ap, sym, ◌∙◌, subst, arith}
use Rattle.std.specs.List.{All}
use Rattle.std.proofs.lemmas.Option.{same_Some, cond_some}
use Rattle.std.proofs.lemmas.List.Elements.{All-nil, All-cons, All-head, All-tail}
use Rattle.trace_ops.specs.declared.trace.Kind.{Kind}
use Rattle.trace_ops.specs.declared.trace.Kind.TheVariants as kind
use Rattle.trace_ops.specs.declared.trace.BoxId.{BoxId}
use Rattle.trace_ops.specs.declared.trace.Arg.{Arg}
use Rattle.trace_ops.specs.declared.trace.Arg.TheVariants as arg
use Rattle.trace_ops.specs.declared.table.Table.{Table}
use Rattle.trace_ops.specs.Kinds.{kind_of_arg, NamesArg}
use Rattle.trace_meaning.specs.declared.value.Value.{Value}
use Rattle.trace_meaning.specs.declared.value.Value.TheVariants as v
use Rattle.trace_meaning.specs.Values.{kind_of_value}
use Rattle.trace_meaning.specs.Boxes.{Boxes, BoxesDecide, same_box, value_in, bind, bind_all, bound_to, arg_value, with_first, all_values}
use Rattle.trace_meaning.specs.Kinds.{IsValueOf, BoxesHold, AreOfKinds}

-- the same where there are more objects
pub IsValueOf-more : (m n : ℕ) (k : Kind) (x : Value) → m ≤ n → IsValueOf m k x → IsValueOf n k x
IsValueOf-more m n kind.Int (v.Int z) le h = tt
IsValueOf-more m n kind.Int v.Null le h = absurd h
IsValueOf-more m n kind.Int (v.Obj o) le h = absurd h
IsValueOf-more m n kind.Ref (v.Int z) le h = absurd h
IsValueOf-more m n kind.Ref v.Null le h = tt
IsValueOf-more m n kind.Ref (v.Obj o) le h = let less : o < m = h in omega arith

pub BoxesHold-more : (m n : ℕ) (boxes : Boxes) → m ≤ n → BoxesHold m boxes → BoxesHold n boxes
BoxesHold-more m n boxes le h = λ b x e. IsValueOf-more m n b.kind x le (h b x e)

-- Boxes

module _ (decides : BoxesDecide) (b c : BoxId) (x y : Value) where
  replaced : (es : Boxes) (k : BoxId) (z : Value) (t : Bool) → same_box c k ≡ t → same_box b k ≡ true → cond t (Some x) (value_in es c) ≡ Some y → ((c ≡ b) × (y ≡ x)) ⊎ (cond t (Some z) (value_in es c) ≡ Some y)
  replaced es k z true same own h = inl ((decides c k).0 same ∙ sym ((decides b k).0 own), sym (same_Some x y h))
  replaced es k z false same own h = inr h

  passed : (es : Boxes) (z : Value) (t : Bool) → (value_in (bind b x es) c ≡ Some y → ((c ≡ b) × (y ≡ x)) ⊎ (value_in es c ≡ Some y)) → cond t (Some z) (value_in (bind b x es) c) ≡ Some y → ((c ≡ b) × (y ≡ x)) ⊎ (cond t (Some z) (value_in es c) ≡ Some y)
  passed es z true more h = inr h
  passed es z false more h = more h

  -- what a box holds when one has got a value
  bound_cases : (es : Boxes) → value_in (bind b x es) c ≡ Some y → ((c ≡ b) × (y ≡ x)) ⊎ (value_in es c ≡ Some y)
  bound_cases [] h = let found = cond_some (same_box c b) x y h in inl ((decides c b).0 found.0, sym found.1)
  bound_cases (e ∷ es) h = elim (same_box b e.0) as (λ t. same_box b e.0 ≡ t → value_in (cond t ((e.0, x) ∷ es) (e ∷ bind b x es)) c ≡ Some y → ((c ≡ b) × (y ≡ x)) ⊎ (value_in (e ∷ es) c ≡ Some y)) [
    | true ↦ λ own g. replaced es e.0 e.1 (same_box c e.0) refl own g
    | false ↦ λ own g. passed es e.1 (same_box c e.0) (bound_cases es) g
  ] refl h

pub BoxesHold-bind : (decides : BoxesDecide) (n : ℕ) (b : BoxId) (x : Value) (boxes : Boxes) → IsValueOf n b.kind x → BoxesHold n boxes → BoxesHold n (bind b x boxes)
BoxesHold-bind decides n b x boxes one h = λ c y e. elim (bound_cases decides b c x y boxes e) [
  | inl same ↦ subst (λ z. IsValueOf n c.kind z) (sym same.1) (subst (λ (d : BoxId). IsValueOf n d.kind x) (sym same.0) one)
  | inr there ↦ h c y there
]

-- Values, of the kinds that are there one after another

bound_held : (decides : BoxesDecide) (n : ℕ) (bs : List BoxId) (xs : List Value) (boxes : Boxes) → BoxesHold n boxes → AreOfKinds n (map (λ (b : BoxId). Some b.kind) bs) xs → BoxesHold n (bind_all boxes bs xs)
bound_held decides n [] xs boxes held h = held
bound_held decides n (b ∷ bs) [] boxes held h = absurd h
bound_held decides n (b ∷ bs) (x ∷ xs) boxes held h = bound_held decides n bs xs (bind b x boxes) (BoxesHold-bind decides n b x boxes h.0 held) h.1

pub BoxesHold-bound_to : (decides : BoxesDecide) (n : ℕ) (bs : List BoxId) (xs : List Value) → AreOfKinds n (map (λ (b : BoxId). Some b.kind) bs) xs → BoxesHold n (bound_to bs xs)
BoxesHold-bound_to decides n bs xs h = bound_held decides n bs xs [] (λ b x e. absurd (cc)) h

own_kind : (n : ℕ) (k : Kind) (x : Value) → IsValueOf n k x → k ≡ kind_of_value x
own_kind n kind.Int (v.Int z) h = refl
own_kind n kind.Int v.Null h = absurd h
own_kind n kind.Int (v.Obj o) h = absurd h
own_kind n kind.Ref (v.Int z) h = absurd h
own_kind n kind.Ref v.Null h = refl
own_kind n kind.Ref (v.Obj o) h = refl

-- values of kinds have these kinds
pub kinds_are : (n : ℕ) (ks : List Kind) (xs : List Value) → AreOfKinds n (map (λ (k : Kind). Some k) ks) xs → map kind_of_value xs ≡ ks
kinds_are n [] [] h = refl
kinds_are n [] (x ∷ xs) h = absurd h
kinds_are n (k ∷ ks) [] h = absurd h
kinds_are n (k ∷ ks) (x ∷ xs) h = ap (λ (l : Kind). l ∷ map kind_of_value xs) (sym (own_kind n k x h.0)) ∙ ap (λ (ls : List Kind). k ∷ ls) (kinds_are n ks xs h.1)

-- boxes, as arguments
pub boxes_named : (t : Table) (bs : List BoxId) → All (NamesArg t) (map arg.Of bs)
boxes_named t [] = All-nil (NamesArg t)
boxes_named t (b ∷ bs) = All-cons (NamesArg t) (arg.Of b) (map arg.Of bs) tt (boxes_named t bs)

pub boxes_kinds : (bs : List BoxId) → map kind_of_arg (map arg.Of bs) ≡ map (λ (b : BoxId). Some b.kind) bs
boxes_kinds [] = refl
boxes_kinds (b ∷ bs) = ap (λ (ks : List (Option Kind)). Some b.kind ∷ ks) (boxes_kinds bs)

module _ (t : Table) (n : ℕ) (boxes : Boxes) (there : length t.prebuilts ≤ n) (held : BoxesHold n boxes) where
  abbrev value : Arg → Option Value
  value a = arg_value (value_in boxes) a

  first_held : (k : Kind) (ks : List (Option Kind)) (one : Option Value) (rest : Option (List Value)) (xs : List Value) → ((x : Value) → one ≡ Some x → IsValueOf n k x) → ((ys : List Value) → rest ≡ Some ys → AreOfKinds n ks ys) → with_first one rest ≡ Some xs → AreOfKinds n (Some k ∷ ks) xs
  first_held k ks (Some x) (Some ys) xs first more h = let same : x ∷ ys ≡ xs = same_Some (x ∷ ys) xs h in let P : List Value → Type 0 = λ zs. AreOfKinds n (Some k ∷ ks) zs in subst P same (first x refl, more ys refl)
  first_held k ks (Some x) None xs first more h = absurd (cc)
  first_held k ks None rest xs first more h = absurd (cc)

  known : (k : Kind) (x y : Value) → IsValueOf n k x → Some x ≡ Some y → IsValueOf n k y
  known k x y h e = subst (λ z. IsValueOf n k z) (same_Some x y e) h

  -- arguments that name rows of the table have values of their kinds
  pub AreOfKinds-all_values : (args : List Arg) (xs : List Value) → All (NamesArg t) args → all_values value args ≡ Some xs → AreOfKinds n (map kind_of_arg args) xs
  AreOfKinds-all_values [] xs named h = let same : [] ≡ xs = same_Some [] xs h in let P : List Value → Type 0 = λ ys. AreOfKinds n [] ys in subst P same tt
  AreOfKinds-all_values (arg.Of b ∷ rest) xs named h = first_held b.kind (map kind_of_arg rest) (value_in boxes b) (all_values value rest) xs (held b) (λ ys e. AreOfKinds-all_values rest ys (All-tail (NamesArg t) (arg.Of b) rest named) e) h
  AreOfKinds-all_values (arg.Const z ∷ rest) xs named h = first_held kind.Int (map kind_of_arg rest) (Some (v.Int z)) (all_values value rest) xs (λ y e. known kind.Int (v.Int z) y tt e) (λ ys e. AreOfKinds-all_values rest ys (All-tail (NamesArg t) (arg.Const z) rest named) e) h
  AreOfKinds-all_values (arg.Null ∷ rest) xs named h = first_held kind.Ref (map kind_of_arg rest) (Some v.Null) (all_values value rest) xs (λ y e. known kind.Ref v.Null y tt e) (λ ys e. AreOfKinds-all_values rest ys (All-tail (NamesArg t) arg.Null rest named) e) h
  AreOfKinds-all_values (arg.Class k ∷ rest) xs named h = AreOfKinds-all_values rest xs (All-tail (NamesArg t) (arg.Class k) rest named) h
  AreOfKinds-all_values (arg.Func k ∷ rest) xs named h = AreOfKinds-all_values rest xs (All-tail (NamesArg t) (arg.Func k) rest named) h
  AreOfKinds-all_values (arg.Ptr k ∷ rest) xs named h =
      let less : k < length t.prebuilts = All-head (NamesArg t) (arg.Ptr k) rest named in
      let inside : k < n = omega arith in
      first_held kind.Ref (map kind_of_arg rest) (Some (v.Obj k)) (all_values value rest) xs (λ y e. known kind.Ref (v.Obj k) y inside e) (λ ys e. AreOfKinds-all_values rest ys (All-tail (NamesArg t) (arg.Ptr k) rest named) e) h
