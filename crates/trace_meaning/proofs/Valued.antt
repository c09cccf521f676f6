-- Boxes and arguments that have values.
use Rattle.std.proofs.Common.{◌≡◌, ℕ, Bool, true, false, Option, Some, None, List, [], ◌∷◌, ◌++◌, map, refl, ap, sym, ◌∙◌, subst, append_assoc}
use Rattle.std.specs.Prelude.{IsSome}
use Rattle.std.specs.List.{All, flat_map}
use Rattle.std.proofs.lemmas.List.Elements.{All-nil, All-cons, All-head, All-tail, All-append}
use Rattle.lists.proofs.Alls.{all_weaker, all_left, all_right}
use Rattle.trace_ops.specs.declared.trace.BoxId.{BoxId}
use Rattle.trace_ops.specs.declared.trace.Arg.{Arg}
use Rattle.trace_ops.specs.declared.trace.Arg.TheVariants as arg
use Rattle.trace_ops.specs.declared.trace.Frame.{Frame}
use Rattle.trace_ops.specs.Parts.{boxes_of_arg}
use Rattle.trace_meaning.specs.declared.value.Value.{Value}
use Rattle.trace_meaning.specs.declared.value.Value.TheVariants as v
use Rattle.trace_meaning.specs.Boxes.{Boxes, BoxesDecide, HasValue, same_box, value_in, bind, bind_all, bound_to, arg_value, with_first, all_values}
use Rattle.trace_meaning.specs.Recorded.{slots_of}
use Rattle.trace_meaning.proofs.BoxLaws.{value_in-bind_same, value_in-bind_other}
use Rattle.trace_meaning.specs.Kinds.{AreOfKinds}

-- Boxes that have values

pub some_is : {X : Type 0} (x : Option X) → IsSome x → (y : X) × (x ≡ Some y)
some_is None h = absurd (cc)
some_is (Some x) h = (x, refl)

is_some_of : {X : Type 0} (x : Option X) (y : X) → x ≡ Some y → IsSome x
is_some_of x y e = subst (λ (z : Option _). IsSome z) (sym e) refl

module _ (decides : BoxesDecide) where
  pub own_value : (b : BoxId) (x : Value) (boxes : Boxes) → HasValue (bind b x boxes) b
  own_value b x boxes = is_some_of (value_in (bind b x boxes) b) x (value_in-bind_same decides b x boxes)

  kept_by : (b c : BoxId) (x : Value) (boxes : Boxes) (t : Bool) → same_box c b ≡ t → HasValue boxes c → HasValue (bind b x boxes) c
  kept_by b c x boxes true t h = let P : BoxId → Type 0 = λ d. HasValue (bind b x boxes) d in subst P (sym ((decides c b).0 t)) (own_value b x boxes)
  kept_by b c x boxes false t h = subst (λ (y : Option Value). IsSome y) (sym (value_in-bind_other decides b c x boxes (λ s. apart ((decides c b).1 s)))) h
    where
      apart : same_box c b ≡ true → ⊥
      apart g = let no : false ≡ true = sym t ∙ g in cc

  value_kept : (b c : BoxId) (x : Value) (boxes : Boxes) → HasValue boxes c → HasValue (bind b x boxes) c
  value_kept b c x boxes h = kept_by b c x boxes (same_box c b) refl h

  pub all_kept : (b : BoxId) (x : Value) (boxes : Boxes) (bs : List BoxId) → All (HasValue boxes) bs → All (HasValue (bind b x boxes)) bs
  all_kept b x boxes bs h = all_weaker (HasValue boxes) (HasValue (bind b x boxes)) bs (λ c k. value_kept b c x boxes k) h

  bound_kept : (bs : List BoxId) (xs : List Value) (boxes : Boxes) (cs : List BoxId) → All (HasValue boxes) cs → All (HasValue (bind_all boxes bs xs)) cs
  bound_kept [] xs boxes cs h = h
  bound_kept (b ∷ bs) [] boxes cs h = h
  bound_kept (b ∷ bs) (x ∷ xs) boxes cs h = bound_kept bs xs (bind b x boxes) cs (all_kept b x boxes cs h)

  bound_values : (n : ℕ) (bs : List BoxId) (xs : List Value) (boxes : Boxes) → AreOfKinds n (map (λ (b : BoxId). Some b.kind) bs) xs → All (HasValue (bind_all boxes bs xs)) bs
  bound_values n [] xs boxes h = All-nil (HasValue (bind_all boxes [] xs))
  bound_values n (b ∷ bs) [] boxes h = absurd h
  bound_values n (b ∷ bs) (x ∷ xs) boxes h =
      let one = bound_kept bs xs (bind b x boxes) (b ∷ []) (All-cons (HasValue (bind b x boxes)) b [] (own_value b x boxes) (All-nil (HasValue (bind b x boxes)))) in
      All-cons (HasValue (bind_all (bind b x boxes) bs xs)) b bs (All-head (HasValue (bind_all (bind b x boxes) bs xs)) b [] one) (bound_values n bs xs (bind b x boxes) h.1)

  pub inputs-valued : (n : ℕ) (bs : List BoxId) (xs : List Value) → AreOfKinds n (map (λ (b : BoxId). Some b.kind) bs) xs → All (HasValue (bound_to bs xs)) bs
  inputs-valued n bs xs h = bound_values n bs xs [] h

-- Arguments whose boxes have values

firsts : (x : Option Value) (xs : Option (List Value)) → IsSome x → IsSome xs → IsSome (with_first x xs)
firsts (Some x) (Some xs) h k = refl
firsts None xs h k = absurd (cc)
firsts (Some x) None h k = absurd (cc)

pub values-there : (boxes : Boxes) (args : List Arg) → All (HasValue boxes) (flat_map boxes_of_arg args) → IsSome (all_values (arg_value (value_in boxes)) args)
values-there boxes [] h = refl
values-there boxes (arg.Of b ∷ args) h = firsts (value_in boxes b) (all_values (arg_value (value_in boxes)) args) (All-head (HasValue boxes) b (flat_map boxes_of_arg args) h) (values-there boxes args (All-tail (HasValue boxes) b (flat_map boxes_of_arg args) h))
values-there boxes (arg.Const z ∷ args) h = firsts (Some (v.Int z)) (all_values (arg_value (value_in boxes)) args) refl (values-there boxes args h)
values-there boxes (arg.Null ∷ args) h = firsts (Some v.Null) (all_values (arg_value (value_in boxes)) args) refl (values-there boxes args h)
values-there boxes (arg.Ptr k ∷ args) h = firsts (Some (v.Obj k)) (all_values (arg_value (value_in boxes)) args) refl (values-there boxes args h)
values-there boxes (arg.Class k ∷ args) h = values-there boxes args h
values-there boxes (arg.Func k ∷ args) h = values-there boxes args h

pub slots_boxes : (frames : List Frame) (b : Boxes) → All (HasValue b) (flat_map (λ (f : Frame). flat_map boxes_of_arg f.slots) frames) → All (HasValue b) (flat_map boxes_of_arg (slots_of frames))
slots_boxes [] b h = h
slots_boxes (f ∷ frames) b h =
    let P = HasValue b in
    let xs = flat_map boxes_of_arg f.slots in
    let ys = flat_map (λ (f : Frame). flat_map boxes_of_arg f.slots) frames in
    subst (λ l. All P l) (sym (flat_append f.slots (slots_of frames))) (All-append P xs (flat_map boxes_of_arg (slots_of frames)) (all_left P xs ys h) (slots_boxes frames b (all_right P xs ys h)))
  where
    flat_append : (xs ys : List Arg) → flat_map boxes_of_arg (xs ++ ys) ≡ flat_map boxes_of_arg xs ++ flat_map boxes_of_arg ys
    flat_append [] ys = refl
    flat_append (x ∷ xs) ys = ap (λ l. boxes_of_arg x ++ l) (flat_append xs ys) ∙ sym (append_assoc (boxes_of_arg x) (flat_map boxes_of_arg xs) (flat_map boxes_of_arg ys))
