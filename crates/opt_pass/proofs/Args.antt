-- Recorded arguments stand for values.
use Rattle.std.proofs.Common.{◌≡◌, ℕ, Bool, true, false, cond, List, [], ◌∷◌, Option, Some, None, slice_get, map, refl, sym, ap, ◌∙◌, subst}
use Rattle.std.specs.Option.{option_map}
use Rattle.std.specs.List.{AllZip, AllByRecursion}
use Rattle.trace_ops.specs.declared.trace.BoxId.{BoxId}
use Rattle.trace_ops.specs.declared.trace.Arg.{Arg}
use Rattle.trace_ops.specs.declared.trace.Arg.TheVariants as arg
use Rattle.trace_ops.specs.declared.table.Table.{Table}
use Rattle.trace_ops.specs.declared.piece.Val.{Val}
use Rattle.trace_ops.specs.declared.piece.Val.TheVariants.{Known, Virtual}
use Rattle.trace_meaning.specs.declared.value.Value.{Value}
use Rattle.trace_meaning.specs.declared.value.Value.TheVariants as v
use Rattle.trace_meaning.specs.Boxes.{value_in, arg_value, has_value, with_first, all_values}
use Rattle.trace_meaning.specs.Performing.{function_in}
use Rattle.trace_meaning.specs.Passing.{class_in}
use Rattle.trace_meaning.specs.Recorded.{Rec, values_of}
use Rattle.heap_shape.specs.Sameness.{Maps}
use Rattle.opt_meaning.specs.Step.{Opt, opt_values}
use Rattle.opt_meaning.specs.Agrees.{MapsAt, ArgIs, ValIs, NameIs}
use Rattle.lists.proofs.Options.{some_same, none_some}
use Rattle.opt_pass.specs.declared.state.Pass.{Pass}
use Rattle.opt_pass.specs.Tables.{name_in, known_or, followed, raw, meant, meaning}
use Rattle.opt_pass.specs.State.{slot_val}
use Rattle.opt_pass.specs.Standing.{at_states, Stands}
use Rattle.opt_pass.specs.Keeping.{IsThere, HasKind}
use Rattle.opt_pass.proofs.Extending.{first_parts}

-- Values of arguments

pub value_cons : (f : BoxId → Option Value) (a : Arg) (rest : List Arg) (u : Value) (us : List Value) → has_value a ≡ true → arg_value f a ≡ Some u → all_values (arg_value f) rest ≡ Some us → all_values (arg_value f) (a ∷ rest) ≡ Some (u ∷ us)
value_cons f a rest u us h e more = ap (λ b. cond b (with_first (arg_value f a) (all_values (arg_value f) rest)) (all_values (arg_value f) rest)) h ∙ ap (λ x. with_first x (all_values (arg_value f) rest)) e ∙ ap (with_first (Some u)) more

pub has_some : (f : BoxId → Option Value) (a : Arg) (u : Value) → arg_value f a ≡ Some u → has_value a ≡ true
has_some f (arg.Of b) u e = refl
has_some f (arg.Const z) u e = refl
has_some f arg.Null u e = refl
has_some f (arg.Class k) u e = absurd (none_some e)
has_some f (arg.Func k) u e = absurd (none_some e)
has_some f (arg.Ptr k) u e = refl

module _ (t : Table) (o : Pass) (r : Rec) (p : Opt) (h : Stands t o r p) where
  -- what stands for an argument of the piece has its value
  pub followed_is : (a : Arg) (u : Value) → arg_value (value_in p.boxes) a ≡ Some u → arg_value (value_in p.boxes) (followed o.forward a) ≡ Some u
  followed_is (arg.Of b) u e = h.follows b u e
  followed_is (arg.Const z) u e = e
  followed_is arg.Null u e = e
  followed_is (arg.Class k) u e = e
  followed_is (arg.Func k) u e = e
  followed_is (arg.Ptr k) u e = e

  -- a recorded box that has a value has a name, which is no virtual object
  name_is : (b : BoxId) (y : Value) → value_in r.boxes b ≡ Some y → (x : Option Val) → name_in o.names b ≡ x → NameIs (at_states r p h.mapped h.virtuals) (option_map (meaning o.forward) x) (value_in r.boxes b) → ArgIs (at_states r p h.mapped h.virtuals) (followed o.forward (known_or arg.Null x)) y
  name_is b y e None n is = absurd (subst (NameIs (at_states r p h.mapped h.virtuals) None) e is)
  name_is b y e (Some (Known a)) n is = subst (NameIs (at_states r p h.mapped h.virtuals) (Some (Known (followed o.forward a)))) e is
  name_is b y e (Some (Virtual k)) n is = absurd (h.bare b (Virtual k) n)

  pub arg_stands : (a : Arg) (y : Value) → IsThere t a → arg_value (value_in r.boxes) a ≡ Some y → ArgIs (at_states r p h.mapped h.virtuals) (meant o.names o.forward a) y
  arg_stands (arg.Of b) y k e = name_is b y e (name_in o.names b) refl (h.agrees.names b)
  arg_stands (arg.Const z) y k e = (v.Int z, refl, subst (Maps (slice_get h.mapped) (v.Int z)) (some_same e) refl)
  arg_stands arg.Null y k e = (v.Null, refl, subst (Maps (slice_get h.mapped) v.Null) (some_same e) tt)
  arg_stands (arg.Class n) y k e = absurd (none_some e)
  arg_stands (arg.Func n) y k e = absurd (none_some e)
  arg_stands (arg.Ptr n) y k e = (v.Obj n, refl, subst (Maps (slice_get h.mapped) (v.Obj n)) (some_same e) (h.agrees.injective.prebuilt n k))

  -- the raw name of an argument has the same value
  raw_name : (b : BoxId) (y : Value) → (x : Option Val) → name_in o.names b ≡ x → ArgIs (at_states r p h.mapped h.virtuals) (followed o.forward (known_or arg.Null x)) y → ArgIs (at_states r p h.mapped h.virtuals) (known_or arg.Null x) y
  raw_name b y None n is = is
  raw_name b y (Some (Known a)) n is =
      let k = h.bare b (Known a) n in
      let same : k.0 ≡ is.0 = some_same (sym (followed_is a k.0 k.1) ∙ is.1) in
      (is.0, k.1 ∙ ap Some same, is.2)
  raw_name b y (Some (Virtual m)) n is = absurd (h.bare b (Virtual m) n)

  pub raw_stands : (a : Arg) (y : Value) → IsThere t a → arg_value (value_in r.boxes) a ≡ Some y → ArgIs (at_states r p h.mapped h.virtuals) (raw o.names a) y
  raw_stands (arg.Of b) y k e = raw_name b y (name_in o.names b) refl (arg_stands (arg.Of b) y k e)
  raw_stands (arg.Const z) y k e = arg_stands (arg.Const z) y k e
  raw_stands arg.Null y k e = arg_stands arg.Null y k e
  raw_stands (arg.Class n) y k e = arg_stands (arg.Class n) y k e
  raw_stands (arg.Func n) y k e = arg_stands (arg.Func n) y k e
  raw_stands (arg.Ptr n) y k e = arg_stands (arg.Ptr n) y k e

  -- by any names that stand for the values, and leave classes and functions
  pub record Naming (f : Arg → Arg) : Type 0 where
    pub stands : (a : Arg) (y : Value) → IsThere t a → arg_value (value_in r.boxes) a ≡ Some y → ArgIs (at_states r p h.mapped h.virtuals) (f a) y
    pub class : (n : ℕ) → f (arg.Class n) ≡ arg.Class n
    pub function : (n : ℕ) → f (arg.Func n) ≡ arg.Func n

  pub by_meaning : Naming (meant o.names o.forward)
  by_meaning = record { stands = arg_stands; class = λ n. refl; function = λ n. refl }

  pub by_raw : Naming (raw o.names)
  by_raw = record { stands = raw_stands; class = λ n. refl; function = λ n. refl }

  abbrev Stood : (Arg → Arg) → List Arg → List Value → Type 0
  Stood f args vs = (us : List Value) × (opt_values p (map f args) ≡ Some us) × AllZip (MapsAt (at_states r p h.mapped h.virtuals)) us vs

  one : (f : Arg → Arg) → Naming f → (a : Arg) (rest : List Arg) (vs : List Value) → has_value a ≡ true → IsThere t a → ((zs : List Value) → values_of r rest ≡ Some zs → Stood f rest zs) → with_first (arg_value (value_in r.boxes) a) (values_of r rest) ≡ Some vs → Stood f (a ∷ rest) vs
  one f by a rest vs hv k next e =
      let s = first_parts (arg_value (value_in r.boxes) a) (values_of r rest) vs e in
      let q = by.stands a s.0 k s.1 in
      let n = next s.2 s.3 in
      (q.0 ∷ n.0, value_cons (value_in p.boxes) (f a) (map f rest) q.0 n.0 (has_some (value_in p.boxes) (f a) q.0 q.1) q.1 n.1, subst (AllZip (MapsAt (at_states r p h.mapped h.virtuals)) (q.0 ∷ n.0)) s.4 (q.2, n.2))

  -- recorded arguments that have values have them in the piece
  pub named_stand : (f : Arg → Arg) → Naming f → (args : List Arg) (vs : List Value) → AllByRecursion (IsThere t) args → values_of r args ≡ Some vs → (us : List Value) × (opt_values p (map f args) ≡ Some us) × AllZip (MapsAt (at_states r p h.mapped h.virtuals)) us vs
  named_stand f by [] vs k e = ([], refl, subst (AllZip (MapsAt (at_states r p h.mapped h.virtuals)) []) (some_same e) tt)
  named_stand f by (arg.Of b ∷ rest) vs k e = one f by (arg.Of b) rest vs refl k.0 (λ zs. named_stand f by rest zs k.1) e
  named_stand f by (arg.Const z ∷ rest) vs k e = one f by (arg.Const z) rest vs refl k.0 (λ zs. named_stand f by rest zs k.1) e
  named_stand f by (arg.Null ∷ rest) vs k e = one f by arg.Null rest vs refl k.0 (λ zs. named_stand f by rest zs k.1) e
  named_stand f by (arg.Ptr n ∷ rest) vs k e = one f by (arg.Ptr n) rest vs refl k.0 (λ zs. named_stand f by rest zs k.1) e
  named_stand f by (arg.Class n ∷ rest) vs k e = let s = named_stand f by rest vs k.1 e in (s.0, ap (λ a. cond (has_value a) (with_first (arg_value (value_in p.boxes) a) (opt_values p (map f rest))) (opt_values p (map f rest))) (by.class n) ∙ s.1, s.2)
  named_stand f by (arg.Func n ∷ rest) vs k e = let s = named_stand f by rest vs k.1 e in (s.0, ap (λ a. cond (has_value a) (with_first (arg_value (value_in p.boxes) a) (opt_values p (map f rest))) (opt_values p (map f rest))) (by.function n) ∙ s.1, s.2)

  pub args_stand : (args : List Arg) (vs : List Value) → AllByRecursion (IsThere t) args → values_of r args ≡ Some vs → (us : List Value) × (opt_values p (map (meant o.names o.forward) args) ≡ Some us) × AllZip (MapsAt (at_states r p h.mapped h.virtuals)) us vs
  args_stand args vs k e = named_stand (meant o.names o.forward) by_meaning args vs k e

  -- slots of a guard, each a value
  pub slots_stand : (args : List Arg) (vs : List Value) → AllByRecursion (IsThere t) args → AllByRecursion HasKind args → values_of r args ≡ Some vs → AllZip (ValIs (at_states r p h.mapped h.virtuals)) (map (slot_val o.names o.forward) args) vs
  slots_stand [] vs k w e = subst (AllZip (ValIs (at_states r p h.mapped h.virtuals)) []) (some_same e) tt
  slots_stand (a ∷ rest) vs k w e = by (valued a w.0) (λ zs. slots_stand rest zs k.1 w.1) e
    where
      valued : (a : Arg) → HasKind a → has_value a ≡ true
      valued (arg.Of b) w = refl
      valued (arg.Const z) w = refl
      valued arg.Null w = refl
      valued (arg.Class n) w = absurd w
      valued (arg.Func n) w = absurd w
      valued (arg.Ptr n) w = refl

      by : has_value a ≡ true → ((zs : List Value) → values_of r rest ≡ Some zs → AllZip (ValIs (at_states r p h.mapped h.virtuals)) (map (slot_val o.names o.forward) rest) zs) → values_of r (a ∷ rest) ≡ Some vs → AllZip (ValIs (at_states r p h.mapped h.virtuals)) (map (slot_val o.names o.forward) (a ∷ rest)) vs
      by hv next e =
          let s = first_parts (arg_value (value_in r.boxes) a) (values_of r rest) vs (sym (ap (λ b. cond b (with_first (arg_value (value_in r.boxes) a) (values_of r rest)) (values_of r rest)) hv) ∙ e) in
          subst (AllZip (ValIs (at_states r p h.mapped h.virtuals)) (map (slot_val o.names o.forward) (a ∷ rest))) s.4 (arg_stands a s.0 k.0 s.1, next s.2 s.3)

  -- Classes and functions

  -- a box that has a value is no class and no function in the piece
  no_class : (a x : Arg) (f : BoxId → Option Value) (u : Value) → arg_value f a ≡ Some u → class_in (x ∷ a ∷ []) ≡ None
  no_class (arg.Of b) x f u e = refl
  no_class (arg.Const z) x f u e = refl
  no_class arg.Null x f u e = refl
  no_class (arg.Class n) x f u e = absurd (none_some e)
  no_class (arg.Func n) x f u e = refl
  no_class (arg.Ptr n) x f u e = refl

  no_function : (a : Arg) (rest : List Arg) (f : BoxId → Option Value) (u : Value) → arg_value f a ≡ Some u → function_in (a ∷ rest) ≡ None
  no_function (arg.Of b) rest f u e = refl
  no_function (arg.Const z) rest f u e = refl
  no_function arg.Null rest f u e = refl
  no_function (arg.Class n) rest f u e = refl
  no_function (arg.Func n) rest f u e = absurd (none_some e)
  no_function (arg.Ptr n) rest f u e = refl

  -- the value of the box is there
  box_value : (b : BoxId) (rest : List Arg) (vs : List Value) → values_of r (arg.Of b ∷ rest) ≡ Some vs → (u : Value) × (value_in r.boxes b ≡ Some u) × (zs : List Value) × (values_of r rest ≡ Some zs)
  box_value b rest vs e = let s = first_parts (value_in r.boxes b) (values_of r rest) vs e in (s.0, s.1, s.2, s.3)

  rest_value : (a : Arg) (rest : List Arg) (vs : List Value) → values_of r (a ∷ rest) ≡ Some vs → (zs : List Value) × (values_of r rest ≡ Some zs)
  rest_value a rest vs e = by (has_value a) e
    where
      by : (q : Bool) → cond q (with_first (arg_value (value_in r.boxes) a) (values_of r rest)) (values_of r rest) ≡ Some vs → (zs : List Value) × (values_of r rest ≡ Some zs)
      by true e = let s = first_parts (arg_value (value_in r.boxes) a) (values_of r rest) vs e in (s.2, s.3)
      by false e = (vs, e)

  second_class : (a b : Arg) (vs : List Value) → values_of r (b ∷ []) ≡ Some vs → class_in (meant o.names o.forward a ∷ meant o.names o.forward b ∷ []) ≡ class_in (a ∷ b ∷ [])
  second_class a (arg.Of b) vs e = let s = box_value b [] vs e in let q = arg_stands (arg.Of b) s.0 tt s.1 in no_class (meant o.names o.forward (arg.Of b)) (meant o.names o.forward a) (value_in p.boxes) q.0 q.1
  second_class a (arg.Const z) vs e = refl
  second_class a arg.Null vs e = refl
  second_class a (arg.Class n) vs e = refl
  second_class a (arg.Func n) vs e = refl
  second_class a (arg.Ptr n) vs e = refl

  pub same_class : (args : List Arg) (vs : List Value) → values_of r args ≡ Some vs → class_in (map (meant o.names o.forward) args) ≡ class_in args
  same_class [] vs e = refl
  same_class (a ∷ []) vs e = refl
  same_class (a ∷ b ∷ []) vs e = let s = rest_value a (b ∷ []) vs e in second_class a b s.0 s.1
  same_class (a ∷ b ∷ c ∷ rest) vs e = none (meant o.names o.forward b) ∙ sym (also b)
    where
      none : (x : Arg) → class_in (meant o.names o.forward a ∷ x ∷ meant o.names o.forward c ∷ map (meant o.names o.forward) rest) ≡ None
      none (arg.Of b) = refl
      none (arg.Const z) = refl
      none arg.Null = refl
      none (arg.Class n) = refl
      none (arg.Func n) = refl
      none (arg.Ptr n) = refl

      also : (y : Arg) → class_in (a ∷ y ∷ c ∷ rest) ≡ None
      also (arg.Of b) = refl
      also (arg.Const z) = refl
      also arg.Null = refl
      also (arg.Class n) = refl
      also (arg.Func n) = refl
      also (arg.Ptr n) = refl

  pub same_function : (args : List Arg) (vs : List Value) → values_of r args ≡ Some vs → function_in (map (meant o.names o.forward) args) ≡ function_in args
  same_function [] vs e = refl
  same_function (arg.Of b ∷ rest) vs e = let s = box_value b rest vs e in let q = arg_stands (arg.Of b) s.0 tt s.1 in no_function (meant o.names o.forward (arg.Of b)) (map (meant o.names o.forward) rest) (value_in p.boxes) q.0 q.1
  same_function (arg.Const z ∷ rest) vs e = refl
  same_function (arg.Null ∷ rest) vs e = refl
  same_function (arg.Class n ∷ rest) vs e = refl
  same_function (arg.Func n ∷ rest) vs e = refl
  same_function (arg.Ptr n ∷ rest) vs e = refl
