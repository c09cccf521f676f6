-- A lawful plain operation whose boxes have values goes wrong only where it is undefined on them.
use Rattle.std.proofs.Common.{◌≡◌, ℕ, zero, suc, ◌<◌, ◌≤◌, ◌⊎◌, inl, inr, Bool, true, false, cond, Option, Some, None, List, [], ◌∷◌, length, map, drop, slice_get, refl, ap, sym, ◌∙◌, subst, arith, ℤ, pos, negsuc}
use Rattle.std.specs.Prelude.{◌==◌, ◌&&◌, option_and_then, nat_lt, is_some, IsSome, IsSomeAnd}
use Rattle.std.specs.Option.{option_map}
use Rattle.std.specs.List.{All, list_all}
use Rattle.std.proofs.lemmas.Bool.{eq-eqb, and_parts, ltb-true, ltb-false}
use Rattle.std.proofs.lemmas.Option.{slice_get_past}
use Rattle.std.proofs.lemmas.List.Quantifiers.{position-Some}
use Rattle.lists.proofs.Alls.{all_at}
use Rattle.lists.proofs.Places.{get_some}
use Rattle.trace_ops.specs.declared.code.OpCode.{OpCode}
use Rattle.trace_ops.specs.declared.code.OpCode.TheVariants as code
use Rattle.trace_ops.specs.declared.facts.Part.{Part}
use Rattle.trace_ops.specs.declared.facts.Part.TheVariants as part
use Rattle.trace_ops.specs.declared.facts.Want.TheVariants as want
use Rattle.trace_ops.specs.declared.facts.Takes.TheVariants as takes
use Rattle.trace_ops.specs.declared.facts.Cites.{Cites}
use Rattle.trace_ops.specs.declared.facts.Cites.TheVariants as cites
use Rattle.trace_ops.specs.declared.trace.Kind.{Kind}
use Rattle.trace_ops.specs.declared.trace.Kind.TheVariants as kind
use Rattle.trace_ops.specs.declared.trace.Arg.{Arg}
use Rattle.trace_ops.specs.declared.trace.Arg.TheVariants as arg
use Rattle.trace_ops.specs.declared.trace.Descr.{Descr}
use Rattle.trace_ops.specs.declared.trace.Descr.TheVariants as descr
use Rattle.trace_ops.specs.declared.piece.Spot.{Spot}
use Rattle.trace_ops.specs.declared.piece.Spot.TheVariants as spot
use Rattle.trace_ops.specs.declared.table.ShapeOf.{ShapeOf}
use Rattle.trace_ops.specs.declared.table.ShapeOf.TheVariants as shape
use Rattle.trace_ops.specs.declared.table.FieldRow.{FieldRow}
use Rattle.trace_ops.specs.declared.table.CallRow.{CallRow}
use Rattle.trace_ops.specs.declared.table.Table.{Table}
use Rattle.trace_ops.specs.Facts.{takes_of, gives_of, cites_of, part_of}
use Rattle.trace_ops.specs.Classes.{plain, guarding}
use Rattle.trace_ops.specs.Fits.{FitsDescr, AreCompared}
use Rattle.trace_ops.specs.Kinds.{kind_of_arg, kind_of_field}
use Rattle.trace_ops.specs.Rules.{AreTaken, IsStored, stored_kind}
use Rattle.trace_ops.specs.InRange.{IsTableInRange}
use Rattle.trace_meaning.specs.declared.value.Value.{Value}
use Rattle.trace_meaning.specs.declared.value.Value.TheVariants as v
use Rattle.trace_meaning.specs.declared.value.Object.{Object}
use Rattle.trace_meaning.specs.declared.call.Give.{Give}
use Rattle.trace_meaning.specs.declared.call.Give.TheVariants as give
use Rattle.trace_meaning.specs.declared.call.Answer.{Answer}
use Rattle.trace_meaning.specs.Values.{references}
use Rattle.trace_meaning.specs.World.{World}
use Rattle.trace_meaning.specs.Objects.{read, part_of_object, place_of, item_place, index_of, fields_of, write, write_unfrozen, is_frozen, immutable, written, within, place_within, with_part, with_object, length_at, items_in, is_array}
use Rattle.trace_meaning.specs.Answers.{same_result, kind_given, is_named, fits, value_given, store_fits}
use Rattle.trace_meaning.specs.Passing.{passes, object_has_class}
use Rattle.trace_meaning.specs.Performing.{value_done, write_done, make_items, answered_if, called_first, call_row, call, perform}
use Rattle.trace_meaning.specs.Kinds.{IsValueOf}
use Rattle.trace_meaning.specs.There.{HasRoomFor, HasItsParts}
use Rattle.trace_meaning.specs.Undefined.{IsNull, IsNotOfArray, IsBelowZero, IsImmutable, HasNoField, HasNoItems, IsUndefined, GivesIf, GoesRight, OnlyUndefinedGoWrong}
use Rattle.trace_meaning.specs.Kinds.{AreOfKinds}
use Rattle.trace_meaning.proofs.HoldingAnswers.{same_result_same}
use Rattle.trace_meaning.proofs.Listed.{field-listed}

abbrev pub IsPlainPart : Part → Type 0
IsPlainPart part.Plain = Unit {0}
IsPlainPart part.Overflowing = Unit {0}
IsPlainPart _ = ⊥

-- Values of wanted kinds

module _ (n : ℕ) where
  pub first_int : (P : List Value → Type 0) (ks : List (Option Kind)) (vs : List Value) → AreOfKinds n (Some kind.Int ∷ ks) vs → ((a : ℤ) (rest : List Value) → AreOfKinds n ks rest → P (v.Int a ∷ rest)) → P vs
  first_int P ks [] h f = absurd h
  first_int P ks (v.Int a ∷ rest) h f = f a rest h.1
  first_int P ks (v.Null ∷ rest) h f = absurd h.0
  first_int P ks (v.Obj k ∷ rest) h f = absurd h.0

  pub first_ref : (P : List Value → Type 0) (ks : List (Option Kind)) (vs : List Value) → AreOfKinds n (Some kind.Ref ∷ ks) vs → ((x : Value) (rest : List Value) → IsValueOf n kind.Ref x → AreOfKinds n ks rest → P (x ∷ rest)) → P vs
  first_ref P ks [] h f = absurd h
  first_ref P ks (x ∷ rest) h f = f x rest h.0 h.1

  first_any : (k : Kind) (P : List Value → Type 0) (ks : List (Option Kind)) (vs : List Value) → AreOfKinds n (Some k ∷ ks) vs → ((x : Value) (rest : List Value) → AreOfKinds n ks rest → P (x ∷ rest)) → P vs
  first_any k P ks [] h f = absurd h
  first_any k P ks (x ∷ rest) h f = f x rest h.1

  pub no_more : (P : List Value → Type 0) (vs : List Value) → AreOfKinds n [] vs → P [] → P vs
  no_more P [] h p = p
  no_more P (x ∷ xs) h p = absurd h

  -- of the arguments that an operation takes

  pub one_int : (t : Table) (c : Cites) (d : Descr) (P : List Value → Type 0) (args : List Arg) (vs : List Value) → AreTaken t c d (takes.One want.Int) args → AreOfKinds n (map kind_of_arg args) vs → ((a : ℤ) → P (v.Int a ∷ [])) → P vs
  one_int t c d P (a ∷ []) vs ha hv f = first_int P [] vs (subst (λ k. AreOfKinds n (k ∷ []) vs) ha hv) (λ x rest h. no_more (λ ys. P (v.Int x ∷ ys)) rest h (f x))
  one_int t c d P [] vs ha hv f = absurd ha
  one_int t c d P (a ∷ b ∷ args) vs ha hv f = absurd ha

  pub one_ref : (t : Table) (c : Cites) (d : Descr) (P : List Value → Type 0) (args : List Arg) (vs : List Value) → AreTaken t c d (takes.One want.Ref) args → AreOfKinds n (map kind_of_arg args) vs → ((x : Value) → IsValueOf n kind.Ref x → P (x ∷ [])) → P vs
  one_ref t c d P (a ∷ []) vs ha hv f = first_ref P [] vs (subst (λ k. AreOfKinds n (k ∷ []) vs) ha hv) (λ x rest hx h. no_more (λ ys. P (x ∷ ys)) rest h (f x hx))
  one_ref t c d P [] vs ha hv f = absurd ha
  one_ref t c d P (a ∷ b ∷ args) vs ha hv f = absurd ha

  two_ints : (t : Table) (c : Cites) (d : Descr) (P : List Value → Type 0) (args : List Arg) (vs : List Value) → AreTaken t c d (takes.Two want.Int want.Int) args → AreOfKinds n (map kind_of_arg args) vs → ((a b : ℤ) → P (v.Int a ∷ v.Int b ∷ [])) → P vs
  two_ints t c d P (a ∷ b ∷ []) vs ha hv f =
      first_int P (Some kind.Int ∷ []) vs (subst (λ k. AreOfKinds n (Some kind.Int ∷ k ∷ []) vs) ha.1 (subst (λ k. AreOfKinds n (k ∷ kind_of_arg b ∷ []) vs) ha.0 hv))
      (λ x rest h. first_int (λ ys. P (v.Int x ∷ ys)) [] rest h (λ y more g. no_more (λ zs. P (v.Int x ∷ v.Int y ∷ zs)) more g (f x y)))
  two_ints t c d P [] vs ha hv f = absurd ha
  two_ints t c d P (a ∷ []) vs ha hv f = absurd ha
  two_ints t c d P (a ∷ b ∷ e ∷ args) vs ha hv f = absurd ha

  two_refs : (t : Table) (c : Cites) (d : Descr) (P : List Value → Type 0) (args : List Arg) (vs : List Value) → AreTaken t c d (takes.Two want.Ref want.Ref) args → AreOfKinds n (map kind_of_arg args) vs → ((x y : Value) → IsValueOf n kind.Ref x → IsValueOf n kind.Ref y → P (x ∷ y ∷ [])) → P vs
  two_refs t c d P (a ∷ b ∷ []) vs ha hv f =
      first_ref P (Some kind.Ref ∷ []) vs (subst (λ k. AreOfKinds n (Some kind.Ref ∷ k ∷ []) vs) ha.1 (subst (λ k. AreOfKinds n (k ∷ kind_of_arg b ∷ []) vs) ha.0 hv))
      (λ x rest hx h. first_ref (λ ys. P (x ∷ ys)) [] rest h (λ y more hy g. no_more (λ zs. P (x ∷ y ∷ zs)) more g (f x y hx hy)))
  two_refs t c d P [] vs ha hv f = absurd ha
  two_refs t c d P (a ∷ []) vs ha hv f = absurd ha
  two_refs t c d P (a ∷ b ∷ e ∷ args) vs ha hv f = absurd ha

  ref_int : (t : Table) (c : Cites) (d : Descr) (P : List Value → Type 0) (args : List Arg) (vs : List Value) → AreTaken t c d (takes.Two want.Ref want.Int) args → AreOfKinds n (map kind_of_arg args) vs → ((x : Value) (i : ℤ) → IsValueOf n kind.Ref x → P (x ∷ v.Int i ∷ [])) → P vs
  ref_int t c d P (a ∷ b ∷ []) vs ha hv f =
      first_ref P (Some kind.Int ∷ []) vs (subst (λ k. AreOfKinds n (Some kind.Ref ∷ k ∷ []) vs) ha.1 (subst (λ k. AreOfKinds n (k ∷ kind_of_arg b ∷ []) vs) ha.0 hv))
      (λ x rest hx h. first_int (λ ys. P (x ∷ ys)) [] rest h (λ y more g. no_more (λ zs. P (x ∷ v.Int y ∷ zs)) more g (f x y hx)))
  ref_int t c d P [] vs ha hv f = absurd ha
  ref_int t c d P (a ∷ []) vs ha hv f = absurd ha
  ref_int t c d P (a ∷ b ∷ e ∷ args) vs ha hv f = absurd ha

  -- what is stored is of some kind
  last_stored : (P : List Value → Type 0) (k : Option Kind) (b : Arg) (vs : List Value) → IsStored k b → AreOfKinds n (kind_of_arg b ∷ []) vs → ((x : Value) → P (x ∷ [])) → P vs
  last_stored P (Some k) b vs hb hv f = first_any k P [] vs (subst (λ l. AreOfKinds n (l ∷ []) vs) hb hv) (λ x rest h. no_more (λ ys. P (x ∷ ys)) rest h (f x))
  last_stored P None b vs hb hv f = of_some (kind_of_arg b) hb hv
    where
      of_some : (k : Option Kind) → IsSome k → AreOfKinds n (k ∷ []) vs → P vs
      of_some None some hv = absurd (cc)
      of_some (Some k) some hv = first_any k P [] vs hv (λ x rest h. no_more (λ ys. P (x ∷ ys)) rest h (f x))

  ref_stored : (t : Table) (c : Cites) (d : Descr) (P : List Value → Type 0) (args : List Arg) (vs : List Value) → AreTaken t c d (takes.Two want.Ref want.Stored) args → AreOfKinds n (map kind_of_arg args) vs → ((x y : Value) → IsValueOf n kind.Ref x → P (x ∷ y ∷ [])) → P vs
  ref_stored t c d P (a ∷ b ∷ []) vs ha hv f =
      first_ref P (kind_of_arg b ∷ []) vs (subst (λ k. AreOfKinds n (k ∷ kind_of_arg b ∷ []) vs) ha.0 hv)
      (λ x rest hx h. last_stored (λ ys. P (x ∷ ys)) (stored_kind t c d) b rest ha.1 h (λ y. f x y hx))
  ref_stored t c d P [] vs ha hv f = absurd ha
  ref_stored t c d P (a ∷ []) vs ha hv f = absurd ha
  ref_stored t c d P (a ∷ b ∷ e ∷ args) vs ha hv f = absurd ha

  ref_int_stored : (t : Table) (c : Cites) (d : Descr) (P : List Value → Type 0) (args : List Arg) (vs : List Value) → AreTaken t c d (takes.Three want.Ref want.Int want.Stored) args → AreOfKinds n (map kind_of_arg args) vs → ((x : Value) (i : ℤ) (y : Value) → IsValueOf n kind.Ref x → P (x ∷ v.Int i ∷ y ∷ [])) → P vs
  ref_int_stored t c d P (a ∷ b ∷ e ∷ []) vs ha hv f =
      first_ref P (Some kind.Int ∷ kind_of_arg e ∷ []) vs (subst (λ k. AreOfKinds n (Some kind.Ref ∷ k ∷ kind_of_arg e ∷ []) vs) ha.1 (subst (λ k. AreOfKinds n (k ∷ kind_of_arg b ∷ kind_of_arg e ∷ []) vs) ha.0 hv))
      (λ x rest hx h. first_int (λ ys. P (x ∷ ys)) (kind_of_arg e ∷ []) rest h (λ i more g. last_stored (λ zs. P (x ∷ v.Int i ∷ zs)) (stored_kind t c d) e more ha.2 g (λ y. f x i y hx)))
  ref_int_stored t c d P [] vs ha hv f = absurd ha
  ref_int_stored t c d P (a ∷ []) vs ha hv f = absurd ha
  ref_int_stored t c d P (a ∷ b ∷ []) vs ha hv f = absurd ha
  ref_int_stored t c d P (a ∷ b ∷ e ∷ g ∷ args) vs ha hv f = absurd ha

-- Parts

module _ (t : Table) (w : World) (range : IsTableInRange t) (whole : All (HasItsParts t) w.objects) where
  abbrev n : ℕ
  n = length w.objects

  pub object_at : (k : ℕ) → k < length w.objects → (o : Object) × (slice_get w.objects k ≡ Some o)
  object_at k h = get_some w.objects k h

  not_past : (o : Object) (i : ℕ) → i < length o.parts → slice_get o.parts i ≡ None → ⊥
  not_past o i less e = let x = get_some o.parts i less in let no : None ≡ Some x.0 = sym e ∙ x.1 in cc

  past : (X : Type 0) (xs : List X) (i : ℕ) → slice_get xs i ≡ None → length xs ≤ i
  past X [] i e = omega arith
  past X (x ∷ xs) zero e = absurd (cc)
  past X (x ∷ xs) (suc i) e = let less : length xs ≤ i = past X xs i e in omega arith

  -- the place of a field lies among the parts
  field_within : (o : Object) (f i : ℕ) → HasItsParts t o → place_of t o.of (spot.Field f) ≡ Some i → i < length o.parts
  field_within o f i h e = by o.of h e
    where
      by : (of : ShapeOf) → HasRoomFor t of (length o.parts) → place_of t of (spot.Field f) ≡ Some i → i < length o.parts
      by (shape.Size s) room e =
          let at = position-Some (λ g. g == f) (fields_of t s) i f e in
          let less : i < length (fields_of t s) = at.0 in
          let same : length o.parts ≡ length (fields_of t s) = room in
          omega arith
      by (shape.Array a) room e = absurd (cc)

  not_of_size : (f : ℕ) (row : FieldRow) (of : ShapeOf) → slice_get t.fields f ≡ Some row → place_of t of (spot.Field f) ≡ None → of ≡ shape.Size row.size → ⊥
  not_of_size f row of er e same = field-listed t range f row er (subst (λ (s : ShapeOf). place_of t s (spot.Field f) ≡ None) same e)

  field_missing : (f : ℕ) (row : FieldRow) (k : ℕ) (o : Object) (place : Option ℕ) → slice_get t.fields f ≡ Some row → slice_get w.objects k ≡ Some o → place_of t o.of (spot.Field f) ≡ place → option_and_then (slice_get o.parts) place ≡ None → HasNoField t w f (v.Obj k)
  field_missing f row k o None er eo ep e = inr (o, eo, row, er, (λ same. not_of_size f row o.of er ep same))
  field_missing f row k o (Some i) er eo ep e = absurd (not_past o i (field_within o f i (all_at (HasItsParts t) w.objects k o whole eo) ep) e)

  same_object : (X : Type 0) (f : Object → Option X) (k : ℕ) (o : Object) → slice_get w.objects k ≡ Some o → option_and_then f (slice_get w.objects k) ≡ None → f o ≡ None
  same_object X f k o eo e = sym (ap (option_and_then f) eo) ∙ e

  read_field_missing : (f : ℕ) (row : FieldRow) (base : Value) → slice_get t.fields f ≡ Some row → IsValueOf (length w.objects) kind.Ref base → read t (spot.Field f) base w ≡ None → HasNoField t w f base
  read_field_missing f row (v.Int z) er hb e = absurd hb
  read_field_missing f row v.Null er hb e = inl tt
  read_field_missing f row (v.Obj k) er hb e =
      let x = object_at k hb in
      field_missing f row k x.0 (place_of t (x.0).of (spot.Field f)) er x.1 refl (same_object Value (part_of_object t (spot.Field f)) k x.0 x.1 e)

  -- items

  array_missing : (a : ℕ) (i : ℤ) (k : ℕ) (o : Object) (b : ℕ) (same : Bool) → slice_get w.objects k ≡ Some o → o.of ≡ shape.Array b → (b == a) ≡ same → option_and_then (slice_get o.parts) (cond same (index_of i) None) ≡ None → HasNoItems w a i (v.Obj k)
  array_missing a (pos j) k o b true eo is eq e = inr (inr (o, eo, past Value o.parts j e))
  array_missing a (negsuc j) k o b true eo is eq e = inr (inr (o, eo, tt))
  array_missing a i k o b false eo is eq e = inr (inl (o, eo, (λ other. differ (sym is ∙ other))))
    where
      differ : shape.Array b ≡ shape.Array a → ⊥
      differ h = let same : b ≡ a = array_same h in let no : (b == a) ≡ true = subst (λ c. (b == c) ≡ true) same (self b) in let wrong : false ≡ true = sym eq ∙ no in cc
        where
          array_same : {x y : ℕ} → shape.Array x ≡ shape.Array y → x ≡ y
          array_same h = cc

          self : (b : ℕ) → (b == b) ≡ true
          self b = eq-eqb b b refl

  item_missing : (a : ℕ) (i : ℤ) (k : ℕ) (o : Object) (of : ShapeOf) → slice_get w.objects k ≡ Some o → o.of ≡ of → option_and_then (slice_get o.parts) (item_place of a i) ≡ None → HasNoItems w a i (v.Obj k)
  item_missing a i k o (shape.Array b) eo is e = array_missing a i k o b (b == a) eo is refl e
  item_missing a i k o (shape.Size s) eo is e = inr (inl (o, eo, (λ other. differ (sym is ∙ other))))
    where
      differ : shape.Size s ≡ shape.Array a → ⊥
      differ h = cc

  read_item_missing : (a : ℕ) (i : ℤ) (base : Value) → IsValueOf (length w.objects) kind.Ref base → read t (spot.Item a i) base w ≡ None → HasNoItems w a i base
  read_item_missing a i (v.Int z) hb e = absurd hb
  read_item_missing a i v.Null hb e = inl tt
  read_item_missing a i (v.Obj k) hb e =
      let x = object_at k hb in
      item_missing a i k x.0 (x.0).of x.1 refl (same_object Value (part_of_object t (spot.Item a i)) k x.0 x.1 e)

  -- writes

  placed_none : (o : Object) (i : ℕ) (b : Bool) → nat_lt i (length o.parts) ≡ b → cond b (Some i) None ≡ None → slice_get o.parts i ≡ None
  placed_none o i true eb e = absurd (cc)
  placed_none o i false eb e = slice_get_past o.parts i (ltb-false i (length o.parts) eb)

  -- what can't be written can't be read
  unread : (o : Object) (at : Spot) (place : Option ℕ) → place_of t o.of at ≡ place → option_and_then (within o) place ≡ None → option_and_then (slice_get o.parts) place ≡ None
  unread o at None ep e = refl
  unread o at (Some i) ep e = placed_none o i (nat_lt i (length o.parts)) refl e

  mapped_none : {X Y : Type 0} (f : X → Y) (x : Option X) → option_map f x ≡ None → x ≡ None
  mapped_none f None e = refl
  mapped_none f (Some x) e = absurd (cc)

  unwritten : (at : Spot) (k : ℕ) (o : Object) (x : Value) → slice_get w.objects k ≡ Some o → option_map (with_object k w) (option_and_then (written t at x) (slice_get w.objects k)) ≡ None → option_and_then (part_of_object t at) (slice_get w.objects k) ≡ None
  unwritten at k o x eo e =
      let none : place_within t at o ≡ None = mapped_none (λ i. with_part o i x) (place_within t at o) (same_object Object (written t at x) k o eo (mapped_none (with_object k w) (option_and_then (written t at x) (slice_get w.objects k)) e)) in
      ap (option_and_then (part_of_object t at)) eo ∙ unread o at (place_of t o.of at) refl none

  frozen_field : (f k : ℕ) (row : FieldRow) → slice_get t.fields f ≡ Some row → is_frozen t (spot.Field f) k ≡ true → IsImmutable t f (v.Obj k)
  frozen_field f k row er h =
      let parts = and_parts (nat_lt k (length t.prebuilts)) (immutable (slice_get t.fields f)) h in
      (ltb-true k (length t.prebuilts) parts.0, row, er, sym (ap immutable er) ∙ parts.1)

  set_field_missing : (f : ℕ) (row : FieldRow) (k : ℕ) (x : Value) (frozen : Bool) → slice_get t.fields f ≡ Some row → k < length w.objects → is_frozen t (spot.Field f) k ≡ frozen → write_unfrozen frozen t (spot.Field f) k x w ≡ None → HasNoField t w f (v.Obj k) ⊎ IsImmutable t f (v.Obj k)
  set_field_missing f row k x true er less ef e = inr (frozen_field f k row er ef)
  set_field_missing f row k x false er less ef e =
      let o = object_at k less in
      inl (read_field_missing f row (v.Obj k) er less (unwritten (spot.Field f) k o.0 x o.1 e))

  write_field_missing : (f : ℕ) (row : FieldRow) (base x : Value) → slice_get t.fields f ≡ Some row → IsValueOf (length w.objects) kind.Ref base → write t (spot.Field f) base x w ≡ None → HasNoField t w f base ⊎ IsImmutable t f base
  write_field_missing f row (v.Int z) x er hb e = absurd hb
  write_field_missing f row v.Null x er hb e = inl (inl tt)
  write_field_missing f row (v.Obj k) x er hb e = set_field_missing f row k x (is_frozen t (spot.Field f) k) er hb refl e

  write_item_missing : (a : ℕ) (i : ℤ) (base x : Value) → IsValueOf (length w.objects) kind.Ref base → write t (spot.Item a i) base x w ≡ None → HasNoItems w a i base
  write_item_missing a i (v.Int z) x hb e = absurd hb
  write_item_missing a i v.Null x hb e = inl tt
  write_item_missing a i (v.Obj k) x hb e = let o = object_at k hb in read_item_missing a i (v.Obj k) hb (unwritten (spot.Item a i) k o.0 x o.1 e)

  -- lengths

  not_array : (a k : ℕ) (o : Object) (of : ShapeOf) → slice_get w.objects k ≡ Some o → o.of ≡ of → is_array a of ≡ false → IsNotOfArray w a (v.Obj k)
  not_array a k o (shape.Size s) eo is e = (o, eo, (λ other. differ (sym is ∙ other)))
    where
      differ : shape.Size s ≡ shape.Array a → ⊥
      differ h = cc
  not_array a k o (shape.Array b) eo is e = (o, eo, (λ other. differ (sym is ∙ other)))
    where
      differ : shape.Array b ≡ shape.Array a → ⊥
      differ h = let same : b ≡ a = cc in let no : (b == a) ≡ true = eq-eqb b a same in let wrong : false ≡ true = sym e ∙ no in cc

  counted_none : (a : ℕ) (o : Object) (b : Bool) → is_array a o.of ≡ b → cond b (Some (length o.parts)) None ≡ None → is_array a o.of ≡ false
  counted_none a o true eb e = absurd (cc)
  counted_none a o false eb e = eb

  length_missing : (a : ℕ) (base : Value) → IsValueOf (length w.objects) kind.Ref base → length_at a base w ≡ None → IsNull base ⊎ IsNotOfArray w a base
  length_missing a (v.Int z) hb e = absurd hb
  length_missing a v.Null hb e = inl tt
  length_missing a (v.Obj k) hb e =
      let o = object_at k hb in
      inr (not_array a k o.0 (o.0).of o.1 refl (counted_none a o.0 (is_array a (o.0).of) refl (same_object ℕ (items_in a) k o.0 o.1 e)))

  -- What is done

  value_right : (k : Kind) (cause : Type 0) (x : Option Value) → (x ≡ None → cause) → GoesRight (Some k) cause (value_done w x)
  value_right k cause None h = h refl
  value_right k cause (Some x) h = tt

  write_right : (cause : Type 0) (u : Option World) → (u ≡ None → cause) → GoesRight None cause (write_done u)
  write_right cause None h = h refl
  write_right cause (Some u) h = tt

  length_right : (cause : Type 0) (x : Option ℕ) → (x ≡ None → cause) → GoesRight (Some kind.Int) cause (value_done w (option_map (λ m. v.Int (pos m)) x))
  length_right cause None h = h refl
  length_right cause (Some m) h = tt

  items_right : (a : ℕ) (z : ℤ) → GoesRight (Some kind.Ref) (IsBelowZero z) (make_items t a (index_of z) w)
  items_right a (pos m) = tt
  items_right a (negsuc m) = tt

  row_of : (k : Option Kind) (f : ℕ) (row : Option FieldRow) → slice_get t.fields f ≡ row → IsSome (option_map (λ (r : FieldRow). r.kind) row) → (r : FieldRow) × (slice_get t.fields f ≡ Some r)
  row_of k f None e h = absurd (cc)
  row_of k f (Some r) e h = (r, e)

  asked_row : (k : Kind) (f : ℕ) → kind_of_field t f ≡ Some k → (r : FieldRow) × (slice_get t.fields f ≡ Some r)
  asked_row k f h = row_of (Some k) f (slice_get t.fields f) refl (ap is_some h)

  -- Calls

  given_right : (refs : List Value) (next : ℕ) (k : Kind) (g : Give) → kind_given g ≡ Some k → is_named t (length refs) g ≡ true → GivesIf (Some k) (value_given refs next g)
  given_right refs next k give.Nothing ek named = absurd (cc)
  given_right refs next k (give.Int z) ek named = tt
  given_right refs next k give.Null ek named = tt
  given_right refs next k (give.Arg i) ek named =
      let x = get_some refs i (ltb-true i (length refs) named) in
      subst (λ (y : Option Value). GivesIf (Some k) y) (sym x.1) tt
  given_right refs next k (give.Prebuilt i) ek named = tt
  given_right refs next k (give.New i) ek named = tt

  given_wanted : (refs : List Value) (next : ℕ) (k : Option Kind) (g : Give) → kind_given g ≡ k → is_named t (length refs) g ≡ true → GivesIf k (value_given refs next g)
  given_wanted refs next None g ek named = tt
  given_wanted refs next (Some k) g ek named = given_right refs next k g ek named

  three : (a b c : Bool) → (a && b && c) ≡ true → (a ≡ true) × (b ≡ true)
  three true b c h = (refl, (and_parts b c h).0)
  three false b c h = absurd (cc)

  answered_right : (fit : Bool) (row : CallRow) (function : ℕ) (vs : List Value) (a : Answer) (rest : List Answer) → fits t row (references vs) w.objects a ≡ fit → GoesRight row.result ⊥ (answered_if fit t row function vs a rest w)
  answered_right false row function vs a rest e = tt
  answered_right true row function vs a rest e =
      let parts = three (same_result (kind_given a.gives) row.result) (is_named t (length (references vs)) a.gives) (list_all (store_fits t row (references vs) w.objects) a.stores) e in
      given_wanted (references vs) (length w.objects) row.result a.gives (same_result_same (kind_given a.gives) row.result parts.0) parts.1

  called_right : (row : CallRow) (function : ℕ) (vs : List Value) (answers : List Answer) → GoesRight row.result ⊥ (called_first t row function vs (slice_get answers 0) (drop 1 answers) w)
  called_right row function vs [] = tt
  called_right row function vs (a ∷ rest) = answered_right (fits t row (references vs) w.objects a) row function vs a rest refl

  row_right : (k : Option Kind) (row : Option CallRow) (function : ℕ) (vs : List Value) → IsSomeAnd row (λ (r : CallRow). r.result ≡ k) → GoesRight k ⊥ (call_row t row function vs w)
  row_right k None function vs h = absurd h
  row_right k (Some row) function vs h = subst (λ l. GoesRight l ⊥ (call_row t (Some row) function vs w)) h (called_right row function vs w.answers)

  call_right : (k : Option Kind) (d : Descr) (args : List Arg) (vs : List Value) → AreTaken t (cites.Call k) d takes.Called args → FitsDescr t (cites.Call k) d → GoesRight k ⊥ (call t d args vs w)
  call_right k (descr.Call c) (arg.Func f ∷ args) vs ha hd = row_right k (slice_get t.calls c) f vs hd
  call_right k (descr.Call c) [] vs ha hd = absurd ha
  call_right k (descr.Call c) (arg.Of b ∷ args) vs ha hd = absurd ha
  call_right k (descr.Call c) (arg.Const z ∷ args) vs ha hd = absurd ha
  call_right k (descr.Call c) (arg.Null ∷ args) vs ha hd = absurd ha
  call_right k (descr.Call c) (arg.Class s ∷ args) vs ha hd = absurd ha
  call_right k (descr.Call c) (arg.Ptr s ∷ args) vs ha hd = absurd ha
  call_right k descr.No args vs ha hd = absurd hd
  call_right k (descr.Size s) args vs ha hd = absurd hd
  call_right k (descr.Field f) args vs ha hd = absurd hd
  call_right k (descr.Array a) args vs ha hd = absurd hd
  call_right k (descr.Target name) args vs ha hd = absurd hd

  -- Each operation

  abbrev Right : OpCode → Descr → List Arg → List Value → Type 0
  Right operation d args vs = GoesRight (gives_of operation) (IsUndefined t operation d vs w) (perform t operation d args vs w)

  getfield_right : (k : Kind) (f : ℕ) (x : Value) → kind_of_field t f ≡ Some k → IsValueOf (length w.objects) kind.Ref x → GoesRight (Some k) (HasNoField t w f x) (value_done w (read t (spot.Field f) x w))
  getfield_right k f x hd hx = let row = asked_row k f hd in value_right k (HasNoField t w f x) (read t (spot.Field f) x w) (λ e. read_field_missing f row.0 x row.1 hx e)

  pub perform-right : (operation : OpCode) (d : Descr) (args : List Arg) (vs : List Value) → IsPlainPart (part_of operation) → AreTaken t (cites_of operation) d (takes_of operation) args → FitsDescr t (cites_of operation) d → AreOfKinds (length w.objects) (map kind_of_arg args) vs → Right operation d args vs
  perform-right code.IntAdd d args vs p ha hd hv = two_ints n t (cites_of code.IntAdd) d (Right code.IntAdd d args) args vs ha hv (λ a b. tt)
  perform-right code.IntSub d args vs p ha hd hv = two_ints n t (cites_of code.IntSub) d (Right code.IntSub d args) args vs ha hv (λ a b. tt)
  perform-right code.IntMul d args vs p ha hd hv = two_ints n t (cites_of code.IntMul) d (Right code.IntMul d args) args vs ha hv (λ a b. tt)
  perform-right code.IntAnd d args vs p ha hd hv = two_ints n t (cites_of code.IntAnd) d (Right code.IntAnd d args) args vs ha hv (λ a b. tt)
  perform-right code.IntOr d args vs p ha hd hv = two_ints n t (cites_of code.IntOr) d (Right code.IntOr d args) args vs ha hv (λ a b. tt)
  perform-right code.IntXor d args vs p ha hd hv = two_ints n t (cites_of code.IntXor) d (Right code.IntXor d args) args vs ha hv (λ a b. tt)
  perform-right code.IntLshift d args vs p ha hd hv = two_ints n t (cites_of code.IntLshift) d (Right code.IntLshift d args) args vs ha hv (λ a b. tt)
  perform-right code.IntRshift d args vs p ha hd hv = two_ints n t (cites_of code.IntRshift) d (Right code.IntRshift d args) args vs ha hv (λ a b. tt)
  perform-right code.UintRshift d args vs p ha hd hv = two_ints n t (cites_of code.UintRshift) d (Right code.UintRshift d args) args vs ha hv (λ a b. tt)
  perform-right code.IntLt d args vs p ha hd hv = two_ints n t (cites_of code.IntLt) d (Right code.IntLt d args) args vs ha hv (λ a b. tt)
  perform-right code.IntLe d args vs p ha hd hv = two_ints n t (cites_of code.IntLe) d (Right code.IntLe d args) args vs ha hv (λ a b. tt)
  perform-right code.IntEq d args vs p ha hd hv = two_ints n t (cites_of code.IntEq) d (Right code.IntEq d args) args vs ha hv (λ a b. tt)
  perform-right code.IntNe d args vs p ha hd hv = two_ints n t (cites_of code.IntNe) d (Right code.IntNe d args) args vs ha hv (λ a b. tt)
  perform-right code.IntGt d args vs p ha hd hv = two_ints n t (cites_of code.IntGt) d (Right code.IntGt d args) args vs ha hv (λ a b. tt)
  perform-right code.IntGe d args vs p ha hd hv = two_ints n t (cites_of code.IntGe) d (Right code.IntGe d args) args vs ha hv (λ a b. tt)
  perform-right code.UintLt d args vs p ha hd hv = two_ints n t (cites_of code.UintLt) d (Right code.UintLt d args) args vs ha hv (λ a b. tt)
  perform-right code.UintLe d args vs p ha hd hv = two_ints n t (cites_of code.UintLe) d (Right code.UintLe d args) args vs ha hv (λ a b. tt)
  perform-right code.UintGt d args vs p ha hd hv = two_ints n t (cites_of code.UintGt) d (Right code.UintGt d args) args vs ha hv (λ a b. tt)
  perform-right code.UintGe d args vs p ha hd hv = two_ints n t (cites_of code.UintGe) d (Right code.UintGe d args) args vs ha hv (λ a b. tt)
  perform-right code.IntAddOvf d args vs p ha hd hv = two_ints n t (cites_of code.IntAddOvf) d (Right code.IntAddOvf d args) args vs ha hv (λ a b. tt)
  perform-right code.IntSubOvf d args vs p ha hd hv = two_ints n t (cites_of code.IntSubOvf) d (Right code.IntSubOvf d args) args vs ha hv (λ a b. tt)
  perform-right code.IntMulOvf d args vs p ha hd hv = two_ints n t (cites_of code.IntMulOvf) d (Right code.IntMulOvf d args) args vs ha hv (λ a b. tt)
  perform-right code.IntIsZero d args vs p ha hd hv = one_int n t (cites_of code.IntIsZero) d (Right code.IntIsZero d args) args vs ha hv (λ a. tt)
  perform-right code.IntIsTrue d args vs p ha hd hv = one_int n t (cites_of code.IntIsTrue) d (Right code.IntIsTrue d args) args vs ha hv (λ a. tt)
  perform-right code.IntNeg d args vs p ha hd hv = one_int n t (cites_of code.IntNeg) d (Right code.IntNeg d args) args vs ha hv (λ a. tt)
  perform-right code.IntInvert d args vs p ha hd hv = one_int n t (cites_of code.IntInvert) d (Right code.IntInvert d args) args vs ha hv (λ a. tt)
  perform-right code.IntForceGeZero d args vs p ha hd hv = one_int n t (cites_of code.IntForceGeZero) d (Right code.IntForceGeZero d args) args vs ha hv (λ a. tt)
  perform-right code.SameAsI d args vs p ha hd hv = one_int n t (cites_of code.SameAsI) d (Right code.SameAsI d args) args vs ha hv (λ a. tt)
  perform-right code.SameAsR d args vs p ha hd hv = one_ref n t (cites_of code.SameAsR) d (Right code.SameAsR d args) args vs ha hv same_right
    where
      same_right : (x : Value) → IsValueOf n kind.Ref x → Right code.SameAsR d args (x ∷ [])
      same_right (v.Int z) hx = absurd hx
      same_right v.Null hx = tt
      same_right (v.Obj k) hx = tt
  perform-right code.PtrEq d args vs p ha hd hv = two_refs n t (cites_of code.PtrEq) d (Right code.PtrEq d args) args vs ha hv compare_right
    where
      compare_right : (x y : Value) → IsValueOf n kind.Ref x → IsValueOf n kind.Ref y → Right code.PtrEq d args (x ∷ y ∷ [])
      compare_right (v.Int z) y hx hy = absurd hx
      compare_right v.Null (v.Int z) hx hy = absurd hy
      compare_right (v.Obj k) (v.Int z) hx hy = absurd hy
      compare_right v.Null v.Null hx hy = tt
      compare_right v.Null (v.Obj j) hx hy = tt
      compare_right (v.Obj k) v.Null hx hy = tt
      compare_right (v.Obj k) (v.Obj j) hx hy = tt
  perform-right code.PtrNe d args vs p ha hd hv = two_refs n t (cites_of code.PtrNe) d (Right code.PtrNe d args) args vs ha hv compare_right
    where
      compare_right : (x y : Value) → IsValueOf n kind.Ref x → IsValueOf n kind.Ref y → Right code.PtrNe d args (x ∷ y ∷ [])
      compare_right (v.Int z) y hx hy = absurd hx
      compare_right v.Null (v.Int z) hx hy = absurd hy
      compare_right (v.Obj k) (v.Int z) hx hy = absurd hy
      compare_right v.Null v.Null hx hy = tt
      compare_right v.Null (v.Obj j) hx hy = tt
      compare_right (v.Obj k) v.Null hx hy = tt
      compare_right (v.Obj k) (v.Obj j) hx hy = tt
  perform-right code.GetfieldGcI (descr.Field f) args vs p ha hd hv = one_ref n t (cites_of code.GetfieldGcI) (descr.Field f) (Right code.GetfieldGcI (descr.Field f) args) args vs ha hv (λ x hx. getfield_right kind.Int f x hd hx)
  perform-right code.GetfieldGcI descr.No args vs p ha hd hv = absurd hd
  perform-right code.GetfieldGcI (descr.Size s) args vs p ha hd hv = absurd hd
  perform-right code.GetfieldGcI (descr.Array s) args vs p ha hd hv = absurd hd
  perform-right code.GetfieldGcI (descr.Call s) args vs p ha hd hv = absurd hd
  perform-right code.GetfieldGcI (descr.Target s) args vs p ha hd hv = absurd hd
  perform-right code.GetfieldGcR (descr.Field f) args vs p ha hd hv = one_ref n t (cites_of code.GetfieldGcR) (descr.Field f) (Right code.GetfieldGcR (descr.Field f) args) args vs ha hv (λ x hx. getfield_right kind.Ref f x hd hx)
  perform-right code.GetfieldGcR descr.No args vs p ha hd hv = absurd hd
  perform-right code.GetfieldGcR (descr.Size s) args vs p ha hd hv = absurd hd
  perform-right code.GetfieldGcR (descr.Array s) args vs p ha hd hv = absurd hd
  perform-right code.GetfieldGcR (descr.Call s) args vs p ha hd hv = absurd hd
  perform-right code.GetfieldGcR (descr.Target s) args vs p ha hd hv = absurd hd
  perform-right code.SetfieldGc (descr.Field f) args vs p ha hd hv = ref_stored n t (cites_of code.SetfieldGc) (descr.Field f) (Right code.SetfieldGc (descr.Field f) args) args vs ha hv (λ x y hx. let row = row_of None f (slice_get t.fields f) refl hd in write_right (HasNoField t w f x ⊎ IsImmutable t f x) (write t (spot.Field f) x y w) (λ e. write_field_missing f row.0 x y row.1 hx e))
  perform-right code.SetfieldGc descr.No args vs p ha hd hv = absurd hd
  perform-right code.SetfieldGc (descr.Size s) args vs p ha hd hv = absurd hd
  perform-right code.SetfieldGc (descr.Array s) args vs p ha hd hv = absurd hd
  perform-right code.SetfieldGc (descr.Call s) args vs p ha hd hv = absurd hd
  perform-right code.SetfieldGc (descr.Target s) args vs p ha hd hv = absurd hd
  perform-right code.GetarrayitemGcI (descr.Array a) args vs p ha hd hv = ref_int n t (cites_of code.GetarrayitemGcI) (descr.Array a) (Right code.GetarrayitemGcI (descr.Array a) args) args vs ha hv (λ x i hx. value_right kind.Int (HasNoItems w a i x) (read t (spot.Item a i) x w) (λ e. read_item_missing a i x hx e))
  perform-right code.GetarrayitemGcI descr.No args vs p ha hd hv = absurd hd
  perform-right code.GetarrayitemGcI (descr.Size s) args vs p ha hd hv = absurd hd
  perform-right code.GetarrayitemGcI (descr.Field s) args vs p ha hd hv = absurd hd
  perform-right code.GetarrayitemGcI (descr.Call s) args vs p ha hd hv = absurd hd
  perform-right code.GetarrayitemGcI (descr.Target s) args vs p ha hd hv = absurd hd
  perform-right code.GetarrayitemGcR (descr.Array a) args vs p ha hd hv = ref_int n t (cites_of code.GetarrayitemGcR) (descr.Array a) (Right code.GetarrayitemGcR (descr.Array a) args) args vs ha hv (λ x i hx. value_right kind.Ref (HasNoItems w a i x) (read t (spot.Item a i) x w) (λ e. read_item_missing a i x hx e))
  perform-right code.GetarrayitemGcR descr.No args vs p ha hd hv = absurd hd
  perform-right code.GetarrayitemGcR (descr.Size s) args vs p ha hd hv = absurd hd
  perform-right code.GetarrayitemGcR (descr.Field s) args vs p ha hd hv = absurd hd
  perform-right code.GetarrayitemGcR (descr.Call s) args vs p ha hd hv = absurd hd
  perform-right code.GetarrayitemGcR (descr.Target s) args vs p ha hd hv = absurd hd
  perform-right code.SetarrayitemGc (descr.Array a) args vs p ha hd hv = ref_int_stored n t (cites_of code.SetarrayitemGc) (descr.Array a) (Right code.SetarrayitemGc (descr.Array a) args) args vs ha hv (λ x i y hx. write_right (HasNoItems w a i x) (write t (spot.Item a i) x y w) (λ e. write_item_missing a i x y hx e))
  perform-right code.SetarrayitemGc descr.No args vs p ha hd hv = absurd hd
  perform-right code.SetarrayitemGc (descr.Size s) args vs p ha hd hv = absurd hd
  perform-right code.SetarrayitemGc (descr.Field s) args vs p ha hd hv = absurd hd
  perform-right code.SetarrayitemGc (descr.Call s) args vs p ha hd hv = absurd hd
  perform-right code.SetarrayitemGc (descr.Target s) args vs p ha hd hv = absurd hd
  perform-right code.ArraylenGc (descr.Array a) args vs p ha hd hv = one_ref n t (cites_of code.ArraylenGc) (descr.Array a) (Right code.ArraylenGc (descr.Array a) args) args vs ha hv (λ x hx. length_right (IsNull x ⊎ IsNotOfArray w a x) (length_at a x w) (λ e. length_missing a x hx e))
  perform-right code.ArraylenGc descr.No args vs p ha hd hv = absurd hd
  perform-right code.ArraylenGc (descr.Size s) args vs p ha hd hv = absurd hd
  perform-right code.ArraylenGc (descr.Field s) args vs p ha hd hv = absurd hd
  perform-right code.ArraylenGc (descr.Call s) args vs p ha hd hv = absurd hd
  perform-right code.ArraylenGc (descr.Target s) args vs p ha hd hv = absurd hd
  perform-right code.New (descr.Size s) args vs p ha hd hv = tt
  perform-right code.New descr.No args vs p ha hd hv = absurd hd
  perform-right code.New (descr.Field s) args vs p ha hd hv = absurd hd
  perform-right code.New (descr.Array s) args vs p ha hd hv = absurd hd
  perform-right code.New (descr.Call s) args vs p ha hd hv = absurd hd
  perform-right code.New (descr.Target s) args vs p ha hd hv = absurd hd
  perform-right code.NewWithVtable (descr.Size s) args vs p ha hd hv = tt
  perform-right code.NewWithVtable descr.No args vs p ha hd hv = absurd hd
  perform-right code.NewWithVtable (descr.Field s) args vs p ha hd hv = absurd hd
  perform-right code.NewWithVtable (descr.Array s) args vs p ha hd hv = absurd hd
  perform-right code.NewWithVtable (descr.Call s) args vs p ha hd hv = absurd hd
  perform-right code.NewWithVtable (descr.Target s) args vs p ha hd hv = absurd hd
  perform-right code.NewArrayClear (descr.Array a) args vs p ha hd hv = one_int n t (cites_of code.NewArrayClear) (descr.Array a) (Right code.NewArrayClear (descr.Array a) args) args vs ha hv (λ z. items_right a z)
  perform-right code.NewArrayClear descr.No args vs p ha hd hv = absurd hd
  perform-right code.NewArrayClear (descr.Size s) args vs p ha hd hv = absurd hd
  perform-right code.NewArrayClear (descr.Field s) args vs p ha hd hv = absurd hd
  perform-right code.NewArrayClear (descr.Call s) args vs p ha hd hv = absurd hd
  perform-right code.NewArrayClear (descr.Target s) args vs p ha hd hv = absurd hd
  perform-right code.CallI d args vs p ha hd hv = call_right (Some kind.Int) d args vs ha hd
  perform-right code.CallR d args vs p ha hd hv = call_right (Some kind.Ref) d args vs ha hd
  perform-right code.CallN d args vs p ha hd hv = call_right None d args vs ha hd
  perform-right code.GuardTrue d args vs p ha hd hv = absurd p
  perform-right code.GuardFalse d args vs p ha hd hv = absurd p
  perform-right code.GuardValue d args vs p ha hd hv = absurd p
  perform-right code.GuardNonnull d args vs p ha hd hv = absurd p
  perform-right code.GuardIsnull d args vs p ha hd hv = absurd p
  perform-right code.GuardClass d args vs p ha hd hv = absurd p
  perform-right code.GuardNonnullClass d args vs p ha hd hv = absurd p
  perform-right code.GuardNoOverflow d args vs p ha hd hv = absurd p
  perform-right code.GuardOverflow d args vs p ha hd hv = absurd p
  perform-right code.GuardNoException d args vs p ha hd hv = absurd p
  perform-right code.Jump d args vs p ha hd hv = absurd p
  perform-right code.Finish d args vs p ha hd hv = absurd p

pub plain_part : (p : Part) → plain p ≡ true → IsPlainPart p
plain_part part.Plain h = tt
plain_part part.Overflowing h = tt
plain_part part.Guard h = absurd (cc)
plain_part part.OverflowGuard h = absurd (cc)
plain_part part.Jump h = absurd (cc)
plain_part part.Finish h = absurd (cc)
