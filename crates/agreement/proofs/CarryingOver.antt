-- What recorded boxes tell, told of those of a piece.
use Rattle.std.proofs.Common.{◌≡◌, ℕ, true, cond, Option, Some, None, List, [], ◌∷◌, length, slice_get, refl, sym, ap, ◌∙◌, subst}
use Rattle.std.specs.List.{AllZip}
use Rattle.lists.proofs.Options.{some_same, none_some}
use Rattle.trace_ops.specs.declared.trace.BoxId.{BoxId}
use Rattle.trace_ops.specs.declared.trace.Arg.{Arg}
use Rattle.trace_ops.specs.declared.trace.Arg.TheVariants as arg
use Rattle.trace_ops.specs.declared.table.Table.{Table}
use Rattle.trace_ops.specs.declared.table.ShapeOf.TheVariants as shape
use Rattle.trace_ops.specs.declared.piece.Val.{Val}
use Rattle.trace_ops.specs.declared.piece.Val.TheVariants.{Known}
use Rattle.trace_ops.specs.declared.piece.Fact.{Fact}
use Rattle.trace_ops.specs.declared.piece.Fact.TheVariants as fact
use Rattle.trace_meaning.specs.declared.value.Value.{Value}
use Rattle.trace_meaning.specs.declared.value.Value.TheVariants as v
use Rattle.trace_meaning.specs.declared.value.Object.{Object}
use Rattle.trace_meaning.specs.Boxes.{Boxes, value_in, arg_value, has_value, with_first, all_values}
use Rattle.trace_meaning.specs.Folding.{fold}
use Rattle.heap_shape.specs.Sameness.{Maps, MapsIf}
use Rattle.opt_meaning.specs.Agrees.{Facts, Place, MapsAt, ArgIs, NameIs, FactHolds, Agrees}
use Rattle.agreement.specs.Telling.{recorded_place, IsNamed, IsNamedFact, FactsCarryOver}
use Rattle.agreement.proofs.Folding.{Pair, int, null, obj, OneToOne, pair_of, folds_alike}
use Rattle.agreement.proofs.Further.{first_parts}
use Rattle.agreement.proofs.Reading.{twins}

-- the value of the piece for a recorded one
of_int : (m : ℕ → Option ℕ) (u : Value) (z : _) → Maps m u (v.Int z) → u ≡ v.Int z
of_int m (v.Int x) z h = ap v.Int h
of_int m v.Null z h = absurd h
of_int m (v.Obj n) z h = absurd h

of_object : (m : ℕ → Option ℕ) (u : Value) (j : ℕ) → Maps m u (v.Obj j) → (n : ℕ) × (u ≡ v.Obj n) × (m n ≡ Some j)
of_object m (v.Int x) j h = absurd h
of_object m v.Null j h = absurd h
of_object m (v.Obj n) j h = (n, refl, h)

one_value : (m : ℕ → Option ℕ) → OneToOne m → {u x y : Value} → Pair m u y → Maps m x y → x ≡ u
one_value m one (int z) h = of_int m _ z h
one_value m one null h = of_null m _ h
  where
    of_null : (m : ℕ → Option ℕ) (x : Value) → Maps m x v.Null → x ≡ v.Null
    of_null m (v.Int x) h = absurd h
    of_null m v.Null h = refl
    of_null m (v.Obj n) h = absurd h
one_value m one (obj n j e) h = let s = of_object m _ j h in s.1 ∙ ap v.Obj (one s.0 n j s.2 e)

valued : (box : BoxId → Option Value) (a : Arg) (u : Value) → arg_value box a ≡ Some u → has_value a ≡ true
valued box (arg.Of b) u e = refl
valued box (arg.Const z) u e = refl
valued box arg.Null u e = refl
valued box (arg.Class k) u e = absurd (none_some e)
valued box (arg.Func k) u e = absurd (none_some e)
valued box (arg.Ptr k) u e = refl

name_known : (at : Place) (name : Option Val) (value : Option Value) (a : Arg) (y : Value) → NameIs at name value → name ≡ Some (Known a) → value ≡ Some y → ArgIs at a y
name_known at name value a y h e f =
    let N : Option Val → Type 0 = λ n. NameIs at n value in
    let V : Option Value → Type 0 = λ x. NameIs at (Some (Known a)) x in
    subst V f (subst N e h)

fold_if : (m : ℕ → Option ℕ) (u : Option Value) (y : Value) → MapsIf m u (Some y) → (x : Value) × (u ≡ Some x) × Maps m x y
fold_if m (Some x) y h = (x, refl, h)
fold_if m None y h = absurd h

module _ (t : Table) (known : Facts) (boxes : Boxes) (at : Place) (h : Agrees t known boxes at) where
  abbrev m : ℕ → Option ℕ
  m = slice_get at.mapped

  named : (a c : Arg) (y : Value) → IsNamed t known.names a c → arg_value (value_in boxes) a ≡ Some y → ArgIs at c y
  named (arg.Of b) c y is e = name_known at (known.names b) (value_in boxes b) c y (h.names b) is e
  named (arg.Const z) c y is e = subst (λ d. ArgIs at d y) (sym is) (v.Int z, refl, subst (λ x. Maps m (v.Int z) x) (some_same e) refl)
  named arg.Null c y is e = subst (λ d. ArgIs at d y) (sym is) (v.Null, refl, subst (λ x. Maps m v.Null x) (some_same e) tt)
  named (arg.Class k) c y is e = absurd (none_some e)
  named (arg.Func k) c y is e = absurd (none_some e)
  named (arg.Ptr k) c y is e = subst (λ d. ArgIs at d y) (sym is.0) (v.Obj k, refl, subst (λ x. Maps m (v.Obj k) x) (some_same e) (h.injective.prebuilt k is.1))

  -- the values of arguments, in order
  abbrev AreHad : List Arg → List Value → Type 0
  AreHad brgs ys = (us : List Value) × (all_values (arg_value at.box) brgs ≡ Some us) × AllZip (MapsAt at) us ys

  had_first : (a c : Arg) (brgs : List Arg) (rest : Option (List Value)) (ys : List Value) → IsNamed t known.names a c → ((zs : List Value) → rest ≡ Some zs → AreHad brgs zs) → with_first (arg_value (value_in boxes) a) rest ≡ Some ys → AreHad (c ∷ brgs) ys
  had_first a c brgs rest ys is more e =
      let s = first_parts (arg_value (value_in boxes) a) rest ys e in
      let one = named a c s.0 is s.1 in
      let later = more s.2 s.3 in
      let there : has_value c ≡ true = valued at.box c one.0 one.1 in
      let all : all_values (arg_value at.box) (c ∷ brgs) ≡ Some (one.0 ∷ later.0) =
      ap (λ b. cond b (with_first (arg_value at.box c) (all_values (arg_value at.box) brgs)) (all_values (arg_value at.box) brgs)) there
      ∙ ap (λ x. with_first x (all_values (arg_value at.box) brgs)) one.1 ∙ ap (with_first (Some one.0)) later.1 in
      let both : AllZip (MapsAt at) (one.0 ∷ later.0) (s.0 ∷ s.2) = (one.2, later.2) in
      (one.0 ∷ later.0, all, subst (AllZip (MapsAt at) (one.0 ∷ later.0)) s.4 both)

  had : (args brgs : List Arg) (ys : List Value) → AllZip (IsNamed t known.names) args brgs → all_values (arg_value (value_in boxes)) args ≡ Some ys → AreHad brgs ys
  had [] [] ys is e = ([], refl, subst (AllZip (MapsAt at) []) (some_same e) tt)
  had [] (c ∷ brgs) ys is e = absurd is
  had (a ∷ args) [] ys is e = absurd is
  had (arg.Of b ∷ args) (c ∷ brgs) ys is e = had_first (arg.Of b) c brgs (all_values (arg_value (value_in boxes)) args) ys is.0 (λ zs f. had args brgs zs is.1 f) e
  had (arg.Const z ∷ args) (c ∷ brgs) ys is e = had_first (arg.Const z) c brgs (all_values (arg_value (value_in boxes)) args) ys is.0 (λ zs f. had args brgs zs is.1 f) e
  had (arg.Null ∷ args) (c ∷ brgs) ys is e = had_first arg.Null c brgs (all_values (arg_value (value_in boxes)) args) ys is.0 (λ zs f. had args brgs zs is.1 f) e
  had (arg.Ptr k ∷ args) (c ∷ brgs) ys is e = had_first (arg.Ptr k) c brgs (all_values (arg_value (value_in boxes)) args) ys is.0 (λ zs f. had args brgs zs is.1 f) e
  had (arg.Class k ∷ args) (c ∷ brgs) ys is e = subst (λ d. AreHad (d ∷ brgs) ys) (sym is.0) (had args brgs ys is.1 e)
  had (arg.Func k ∷ args) (c ∷ brgs) ys is e = subst (λ d. AreHad (d ∷ brgs) ys) (sym is.0) (had args brgs ys is.1 e)

  object_had : (b c : BoxId) (j : ℕ) → known.names b ≡ Some (Known (arg.Of c)) → value_in boxes b ≡ Some (v.Obj j) → (n : ℕ) × (at.box c ≡ Some (v.Obj n)) × (m n ≡ Some j)
  object_had b c j is e =
      let one = named (arg.Of b) (arg.Of c) (v.Obj j) is e in
      let s = of_object m one.0 j one.2 in
      (s.0, one.1 ∙ ap Some s.1, s.2)

  carried : (x y : Fact) → IsNamedFact t known.names x y → FactHolds t (recorded_place boxes at.rec) x → FactHolds t at y
  carried (fact.Between b low high) (fact.Between c from to) is f =
      let one = named (arg.Of b) (arg.Of c) (v.Int f.0) is.0 f.1 in
      let held : FactHolds t at (fact.Between c low high) = (f.0, one.1 ∙ ap Some (of_int m one.0 f.0 one.2), f.2, f.3) in
      subst (λ z. FactHolds t at (fact.Between c z to)) is.1 (subst (λ z. FactHolds t at (fact.Between c low z)) is.2 held)
  carried (fact.Nonnull b) (fact.Nonnull c) is f = let s = object_had b c f.0 is f.1 in (s.0, s.1)
  carried (fact.ClassOf b size) (fact.ClassOf c other) is f =
      let s = object_had b c f.0 is.0 f.1 in
      let w = twins t known boxes at h s.0 f.0 s.2 in
      let object : w.other ≡ f.2 = some_same (sym w.there ∙ f.3) in
      (s.0, s.1, w.one, w.here, w.alike.of ∙ ap (λ (o : Object). o.of) object ∙ f.4 ∙ ap shape.Size is.1)
  carried (fact.Same operation args value) (fact.Same other brgs name) is f =
      let all = had args brgs f.0 is.1 f.1 in
      let folded = fold_if m (fold operation all.0) f.2 (subst (MapsIf m (fold operation all.0)) f.3 (folds_alike operation (length t.prebuilts) at.mapped h.injective all.0 f.0 all.2)) in
      let one = named value name f.2 is.2 f.4 in
      let same : folded.0 ≡ one.0 = one_value m h.injective.one_to_one (pair_of m one.0 f.2 one.2) folded.2 in
      (all.0, all.1, one.0, ap (λ c. fold c all.0) (sym is.0) ∙ folded.1 ∙ ap Some same, one.1)
  carried _ _ is f = absurd is

pub facts_carry_over : FactsCarryOver
facts_carry_over t known boxes at h x y is f = carried t known boxes at h x y is f
