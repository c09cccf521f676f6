-- A lawful guard whose boxes have values goes wrong only where it is undefined on them; and so, with plain operations, any operation.
use Rattle.std.proofs.Common.{◌≡◌, ℕ, zero, suc, ◌<◌, ◌≤◌, ◌⊎◌, inl, inr, Bool, true, false, cond, Option, Some, None, List, [], ◌∷◌, length, map, drop, slice_get, refl, ap, sym, ◌∙◌, subst, arith, ℤ, pos, negsuc}
use Rattle.std.specs.Prelude.{◌==◌, ◌&&◌, option_and_then, nat_lt, is_some, IsSome, IsSomeAnd}
use Rattle.std.specs.Option.{option_map}
use Rattle.std.specs.List.{All, list_all}
use Rattle.std.proofs.lemmas.Bool.{eq-eqb, and_parts, ltb-true, ltb-false}
use Rattle.std.proofs.lemmas.Option.{slice_get_past}
use Rattle.std.proofs.lemmas.List.Quantifiers.{position-Some}
use Rattle.lists.proofs.Alls.{all_at}
use Rattle.lists.proofs.Places.{get_some}
use Rattle.trace_ops.specs.declared.code.OpCode.{OpCode}
use Rattle.trace_ops.specs.declared.code.OpCode.TheVariants as code
use Rattle.trace_ops.specs.declared.facts.Part.{Part}
use Rattle.trace_ops.specs.declared.facts.Part.TheVariants as part
use Rattle.trace_ops.specs.declared.facts.Want.TheVariants as want
use Rattle.trace_ops.specs.declared.facts.Takes.TheVariants as takes
use Rattle.trace_ops.specs.declared.facts.Cites.{Cites}
use Rattle.trace_ops.specs.declared.facts.Cites.TheVariants as cites
use Rattle.trace_ops.specs.declared.trace.Kind.{Kind}
use Rattle.trace_ops.specs.declared.trace.Kind.TheVariants as kind
use Rattle.trace_ops.specs.declared.trace.Arg.{Arg}
use Rattle.trace_ops.specs.declared.trace.Arg.TheVariants as arg
use Rattle.trace_ops.specs.declared.trace.Descr.{Descr}
use Rattle.trace_ops.specs.declared.trace.Descr.TheVariants as descr
use Rattle.trace_ops.specs.declared.piece.Spot.{Spot}
use Rattle.trace_ops.specs.declared.piece.Spot.TheVariants as spot
use Rattle.trace_ops.specs.declared.table.ShapeOf.{ShapeOf}
use Rattle.trace_ops.specs.declared.table.ShapeOf.TheVariants as shape
use Rattle.trace_ops.specs.declared.table.FieldRow.{FieldRow}
use Rattle.trace_ops.specs.declared.table.CallRow.{CallRow}
use Rattle.trace_ops.specs.declared.table.Table.{Table}
use Rattle.trace_ops.specs.Facts.{takes_of, gives_of, cites_of, part_of}
use Rattle.trace_ops.specs.Classes.{plain, guarding}
use Rattle.trace_ops.specs.Fits.{FitsDescr, AreCompared}
use Rattle.trace_ops.specs.Kinds.{kind_of_arg, kind_of_field}
use Rattle.trace_ops.specs.Rules.{AreTaken, IsStored, stored_kind}
use Rattle.trace_ops.specs.InRange.{IsTableInRange}
use Rattle.trace_meaning.specs.declared.value.Value.{Value}
use Rattle.trace_meaning.specs.declared.value.Value.TheVariants as v
use Rattle.trace_meaning.specs.declared.value.Object.{Object}
use Rattle.trace_meaning.specs.declared.call.Give.{Give}
use Rattle.trace_meaning.specs.declared.call.Give.TheVariants as give
use Rattle.trace_meaning.specs.declared.call.Answer.{Answer}
use Rattle.trace_meaning.specs.Values.{references}
use Rattle.trace_meaning.specs.World.{World}
use Rattle.trace_meaning.specs.Objects.{read, part_of_object, place_of, item_place, index_of, fields_of, write, write_unfrozen, is_frozen, immutable, written, within, place_within, with_part, with_object, length_at, items_in, is_array}
use Rattle.trace_meaning.specs.Answers.{same_result, kind_given, is_named, fits, value_given, store_fits}
use Rattle.trace_meaning.specs.Passing.{passes, object_has_class}
use Rattle.trace_meaning.specs.Performing.{value_done, write_done, make_items, answered_if, called_first, call_row, call, perform}
use Rattle.trace_meaning.specs.Kinds.{IsValueOf}
use Rattle.trace_meaning.specs.There.{HasRoomFor, HasItsParts}
use Rattle.trace_meaning.specs.Undefined.{IsNull, IsNotOfArray, IsBelowZero, IsImmutable, HasNoField, HasNoItems, IsUndefined, GivesIf, GoesRight, OnlyUndefinedGoWrong}
use Rattle.trace_meaning.specs.Kinds.{AreOfKinds}
use Rattle.trace_meaning.proofs.HoldingAnswers.{same_result_same}
use Rattle.trace_meaning.proofs.Listed.{field-listed}
use Rattle.trace_meaning.proofs.Progress.{first_int, first_ref, no_more, one_int, one_ref, object_at, perform-right, plain_part}

abbrev IsGuardPart : Part → Type 0
IsGuardPart part.Guard = Unit {0}
IsGuardPart part.OverflowGuard = Unit {0}
IsGuardPart _ = ⊥

module _ (t : Table) (w : World) (range : IsTableInRange t) (whole : All (HasItsParts t) w.objects) where
  abbrev n : ℕ
  n = length w.objects

  abbrev Tests : OpCode → Descr → List Arg → List Value → Type 0
  Tests operation d args vs = passes operation args vs w ≡ None → IsUndefined t operation d vs w

  some_none : {X : Type 0} (x : X) → Some x ≡ None → ⊥
  some_none x e = cc

  class_missing : (size k : ℕ) (o : Object) → slice_get w.objects k ≡ Some o → object_has_class size (slice_get w.objects k) ≡ None → ⊥
  class_missing size k o eo e = some_none _ (sym (ap (object_has_class size) eo) ∙ e)

  ref_class : (d : Descr) (P : List Arg → List Value → Type 0) (args : List Arg) (vs : List Value) → AreTaken t cites.Nothing d (takes.Two want.Ref want.Class) args → AreOfKinds n (map kind_of_arg args) vs → ((a : Arg) (s : ℕ) (x : Value) → IsValueOf n kind.Ref x → P (a ∷ arg.Class s ∷ []) (x ∷ [])) → P args vs
  ref_class d P (a ∷ arg.Class s ∷ []) vs ha hv f = first_ref n (P (a ∷ arg.Class s ∷ [])) (None ∷ []) vs (subst (λ k. AreOfKinds n (k ∷ None ∷ []) vs) ha.0 hv) (λ x rest hx h. no_more n (λ ys. P (a ∷ arg.Class s ∷ []) (x ∷ ys)) rest h (f a s x hx))
  ref_class d P (a ∷ arg.Of b ∷ []) vs ha hv f = absurd ha.1
  ref_class d P (a ∷ arg.Const z ∷ []) vs ha hv f = absurd ha.1
  ref_class d P (a ∷ arg.Null ∷ []) vs ha hv f = absurd ha.1
  ref_class d P (a ∷ arg.Func z ∷ []) vs ha hv f = absurd ha.1
  ref_class d P (a ∷ arg.Ptr z ∷ []) vs ha hv f = absurd ha.1
  ref_class d P [] vs ha hv f = absurd ha
  ref_class d P (a ∷ []) vs ha hv f = absurd ha
  ref_class d P (a ∷ b ∷ e ∷ args) vs ha hv f = absurd ha

  -- a value and a constant of its kind
  compared_pair : (d : Descr) (P : List Value → Type 0) (args : List Arg) (vs : List Value) → AreTaken t cites.Nothing d takes.Compared args → AreOfKinds n (map kind_of_arg args) vs → ((a b : ℤ) → P (v.Int a ∷ v.Int b ∷ [])) → ((x y : Value) → IsValueOf n kind.Ref x → IsValueOf n kind.Ref y → P (x ∷ y ∷ [])) → P vs
  compared_pair d P (a ∷ b ∷ []) vs ha hv f g = by (kind_of_arg a) b ha hv
    where
      refs : (ks : Option Kind) → ks ≡ Some kind.Ref → AreOfKinds n (Some kind.Ref ∷ ks ∷ []) vs → P vs
      refs ks e hv = first_ref n P (Some kind.Ref ∷ []) vs (subst (λ k. AreOfKinds n (Some kind.Ref ∷ k ∷ []) vs) e hv) (λ x rest hx h. first_ref n (λ ys. P (x ∷ ys)) [] rest h (λ y more hy m. no_more n (λ zs. P (x ∷ y ∷ zs)) more m (g x y hx hy)))

      by : (k : Option Kind) (b : Arg) → AreCompared k b → AreOfKinds n (k ∷ kind_of_arg b ∷ []) vs → P vs
      by (Some kind.Int) (arg.Const z) h hv = first_int n P (Some kind.Int ∷ []) vs hv (λ x rest m. first_int n (λ ys. P (v.Int x ∷ ys)) [] rest m (λ y more q. no_more n (λ zs. P (v.Int x ∷ v.Int y ∷ zs)) more q (f x y)))
      by (Some kind.Ref) arg.Null h hv = refs (Some kind.Ref) refl hv
      by (Some kind.Ref) (arg.Ptr k) h hv = refs (Some kind.Ref) refl hv
      by None b h hv = absurd h
      by (Some kind.Int) (arg.Of c) h hv = absurd h
      by (Some kind.Int) arg.Null h hv = absurd h
      by (Some kind.Int) (arg.Class c) h hv = absurd h
      by (Some kind.Int) (arg.Func c) h hv = absurd h
      by (Some kind.Int) (arg.Ptr c) h hv = absurd h
      by (Some kind.Ref) (arg.Of c) h hv = absurd h
      by (Some kind.Ref) (arg.Const c) h hv = absurd h
      by (Some kind.Ref) (arg.Class c) h hv = absurd h
      by (Some kind.Ref) (arg.Func c) h hv = absurd h
  compared_pair d P [] vs ha hv f g = absurd ha
  compared_pair d P (a ∷ []) vs ha hv f g = absurd ha
  compared_pair d P (a ∷ b ∷ e ∷ args) vs ha hv f g = absurd ha

  pub passes-right : (operation : OpCode) (d : Descr) (args : List Arg) (vs : List Value) → IsGuardPart (part_of operation) → AreTaken t (cites_of operation) d (takes_of operation) args → AreOfKinds (length w.objects) (map kind_of_arg args) vs → Tests operation d args vs
  passes-right code.GuardTrue d args vs p ha hv = one_int n t (cites_of code.GuardTrue) d (Tests code.GuardTrue d args) args vs ha hv (λ a e. some_none _ e)
  passes-right code.GuardFalse d args vs p ha hv = one_int n t (cites_of code.GuardFalse) d (Tests code.GuardFalse d args) args vs ha hv (λ a e. some_none _ e)
  passes-right code.GuardValue d args vs p ha hv = compared_pair d (Tests code.GuardValue d args) args vs ha hv (λ a b e. some_none _ e) equal_right
    where
      equal_right : (x y : Value) → IsValueOf n kind.Ref x → IsValueOf n kind.Ref y → Tests code.GuardValue d args (x ∷ y ∷ [])
      equal_right (v.Int z) y hx hy e = absurd hx
      equal_right v.Null (v.Int z) hx hy e = absurd hy
      equal_right (v.Obj k) (v.Int z) hx hy e = absurd hy
      equal_right v.Null v.Null hx hy e = some_none _ e
      equal_right v.Null (v.Obj j) hx hy e = some_none _ e
      equal_right (v.Obj k) v.Null hx hy e = some_none _ e
      equal_right (v.Obj k) (v.Obj j) hx hy e = some_none _ e
  passes-right code.GuardNonnull d args vs p ha hv = one_ref n t (cites_of code.GuardNonnull) d (Tests code.GuardNonnull d args) args vs ha hv null_right
    where
      null_right : (x : Value) → IsValueOf n kind.Ref x → Tests code.GuardNonnull d args (x ∷ [])
      null_right (v.Int z) hx e = absurd hx
      null_right v.Null hx e = some_none _ e
      null_right (v.Obj k) hx e = some_none _ e
  passes-right code.GuardIsnull d args vs p ha hv = one_ref n t (cites_of code.GuardIsnull) d (Tests code.GuardIsnull d args) args vs ha hv null_right
    where
      null_right : (x : Value) → IsValueOf n kind.Ref x → Tests code.GuardIsnull d args (x ∷ [])
      null_right (v.Int z) hx e = absurd hx
      null_right v.Null hx e = some_none _ e
      null_right (v.Obj k) hx e = some_none _ e
  passes-right code.GuardClass d args vs p ha hv = ref_class d (Tests code.GuardClass d) args vs ha hv class_right
    where
      class_right : (a : Arg) (s : ℕ) (x : Value) → IsValueOf n kind.Ref x → Tests code.GuardClass d (a ∷ arg.Class s ∷ []) (x ∷ [])
      class_right a s (v.Int z) hx e = absurd hx
      class_right a s v.Null hx e = tt
      class_right a s (v.Obj k) hx e = let o = object_at t w range whole k hx in absurd (class_missing s k o.0 o.1 e)
  passes-right code.GuardNonnullClass d args vs p ha hv = ref_class d (Tests code.GuardNonnullClass d) args vs ha hv class_right
    where
      class_right : (a : Arg) (s : ℕ) (x : Value) → IsValueOf n kind.Ref x → Tests code.GuardNonnullClass d (a ∷ arg.Class s ∷ []) (x ∷ [])
      class_right a s (v.Int z) hx e = absurd hx
      class_right a s v.Null hx e = some_none _ e
      class_right a s (v.Obj k) hx e = let o = object_at t w range whole k hx in class_missing s k o.0 o.1 e
  passes-right code.GuardNoOverflow d args vs p ha hv = λ e. some_none _ e
  passes-right code.GuardOverflow d args vs p ha hv = λ e. some_none _ e
  passes-right code.GuardNoException d args vs p ha hv = λ e. some_none _ e
  passes-right code.IntAdd d args vs p ha hv = absurd p
  passes-right code.IntSub d args vs p ha hv = absurd p
  passes-right code.IntMul d args vs p ha hv = absurd p
  passes-right code.IntAnd d args vs p ha hv = absurd p
  passes-right code.IntOr d args vs p ha hv = absurd p
  passes-right code.IntXor d args vs p ha hv = absurd p
  passes-right code.IntLshift d args vs p ha hv = absurd p
  passes-right code.IntRshift d args vs p ha hv = absurd p
  passes-right code.UintRshift d args vs p ha hv = absurd p
  passes-right code.IntLt d args vs p ha hv = absurd p
  passes-right code.IntLe d args vs p ha hv = absurd p
  passes-right code.IntEq d args vs p ha hv = absurd p
  passes-right code.IntNe d args vs p ha hv = absurd p
  passes-right code.IntGt d args vs p ha hv = absurd p
  passes-right code.IntGe d args vs p ha hv = absurd p
  passes-right code.UintLt d args vs p ha hv = absurd p
  passes-right code.UintLe d args vs p ha hv = absurd p
  passes-right code.UintGt d args vs p ha hv = absurd p
  passes-right code.UintGe d args vs p ha hv = absurd p
  passes-right code.IntAddOvf d args vs p ha hv = absurd p
  passes-right code.IntSubOvf d args vs p ha hv = absurd p
  passes-right code.IntMulOvf d args vs p ha hv = absurd p
  passes-right code.IntIsZero d args vs p ha hv = absurd p
  passes-right code.IntIsTrue d args vs p ha hv = absurd p
  passes-right code.IntNeg d args vs p ha hv = absurd p
  passes-right code.IntInvert d args vs p ha hv = absurd p
  passes-right code.IntForceGeZero d args vs p ha hv = absurd p
  passes-right code.SameAsI d args vs p ha hv = absurd p
  passes-right code.SameAsR d args vs p ha hv = absurd p
  passes-right code.PtrEq d args vs p ha hv = absurd p
  passes-right code.PtrNe d args vs p ha hv = absurd p
  passes-right code.GetfieldGcI d args vs p ha hv = absurd p
  passes-right code.GetfieldGcR d args vs p ha hv = absurd p
  passes-right code.SetfieldGc d args vs p ha hv = absurd p
  passes-right code.GetarrayitemGcI d args vs p ha hv = absurd p
  passes-right code.GetarrayitemGcR d args vs p ha hv = absurd p
  passes-right code.SetarrayitemGc d args vs p ha hv = absurd p
  passes-right code.ArraylenGc d args vs p ha hv = absurd p
  passes-right code.New d args vs p ha hv = absurd p
  passes-right code.NewWithVtable d args vs p ha hv = absurd p
  passes-right code.NewArrayClear d args vs p ha hv = absurd p
  passes-right code.CallI d args vs p ha hv = absurd p
  passes-right code.CallR d args vs p ha hv = absurd p
  passes-right code.CallN d args vs p ha hv = absurd p
  passes-right code.Jump d args vs p ha hv = absurd p
  passes-right code.Finish d args vs p ha hv = absurd p

guard_part : (p : Part) → guarding p ≡ true → IsGuardPart p
guard_part part.Guard h = tt
guard_part part.OverflowGuard h = tt
guard_part part.Plain h = absurd (cc)
guard_part part.Overflowing h = absurd (cc)
guard_part part.Jump h = absurd (cc)
guard_part part.Finish h = absurd (cc)

pub only-undefined : OnlyUndefinedGoWrong
only-undefined = record {
  performs = λ t operation d args vs w p h. perform-right t w h.range h.whole operation d args vs (plain_part (part_of operation) p) h.takes h.cites h.kinds;
  tests = λ t operation d args vs w p h. passes-right t w h.range h.whole operation d args vs (guard_part (part_of operation) p) h.takes h.kinds;
}
