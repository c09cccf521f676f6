-- Operations whose arguments are of the kinds that they take leave values of their kinds.
use Rattle.std.proofs.Common.{◌≡◌, ℕ, Bool, Option, Some, None, List, [], ◌∷◌, length, map, refl, subst, ℤ, pos}
use Rattle.std.specs.Prelude.{IsSome}
use Rattle.std.specs.Option.{option_map}
use Rattle.trace_ops.specs.declared.code.OpCode.{OpCode}
use Rattle.trace_ops.specs.declared.code.OpCode.TheVariants as code
use Rattle.trace_ops.specs.declared.trace.Kind.{Kind}
use Rattle.trace_ops.specs.declared.trace.Kind.TheVariants as kind
use Rattle.trace_ops.specs.declared.trace.Arg.{Arg}
use Rattle.trace_ops.specs.declared.trace.Descr.{Descr}
use Rattle.trace_ops.specs.declared.trace.Descr.TheVariants as descr
use Rattle.trace_ops.specs.declared.piece.Spot.{Spot}
use Rattle.trace_ops.specs.declared.piece.Spot.TheVariants as spot
use Rattle.trace_ops.specs.declared.table.Table.{Table}
use Rattle.trace_ops.specs.declared.facts.Want.TheVariants as want
use Rattle.trace_ops.specs.declared.facts.Takes.TheVariants as takes
use Rattle.trace_ops.specs.declared.facts.Cites.TheVariants as cites
use Rattle.trace_ops.specs.Facts.{takes_of, gives_of, cites_of}
use Rattle.trace_ops.specs.Fits.{FitsDescr}
use Rattle.trace_ops.specs.Kinds.{kind_of_arg, kind_of_spot}
use Rattle.trace_ops.specs.Rules.{IsStored, AreTaken}
use Rattle.trace_meaning.specs.declared.value.Value.{Value}
use Rattle.trace_meaning.specs.declared.value.Value.TheVariants as v
use Rattle.trace_meaning.specs.declared.value.Object.{Object}
use Rattle.trace_meaning.specs.World.{World}
use Rattle.trace_meaning.specs.Objects.{read, write, length_at, zeroed, cleared, index_of}
use Rattle.trace_meaning.specs.Folding.{one_reference, compared, fold_words, fold}
use Rattle.trace_meaning.specs.Performing.{value_done, write_done, overflowing, get_field, set_field, get_item, set_item, get_length, made, make_structure, make_items, make_array, function_in, call, perform}
use Rattle.trace_meaning.specs.Kinds.{IsValueOf, PartsHold}
use Rattle.trace_meaning.specs.Kinds.{AreOfKinds}
use Rattle.trace_meaning.specs.Holding.{Holds, KeepsIf, IsGiven, DoneHolds}
use Rattle.trace_meaning.proofs.Holding.{keeps-same, IsGiven-read, KeepsIf-write, Keeps-with_new, new_is_there, PartsHold-zeroed, PartsHold-cleared}
use Rattle.trace_meaning.proofs.HoldingAnswers.{DoneHolds-call_function}

module _ (t : Table) (w : World) (h : Holds t w) where
  abbrev n : ℕ
  n = length w.objects

  value_holds : (k : Option Kind) (x : Option Value) → IsGiven n k x → DoneHolds t w k (value_done w x)
  value_holds k None hx = tt
  value_holds k (Some x) hx = (keeps-same t w w refl h, hx)

  write_holds : (u : Option World) → KeepsIf t w u → DoneHolds t w None (write_done u)
  write_holds None hu = tt
  write_holds (Some u) hu = (hu, tt)

  -- Words and references

  abbrev IsNoReference : Option Kind → Type 0
  IsNoReference None = Unit {0}
  IsNoReference (Some kind.Int) = Unit {0}
  IsNoReference (Some kind.Ref) = ⊥

  word_given : (k : Option Kind) (x : Option ℤ) → IsNoReference k → IsGiven n k (option_map v.Int x)
  word_given None x hk = tt
  word_given (Some kind.Int) None hk = tt
  word_given (Some kind.Int) (Some z) hk = tt
  word_given (Some kind.Ref) x hk = absurd hk

  truth_given : (f : Bool → ℤ) (x : Option Bool) → IsGiven n (Some kind.Int) (option_map (λ b. v.Int (f b)) x)
  truth_given f None = tt
  truth_given f (Some b) = tt

  reference_given : (d : Descr) (args : List Arg) (vs : List Value) → AreTaken t cites.Nothing d (takes.One want.Ref) args → AreOfKinds n (map kind_of_arg args) vs → IsGiven n (Some kind.Ref) (one_reference vs)
  reference_given d (a ∷ []) (x ∷ []) ha hv = one x (subst (λ k. AreOfKinds n (k ∷ []) (x ∷ [])) ha hv).0
    where
      one : (x : Value) → IsValueOf n kind.Ref x → IsGiven n (Some kind.Ref) (one_reference (x ∷ []))
      one (v.Int z) hx = tt
      one v.Null hx = tt
      one (v.Obj o) hx = hx
  reference_given d args [] ha hv = tt
  reference_given d args (x ∷ y ∷ vs) ha hv = tt
  reference_given d [] (x ∷ []) ha hv = absurd ha
  reference_given d (a ∷ b ∷ args) (x ∷ []) ha hv = absurd ha

  overflow_holds : (exact : ℤ → ℤ → ℤ) (vs : List Value) → DoneHolds t w (Some kind.Int) (overflowing exact vs w)
  overflow_holds exact (v.Int a ∷ v.Int b ∷ []) = (keeps-same t w _ refl h, tt)
  overflow_holds exact _ = tt

  -- Parts

  get_field_holds : (k : Kind) (d : Descr) (vs : List Value) → FitsDescr t (cites.Field (Some k)) d → DoneHolds t w (Some k) (get_field t d vs w)
  get_field_holds k (descr.Field f) (base ∷ []) hd = value_holds (Some k) (read t (spot.Field f) base w) (IsGiven-read t (spot.Field f) base w k h hd)
  get_field_holds k _ _ hd = tt

  get_item_holds : (k : Kind) (d : Descr) (vs : List Value) → FitsDescr t (cites.Array (Some k)) d → DoneHolds t w (Some k) (get_item t d vs w)
  get_item_holds k (descr.Array a) (base ∷ v.Int i ∷ []) hd = value_holds (Some k) (read t (spot.Item a i) base w) (IsGiven-read t (spot.Item a i) base w k h hd)
  get_item_holds k _ _ hd = tt

  stored_write : (at : Spot) (base x : Value) (b : Arg) (k : Option Kind) → kind_of_spot t at ≡ k → IsSome k → IsStored k b → AreOfKinds n (kind_of_arg b ∷ []) (x ∷ []) → KeepsIf t w (write t at base x w)
  stored_write at base x b None ek some hb hv = absurd (cc)
  stored_write at base x b (Some k) ek some hb hv = KeepsIf-write t at base x w k h ek (subst (λ l. AreOfKinds n (l ∷ []) (x ∷ [])) hb hv).0

  last_stored : (a : Arg) (rest : List (Option Kind)) (base : Value) (xs : List Value) → kind_of_arg a ≡ Some kind.Ref → AreOfKinds n (kind_of_arg a ∷ rest) (base ∷ xs) → AreOfKinds n rest xs
  last_stored a rest base xs ha hv = (subst (λ k. AreOfKinds n (k ∷ rest) (base ∷ xs)) ha hv).1

  index_stored : (a : Arg) (rest : List (Option Kind)) (index : Value) (xs : List Value) → kind_of_arg a ≡ Some kind.Int → AreOfKinds n (kind_of_arg a ∷ rest) (index ∷ xs) → AreOfKinds n rest xs
  index_stored a rest index xs ha hv = (subst (λ k. AreOfKinds n (k ∷ rest) (index ∷ xs)) ha hv).1

  set_field_holds : (d : Descr) (args : List Arg) (vs : List Value) → AreTaken t (cites.Field None) d (takes.Two want.Ref want.Stored) args → FitsDescr t (cites.Field None) d → AreOfKinds n (map kind_of_arg args) vs → DoneHolds t w None (set_field t d vs w)
  set_field_holds (descr.Field f) (a ∷ b ∷ []) (base ∷ x ∷ []) ha hd hv =
      write_holds (write t (spot.Field f) base x w)
      (stored_write (spot.Field f) base x b (kind_of_spot t (spot.Field f)) refl hd ha.1 (last_stored a (kind_of_arg b ∷ []) base (x ∷ []) ha.0 hv))
  set_field_holds (descr.Field f) [] (base ∷ x ∷ []) ha hd hv = absurd ha
  set_field_holds (descr.Field f) (a ∷ []) (base ∷ x ∷ []) ha hd hv = absurd ha
  set_field_holds (descr.Field f) (a ∷ b ∷ e ∷ args) (base ∷ x ∷ []) ha hd hv = absurd ha
  set_field_holds _ args _ ha hd hv = tt

  set_item_at : (a : ℕ) (i : ℤ) (args : List Arg) (base x : Value) → AreTaken t (cites.Array None) (descr.Array a) (takes.Three want.Ref want.Int want.Stored) args → IsSome (kind_of_spot t (spot.Item a i)) → AreOfKinds n (map kind_of_arg args) (base ∷ v.Int i ∷ x ∷ []) → DoneHolds t w None (write_done (write t (spot.Item a i) base x w))
  set_item_at a i (p ∷ q ∷ b ∷ []) base x ha hd hv =
      write_holds (write t (spot.Item a i) base x w)
      (stored_write (spot.Item a i) base x b (kind_of_spot t (spot.Item a i)) refl hd ha.2 (index_stored q (kind_of_arg b ∷ []) (v.Int i) (x ∷ []) ha.1 (last_stored p (kind_of_arg q ∷ kind_of_arg b ∷ []) base (v.Int i ∷ x ∷ []) ha.0 hv)))
  set_item_at a i [] base x ha hd hv = absurd ha
  set_item_at a i (p ∷ []) base x ha hd hv = absurd ha
  set_item_at a i (p ∷ q ∷ []) base x ha hd hv = absurd ha
  set_item_at a i (p ∷ q ∷ b ∷ e ∷ args) base x ha hd hv = absurd ha

  set_item_holds : (d : Descr) (args : List Arg) (vs : List Value) → AreTaken t (cites.Array None) d (takes.Three want.Ref want.Int want.Stored) args → FitsDescr t (cites.Array None) d → AreOfKinds n (map kind_of_arg args) vs → DoneHolds t w None (set_item t d vs w)
  set_item_holds (descr.Array a) args (base ∷ v.Int i ∷ x ∷ []) ha hd hv = set_item_at a i args base x ha hd hv
  set_item_holds _ args _ ha hd hv = tt

  length_given : (x : Option ℕ) → IsGiven n (Some kind.Int) (option_map (λ m. v.Int (pos m)) x)
  length_given None = tt
  length_given (Some m) = tt

  get_length_holds : (d : Descr) (vs : List Value) → DoneHolds t w (Some kind.Int) (get_length d vs w)
  get_length_holds (descr.Array a) (base ∷ []) = value_holds (Some kind.Int) (option_map (λ m. v.Int (pos m)) (length_at a base w)) (length_given (length_at a base w))
  get_length_holds _ _ = tt

  -- New objects

  made_holds : (o : Object) → PartsHold t n o → DoneHolds t w (Some kind.Ref) (made o w)
  made_holds o ho = (Keeps-with_new t o w h ho, new_is_there t o w)

  structure_holds : (d : Descr) → DoneHolds t w (Some kind.Ref) (make_structure t d w)
  structure_holds (descr.Size s) = made_holds (zeroed t s) (PartsHold-zeroed t n s)
  structure_holds _ = tt

  items_hold : (array : ℕ) (count : Option ℕ) → DoneHolds t w (Some kind.Ref) (make_items t array count w)
  items_hold array None = tt
  items_hold array (Some count) = made_holds (cleared t array count) (PartsHold-cleared t n array count)

  array_holds : (d : Descr) (vs : List Value) → DoneHolds t w (Some kind.Ref) (make_array t d vs w)
  array_holds (descr.Array a) (v.Int z ∷ []) = items_hold a (index_of z)
  array_holds _ _ = tt

  call_holds : (k : Option Kind) (d : Descr) (args : List Arg) (vs : List Value) → FitsDescr t (cites.Call k) d → AreOfKinds n (map kind_of_arg args) vs → DoneHolds t w k (call t d args vs w)
  call_holds k (descr.Call c) args vs hd hv = DoneHolds-call_function t k c (function_in args) (map kind_of_arg args) vs w h hv hd
  call_holds k _ args vs hd hv = tt

  pub DoneHolds-perform : (operation : OpCode) (d : Descr) (args : List Arg) (vs : List Value) → AreTaken t (cites_of operation) d (takes_of operation) args → FitsDescr t (cites_of operation) d → AreOfKinds n (map kind_of_arg args) vs → DoneHolds t w (gives_of operation) (perform t operation d args vs w)
  DoneHolds-perform code.IntAddOvf d args vs ha hd hv = overflow_holds _ vs
  DoneHolds-perform code.IntSubOvf d args vs ha hd hv = overflow_holds _ vs
  DoneHolds-perform code.IntMulOvf d args vs ha hd hv = overflow_holds _ vs
  DoneHolds-perform code.GetfieldGcI d args vs ha hd hv = get_field_holds kind.Int d vs hd
  DoneHolds-perform code.GetfieldGcR d args vs ha hd hv = get_field_holds kind.Ref d vs hd
  DoneHolds-perform code.SetfieldGc d args vs ha hd hv = set_field_holds d args vs ha hd hv
  DoneHolds-perform code.GetarrayitemGcI d args vs ha hd hv = get_item_holds kind.Int d vs hd
  DoneHolds-perform code.GetarrayitemGcR d args vs ha hd hv = get_item_holds kind.Ref d vs hd
  DoneHolds-perform code.SetarrayitemGc d args vs ha hd hv = set_item_holds d args vs ha hd hv
  DoneHolds-perform code.ArraylenGc d args vs ha hd hv = get_length_holds d vs
  DoneHolds-perform code.New d args vs ha hd hv = structure_holds d
  DoneHolds-perform code.NewWithVtable d args vs ha hd hv = structure_holds d
  DoneHolds-perform code.NewArrayClear d args vs ha hd hv = array_holds d vs
  DoneHolds-perform code.CallI d args vs ha hd hv = call_holds (Some kind.Int) d args vs hd hv
  DoneHolds-perform code.CallR d args vs ha hd hv = call_holds (Some kind.Ref) d args vs hd hv
  DoneHolds-perform code.CallN d args vs ha hd hv = call_holds None d args vs hd hv
  DoneHolds-perform code.SameAsR d args vs ha hd hv = value_holds (Some kind.Ref) (one_reference vs) (reference_given d args vs ha hv)
  DoneHolds-perform code.PtrEq d args vs ha hd hv = value_holds (Some kind.Int) (fold code.PtrEq vs) (truth_given _ (compared vs))
  DoneHolds-perform code.PtrNe d args vs ha hd hv = value_holds (Some kind.Int) (fold code.PtrNe vs) (truth_given _ (compared vs))
  DoneHolds-perform operation d args vs ha hd hv = value_holds (gives_of operation) (option_map v.Int (fold_words operation vs)) (word_given (gives_of operation) (fold_words operation vs) tt)
