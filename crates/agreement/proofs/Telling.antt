-- What a leg tells of the operations that it has passed.
use Rattle.std.proofs.Common.{◌≡◌, ◌≢◌, ◌⊎◌, inl, inr, ℕ, ℤ, pos, Bool, true, false, cond, Option, Some, None, List, [], ◌∷◌, slice_get, refl, sym, ap, ◌∙◌}
use Rattle.std.specs.Prelude.{not}
use Rattle.std.proofs.lemmas.Bool.{eqb-true}
use Rattle.std.proofs.lemmas.Bool.Decides.{Decides-int_eq}
use Rattle.lists.proofs.Options.{some_same, none_some}
use Rattle.trace_ops.specs.declared.code.OpCode.{OpCode}
use Rattle.trace_ops.specs.declared.code.OpCode.TheVariants as code
use Rattle.trace_ops.specs.declared.facts.Part.{Part}
use Rattle.trace_ops.specs.declared.facts.Part.TheVariants as part
use Rattle.trace_ops.specs.declared.facts.Cites.{Cites}
use Rattle.trace_ops.specs.declared.trace.BoxId.{BoxId}
use Rattle.trace_ops.specs.declared.trace.Arg.{Arg}
use Rattle.trace_ops.specs.declared.trace.Arg.TheVariants as arg
use Rattle.trace_ops.specs.declared.trace.Descr.{Descr}
use Rattle.trace_ops.specs.declared.trace.Op.{Op}
use Rattle.trace_ops.specs.declared.table.Table.{Table}
use Rattle.trace_ops.specs.Classes.{is_pure, pure_part, is_plain, plain}
use Rattle.trace_ops.specs.Facts.{part_of, cites_of}
use Rattle.trace_meaning.specs.declared.value.Value.{Value}
use Rattle.trace_meaning.specs.declared.value.Value.TheVariants as v
use Rattle.trace_meaning.specs.declared.value.Object.{Object}
use Rattle.trace_meaning.specs.World.{World}
use Rattle.trace_meaning.specs.Boxes.{value_in, arg_value, has_value, with_first, all_values}
use Rattle.trace_meaning.specs.Folding.{fold}
use Rattle.trace_meaning.specs.Passing.{is_zero, is_zero_word, are_equal, is_null, object_has_class, has_class, has_class_or_null, negated, passes}
use Rattle.trace_meaning.specs.Performing.{Gave, value_done, perform}
use Rattle.trace_meaning.specs.Recorded.{Rec, values_of}
use Rattle.agreement.specs.Growing.{Extends}
use Rattle.agreement.specs.Telling.{HasNow, IsOfSize, Is, Tells}
use Rattle.agreement.proofs.Further.{KindsKept, arg_value-extends, all_values-extends, first_parts}
use Rattle.agreement.proofs.Guarding.{is_of}

some_apart : Some false ≡ Some true → ⊥
some_apart e = cc

-- Values of one argument, and of two

abbrev pub IsOne : Option Value → List Value → Type 0
IsOne a vs = (vs ≡ []) ⊎ ((x : Value) × (a ≡ Some x) × (vs ≡ x ∷ []))

first_one : (h : Bool) (a : Option Value) (vs : List Value) → cond h (with_first a (Some [])) (Some []) ≡ Some vs → IsOne a vs
first_one false a vs e = inl (sym (some_same e))
first_one true (Some x) vs e = inr (x, refl, sym (some_same e))
first_one true None vs e = absurd (none_some e)

pub one_value : (r : Rec) (a : Arg) (vs : List Value) → values_of r (a ∷ []) ≡ Some vs → IsOne (arg_value (value_in r.boxes) a) vs
one_value r a vs e = first_one (has_value a) (arg_value (value_in r.boxes) a) vs e

pub one_of_class : (r : Rec) (a : Arg) (size : ℕ) (vs : List Value) → values_of r (a ∷ arg.Class size ∷ []) ≡ Some vs → IsOne (arg_value (value_in r.boxes) a) vs
one_of_class r a size vs e = first_one (has_value a) (arg_value (value_in r.boxes) a) vs e

-- none or one of them, or both
abbrev pub AreTwo : Option Value → Option Value → List Value → Type 0
AreTwo a b vs = ((vs ≡ []) ⊎ ((x : Value) × (vs ≡ x ∷ []))) ⊎ ((x y : Value) × (a ≡ Some x) × (b ≡ Some y) × (vs ≡ x ∷ y ∷ []))

two_with : (h : Bool) (a b : Option Value) (rest : Option (List Value)) (vs : List Value) → ((ys : List Value) → rest ≡ Some ys → IsOne b ys) → cond h (with_first a rest) rest ≡ Some vs → AreTwo a b vs
two_with false a b rest vs one e = elim (one vs e) [
  | inl none ↦ inl (inl none)
  | inr is ↦ inl (inr (is.0, is.2))
]
two_with true a b rest vs one e =
    let s = first_parts a rest vs e in
    elim (one s.2 s.3) [
      | inl none ↦ inl (inr (s.0, sym s.4 ∙ ap (λ l. s.0 ∷ l) none))
      | inr is ↦ inr (s.0, is.0, s.1, is.1, sym s.4 ∙ ap (λ l. s.0 ∷ l) is.2)
    ]

pub two_values : (r : Rec) (a b : Arg) (vs : List Value) → values_of r (a ∷ b ∷ []) ≡ Some vs → AreTwo (arg_value (value_in r.boxes) a) (arg_value (value_in r.boxes) b) vs
two_values r a b vs e = two_with (has_value a) (arg_value (value_in r.boxes) a) (arg_value (value_in r.boxes) b) (all_values (arg_value (value_in r.boxes)) (b ∷ [])) vs (λ ys. one_value r b ys) e

-- What a test that passes tells of values

not_zero : (z : ℤ) → Some (not (is_zero z)) ≡ Some true → z ≢ pos 0
not_zero z e same = let zero_is : is_zero z ≡ true = (Decides-int_eq z (pos 0)).1 same in some_apart (sym (ap (λ b. Some (not b)) zero_is) ∙ e)

true_told : (vs : List Value) → negated (is_zero_word vs) ≡ Some true → (z : ℤ) × (vs ≡ v.Int z ∷ []) × (z ≢ pos 0)
true_told [] e = absurd (none_some e)
true_told (v.Int z ∷ []) e = (z, refl, not_zero z e)
true_told (v.Int z ∷ y ∷ ys) e = absurd (none_some e)
true_told (v.Null ∷ ys) e = absurd (none_some e)
true_told (v.Obj n ∷ ys) e = absurd (none_some e)

pub false_told : (vs : List Value) → is_zero_word vs ≡ Some true → vs ≡ v.Int (pos 0) ∷ []
false_told [] e = absurd (none_some e)
false_told (v.Int z ∷ []) e = ap (λ n. v.Int n ∷ []) ((Decides-int_eq z (pos 0)).0 (some_same e))
false_told (v.Int z ∷ y ∷ ys) e = absurd (none_some e)
false_told (v.Null ∷ ys) e = absurd (none_some e)
false_told (v.Obj n ∷ ys) e = absurd (none_some e)

nonnull_told : (vs : List Value) → negated (is_null vs) ≡ Some true → (n : ℕ) × (vs ≡ v.Obj n ∷ [])
nonnull_told [] e = absurd (none_some e)
nonnull_told (v.Int z ∷ ys) e = absurd (none_some e)
nonnull_told (v.Null ∷ []) e = absurd (some_apart e)
nonnull_told (v.Null ∷ y ∷ ys) e = absurd (none_some e)
nonnull_told (v.Obj n ∷ []) e = (n, refl)
nonnull_told (v.Obj n ∷ y ∷ ys) e = absurd (none_some e)

pub isnull_told : (vs : List Value) → is_null vs ≡ Some true → vs ≡ v.Null ∷ []
isnull_told [] e = absurd (none_some e)
isnull_told (v.Int z ∷ ys) e = absurd (none_some e)
isnull_told (v.Null ∷ []) e = refl
isnull_told (v.Null ∷ y ∷ ys) e = absurd (none_some e)
isnull_told (v.Obj n ∷ []) e = absurd (some_apart e)
isnull_told (v.Obj n ∷ y ∷ ys) e = absurd (none_some e)

alone_not_equal : (x : Value) → are_equal (x ∷ []) ≡ Some true → ⊥
alone_not_equal (v.Int z) e = none_some e
alone_not_equal v.Null e = none_some e
alone_not_equal (v.Obj n) e = none_some e

pub equal_told : (x y : Value) → are_equal (x ∷ y ∷ []) ≡ Some true → x ≡ y
equal_told (v.Int a) (v.Int b) e = ap v.Int ((Decides-int_eq a b).0 (some_same e))
equal_told (v.Int a) v.Null e = absurd (none_some e)
equal_told (v.Int a) (v.Obj n) e = absurd (none_some e)
equal_told v.Null (v.Int b) e = absurd (none_some e)
equal_told v.Null v.Null e = refl
equal_told v.Null (v.Obj n) e = absurd (some_apart e)
equal_told (v.Obj m) (v.Int b) e = absurd (none_some e)
equal_told (v.Obj m) v.Null e = absurd (some_apart e)
equal_told (v.Obj m) (v.Obj n) e = ap v.Obj (eqb-true m n (some_same e))

-- an object of a size
abbrev pub SizeTold : List Object → ℕ → List Value → Type 0
SizeTold objects size vs = (n : ℕ) × (vs ≡ v.Obj n ∷ []) × (o : Object) × (slice_get objects n ≡ Some o) × (object_has_class size (Some o) ≡ Some true)

object_told : (objects : List Object) (size n : ℕ) (o : Option Object) → slice_get objects n ≡ o → object_has_class size o ≡ Some true → SizeTold objects size (v.Obj n ∷ [])
object_told objects size n None at e = absurd (none_some e)
object_told objects size n (Some o) at e = (n, refl, o, at, e)

class_told : (objects : List Object) (size : ℕ) (vs : List Value) → has_class objects (Some size) vs ≡ Some true → SizeTold objects size vs
class_told objects size [] e = absurd (none_some e)
class_told objects size (v.Int z ∷ ys) e = absurd (none_some e)
class_told objects size (v.Null ∷ ys) e = absurd (none_some e)
class_told objects size (v.Obj n ∷ []) e = object_told objects size n (slice_get objects n) refl e
class_told objects size (v.Obj n ∷ y ∷ ys) e = absurd (none_some e)

class_or_null_told : (objects : List Object) (size : ℕ) (vs : List Value) → has_class_or_null objects (Some size) vs ≡ Some true → SizeTold objects size vs
class_or_null_told objects size [] e = absurd (none_some e)
class_or_null_told objects size (v.Int z ∷ ys) e = absurd (none_some e)
class_or_null_told objects size (v.Null ∷ []) e = absurd (some_apart e)
class_or_null_told objects size (v.Null ∷ y ∷ ys) e = absurd (none_some e)
class_or_null_told objects size (v.Obj n ∷ []) e = object_told objects size n (slice_get objects n) refl e
class_or_null_told objects size (v.Obj n ∷ y ∷ ys) e = absurd (none_some e)

-- A guard that has passed, of boxes and objects as it found them

pub same_head : {x : Value} {y : Value} {xs : List Value} {ys : List Value} → x ∷ xs ≡ y ∷ ys → x ≡ y
same_head e = cc

pub nil_cons : {y : Value} {ys : List Value} → [] ≡ y ∷ ys → ⊥
nil_cons e = cc

-- the one value is x
one_is : (a : Option Value) (vs : List Value) (x : Value) → IsOne a vs → vs ≡ x ∷ [] → a ≡ Some x
one_is a vs x (inl none) e = absurd (nil_cons (sym none ∙ e))
one_is a vs x (inr is) e = is.1 ∙ ap Some (same_head (sym is.2 ∙ e))

both_equal : (r : Rec) (a b : Arg) (vs : List Value) → AreTwo (arg_value (value_in r.boxes) a) (arg_value (value_in r.boxes) b) vs → are_equal vs ≡ Some true → (x : Value) × HasNow r a x × HasNow r b x
both_equal r a b vs (inl (inl none)) e = absurd (none_some (sym (ap are_equal none) ∙ e))
both_equal r a b vs (inl (inr one)) e = absurd (alone_not_equal one.0 (sym (ap are_equal one.1) ∙ e))
both_equal r a b vs (inr two) e =
    let same : two.0 ≡ two.1 = equal_told two.0 two.1 (sym (ap are_equal two.4) ∙ e) in
    (two.1, two.2 ∙ ap Some same, two.3)

of_size : (r : Rec) (a : Arg) (size : ℕ) (vs : List Value) → IsOne (arg_value (value_in r.boxes) a) vs → SizeTold r.world.objects size vs → IsOfSize r a size
of_size r a size vs one h = (h.0, one_is (arg_value (value_in r.boxes) a) vs (v.Obj h.0) one h.1, h.2, h.3, is_of size h.2.of (some_same h.4))

pure_is_plain : (p : Part) (c : Cites) → pure_part p c ≡ true → plain p ≡ true
pure_is_plain part.Plain c e = refl
pure_is_plain part.Overflowing c e = refl
pure_is_plain part.Guard c e = absurd (cc)
pure_is_plain part.OverflowGuard c e = absurd (cc)
pure_is_plain part.Jump c e = absurd (cc)
pure_is_plain part.Finish c e = absurd (cc)

true_is_false : {b : Bool} → b ≡ false → b ≡ true → ⊥
true_is_false e h = let wrong : false ≡ true = sym e ∙ h in cc

module _ (t : Table) (r : Rec) (op : Op) (vs : List Value) (are : values_of r op.args ≡ Some vs) where
  of_args : (args : List Arg) → op.args ≡ args → values_of r args ≡ Some vs
  of_args args e = sym (ap (values_of r) e) ∙ are

  pub guard_told : is_plain op.code ≡ false → passes op.code op.args vs r.world ≡ Some true → Tells t r op
  guard_told guards e = record {
    pure = λ p b _. absurd (true_is_false guards (pure_is_plain (part_of op.code) (cites_of op.code) p));
    guard_true = λ a is.
        let told = true_told vs (passed code.GuardTrue (a ∷ []) is) in
        (told.0, one_is (arg_value (value_in r.boxes) a) vs (v.Int told.0) (one_value r a vs (of_args (a ∷ []) is.1)) told.1, told.2);
    guard_false = λ a is. one_is (arg_value (value_in r.boxes) a) vs (v.Int (pos 0)) (one_value r a vs (of_args (a ∷ []) is.1)) (false_told vs (passed code.GuardFalse (a ∷ []) is));
    guard_value = λ a b is. both_equal r a b vs (two_values r a b vs (of_args (a ∷ b ∷ []) is.1)) (passed code.GuardValue (a ∷ b ∷ []) is);
    guard_nonnull = λ a is.
        let told = nonnull_told vs (passed code.GuardNonnull (a ∷ []) is) in
        (told.0, one_is (arg_value (value_in r.boxes) a) vs (v.Obj told.0) (one_value r a vs (of_args (a ∷ []) is.1)) told.1);
    guard_isnull = λ a is. one_is (arg_value (value_in r.boxes) a) vs v.Null (one_value r a vs (of_args (a ∷ []) is.1)) (isnull_told vs (passed code.GuardIsnull (a ∷ []) is));
    guard_class = λ a size is. of_size r a size vs (one_of_class r a size vs (of_args (a ∷ arg.Class size ∷ []) is.1)) (class_told r.world.objects size vs (passed code.GuardClass (a ∷ arg.Class size ∷ []) is));
    guard_nonnull_class = λ a size is. of_size r a size vs (one_of_class r a size vs (of_args (a ∷ arg.Class size ∷ []) is.1)) (class_or_null_told r.world.objects size vs (passed code.GuardNonnullClass (a ∷ arg.Class size ∷ []) is));
  }
    where
      passed : (c : OpCode) (args : List Arg) → Is op c args → passes c args vs r.world ≡ Some true
      passed c args is = sym (ap (λ d. passes d op.args vs r.world) is.0 ∙ ap (λ l. passes c l vs r.world) is.1) ∙ e

-- A pure operation that has given a value

pure_done : (t : Table) (c : OpCode) (d : Descr) (args : List Arg) (vs : List Value) (w : World) → is_pure c ≡ true → perform t c d args vs w ≡ value_done w (fold c vs)
pure_done t code.IntAddOvf d args vs w e = absurd (cc)
pure_done t code.IntSubOvf d args vs w e = absurd (cc)
pure_done t code.IntMulOvf d args vs w e = absurd (cc)
pure_done t code.GetfieldGcI d args vs w e = absurd (cc)
pure_done t code.GetfieldGcR d args vs w e = absurd (cc)
pure_done t code.SetfieldGc d args vs w e = absurd (cc)
pure_done t code.GetarrayitemGcI d args vs w e = absurd (cc)
pure_done t code.GetarrayitemGcR d args vs w e = absurd (cc)
pure_done t code.SetarrayitemGc d args vs w e = absurd (cc)
pure_done t code.ArraylenGc d args vs w e = absurd (cc)
pure_done t code.New d args vs w e = absurd (cc)
pure_done t code.NewWithVtable d args vs w e = absurd (cc)
pure_done t code.NewArrayClear d args vs w e = absurd (cc)
pure_done t code.CallI d args vs w e = absurd (cc)
pure_done t code.CallR d args vs w e = absurd (cc)
pure_done t code.CallN d args vs w e = absurd (cc)
pure_done t _ d args vs w e = refl

value_gave : (w u : World) (y : Option Value) (x : Value) → value_done w y ≡ Gave (Some x) u → y ≡ Some x
value_gave w u None x e = absurd (cc)
value_gave w u (Some y) x e = cc

module _ (t : Table) (r m : Rec) (op : Op) (vs : List Value) (b : BoxId) (x : Value) (u : World) (are : values_of m op.args ≡ Some vs) where
  pub plain_told : is_plain op.code ≡ true → op.result ≡ Some b → perform t op.code op.descr op.args vs r.world ≡ Gave (Some x) u → value_in m.boxes b ≡ Some x → Tells t m op
  plain_told plain gives done now = record {
    pure = λ p c is.
        let same : c ≡ b = some_same (sym is ∙ gives) in
        let gave : fold op.code vs ≡ Some x = value_gave r.world u (fold op.code vs) x (sym (pure_done t op.code op.descr op.args vs r.world p) ∙ done) in
        (vs, are, x, gave, ap (value_in m.boxes) same ∙ now);
    guard_true = λ a is. absurd (never code.GuardTrue refl is.0);
    guard_false = λ a is. absurd (never code.GuardFalse refl is.0);
    guard_value = λ a c is. absurd (never code.GuardValue refl is.0);
    guard_nonnull = λ a is. absurd (never code.GuardNonnull refl is.0);
    guard_isnull = λ a is. absurd (never code.GuardIsnull refl is.0);
    guard_class = λ a size is. absurd (never code.GuardClass refl is.0);
    guard_nonnull_class = λ a size is. absurd (never code.GuardNonnullClass refl is.0);
  }
    where
      never : (c : OpCode) → is_plain c ≡ false → op.code ≡ c → ⊥
      never c guards e = true_is_false (ap is_plain e ∙ guards) plain

-- an operation without a result
pub nothing_told : (t : Table) (m : Rec) (op : Op) → is_plain op.code ≡ true → op.result ≡ None → Tells t m op
nothing_told t m op plain none = record {
  pure = λ p c is. absurd (none_some (sym none ∙ is));
  guard_true = λ a is. absurd (never code.GuardTrue refl is.0);
  guard_false = λ a is. absurd (never code.GuardFalse refl is.0);
  guard_value = λ a c is. absurd (never code.GuardValue refl is.0);
  guard_nonnull = λ a is. absurd (never code.GuardNonnull refl is.0);
  guard_isnull = λ a is. absurd (never code.GuardIsnull refl is.0);
  guard_class = λ a size is. absurd (never code.GuardClass refl is.0);
  guard_nonnull_class = λ a size is. absurd (never code.GuardNonnullClass refl is.0);
}
  where
    never : (c : OpCode) → is_plain c ≡ false → op.code ≡ c → ⊥
    never c guards e = true_is_false (ap is_plain e ∙ guards) plain

-- What was told stays so, where more boxes have values and objects keep their kinds

module _ (t : Table) (m r : Rec) (more : Extends (value_in m.boxes) (value_in r.boxes)) (kinds : KindsKept m.world r.world) where
  has-later : (a : Arg) (x : Value) → HasNow m a x → HasNow r a x
  has-later a x h = arg_value-extends (value_in m.boxes) (value_in r.boxes) more a x h

  size-later : (a : Arg) (size : ℕ) → IsOfSize m a size → IsOfSize r a size
  size-later a size h = let s = kinds h.0 h.2 h.3 in (h.0, has-later a (v.Obj h.0) h.1, s.0, s.1, sym s.2 ∙ h.4)

  pub tells-later : (op : Op) → Tells t m op → Tells t r op
  tells-later op h = record {
    pure = λ p b e. let s = h.pure p b e in (s.0, all_values-extends (value_in m.boxes) (value_in r.boxes) more op.args s.0 s.1, s.2, s.3, more b s.2 s.4);
    guard_true = λ a is. let s = h.guard_true a is in (s.0, has-later a (v.Int s.0) s.1, s.2);
    guard_false = λ a is. has-later a (v.Int (pos 0)) (h.guard_false a is);
    guard_value = λ a b is. let s = h.guard_value a b is in (s.0, has-later a s.0 s.1, has-later b s.0 s.2);
    guard_nonnull = λ a is. let s = h.guard_nonnull a is in (s.0, has-later a (v.Obj s.0) s.1);
    guard_isnull = λ a is. has-later a v.Null (h.guard_isnull a is);
    guard_class = λ a size is. size-later a size (h.guard_class a size is);
    guard_nonnull_class = λ a size is. size-later a size (h.guard_nonnull_class a size is);
  }
