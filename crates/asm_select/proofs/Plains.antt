-- The code of an operation of words or references does what the operation does.
use Rattle.std.proofs.Common.{◌≡◌, ◌⊎◌, ℕ, ◌+◌, Bool, true, false, not, List, [], ◌∷◌, ◌++◌, length, Option, Some, None, refl, sym, ap, ◌∙◌, subst, inl, inr, ℤ}
use Rattle.std.specs.Prelude.{◌+ℤ◌, ◌-ℤ◌, ◌*ℤ◌}
use Rattle.std.specs.Option.{option_map}
use Rattle.std.specs.Ordering.{int_eq}
use Rattle.trace_ops.specs.declared.code.OpCode.{OpCode}
use Rattle.trace_ops.specs.declared.code.OpCode.TheVariants as code
use Rattle.trace_ops.specs.declared.table.Table.{Table}
use Rattle.trace_ops.specs.declared.trace.BoxId.{BoxId}
use Rattle.trace_ops.specs.declared.trace.Arg.{Arg}
use Rattle.trace_ops.specs.declared.trace.Descr.{Descr}
use Rattle.trace_ops.specs.declared.piece.OptOp.{OptOp}
use Rattle.trace_ops.specs.declared.piece.OptOp.TheVariants as opt
use Rattle.trace_ops.specs.Words.{IsWord, truth, wrap, overflows}
use Rattle.trace_ops.specs.Folds as words
use Rattle.trace_ops.specs.Classes.{is_overflowing}
use Rattle.trace_meaning.specs.declared.value.Value.{Value}
use Rattle.trace_meaning.specs.declared.value.Value.TheVariants as v
use Rattle.trace_meaning.specs.declared.value.Object.{Object}
use Rattle.trace_meaning.specs.Values.{same_reference, is_reference}
use Rattle.trace_meaning.specs.Boxes.{value_in, arg_value, all_values, has_value}
use Rattle.trace_meaning.specs.World.{World}
use Rattle.trace_meaning.specs.Folding.{fold, fold_words, compared, reference_in}
use Rattle.trace_meaning.specs.Performing.{value_done, perform}
use Rattle.opt_meaning.specs.Step.{Opt, opt_plain, opt_perform, opt_values}
use Rattle.arena_objects.specs.Layout.{address_of, word_of}
use Rattle.arena_objects.specs.Standing.{IsPart}
use Rattle.x64_encode.specs.declared.instr.Cc.{Cc}
use Rattle.x64_encode.specs.declared.instr.Cc.TheVariants as cc_is
use Rattle.target_base.specs.declared.place.Place.{Place}
use Rattle.x64_machine.specs.State.{State}
use Rattle.asm_select.specs.declared.operand.Operand.{Operand}
use Rattle.asm_select.specs.declared.told.Told.{Told}
use Rattle.asm_select.specs.declared.told.Told.TheVariants as tell
use Rattle.asm_select.specs.Slots.{Slot, puts}
use Rattle.asm_select.specs.Valued.{MayHold, IsFit}
use Rattle.asm_select.specs.Chosen.{Setting, operand_of, unary_form, binary_form, unary_cond, binary_cond, unary_code, binary_code, is_tested, is_lone, told_over, told_if}
use Rattle.asm_select.specs.Reached.{Reach, IsApart, Holds, IsWordArg, SameArena, read}
use Rattle.asm_select.specs.Ended.{has_unary, has_binary}
use Rattle.asm_select.proofs.Followed.{WordFollows}
use Rattle.asm_select.proofs.Steps.{weaker}
use Rattle.asm_select.proofs.Micro.{CanRead}
use Rattle.asm_select.proofs.Arms.{GivesOver, Truth}
use Rattle.asm_select.proofs.Operations.{Left, unaries, binaries, copies, equals, differs, adds_over, subs_over, muls_over}
use Rattle.asm_select.proofs.Values.{AreTold, are_told, references_tell, arg_reads, arg_is, arg_part, one_value, two_values}
use Rattle.asm_select.proofs.Results.{Makes, makes_holds, makes_word, gives_holds, with_result, lone_tested}
use Rattle.asm_select.proofs.Relying.{Relied}

-- ---- what a fold gives

int_made : (o : Option ℤ) (x : Value) → option_map v.Int o ≡ Some x → (z : ℤ) × (o ≡ Some z) × (x ≡ v.Int z)
int_made None x e = absurd (cc)
int_made (Some z) x e = (z, refl, value_is (v.Int z) x e)
  where
    value_is : (a b : Value) → Some a ≡ Some b → b ≡ a
    value_is a b q = cc

left_makes : (objects : ℕ → ℕ) (lone : Bool) (o : Option Cc) (d : Place) (x : Value) (z : ℤ) (s t : State) → x ≡ v.Int z → Left lone o d z s t → Makes objects lone o d x s t
left_makes objects lone None d x z s t e g = (g.0 ∙ sym (ap (word_of objects) e), g.1, g.2)
left_makes objects lone (Some c) d x z s t e (b, f, g) = (b, e ∙ ap v.Int f, g)

none_some : (x : Value) → None ≡ Some x → ⊥
none_some x e = cc

-- ---- one operand

ints_one : (objects : ℕ → ℕ) (lone : Bool) (operation : OpCode) (p : ℕ) (d : Place) (a : Operand) (y x : Value) (ys : List Slot) (s : State) → option_map v.Int (fold_words operation (y ∷ [])) ≡ Some x → read s a ≡ word_of objects y → MayHold d → CanRead a → IsFit s → s.at ≡ 0x40000000 + p → Reach p (puts (unary_code lone (unary_form operation) d a) ++ ys) s ys (Makes objects lone (unary_cond (unary_form operation)) d x s)
ints_one objects lone operation p d a (v.Int w) x ys s e g m ra f at =
    let z = int_made (words.unary operation w) x e in
    weaker p (puts (unary_code lone (unary_form operation) d a) ++ ys) ys s (λ t h. left_makes objects lone (unary_cond (unary_form operation)) d x z.0 s t z.2 h)
    (unaries lone operation p d a z.0 ys s (ap (words.unary operation) g ∙ z.1) m ra f at)
ints_one objects lone operation p d a v.Null x ys s e g m ra f at = absurd (none_some x e)
ints_one objects lone operation p d a (v.Obj n) x ys s e g m ra f at = absurd (none_some x e)

reference_is : (y x : Value) → reference_in y ≡ Some x → x ≡ y
reference_is (v.Int z) x e = absurd (none_some x e)
reference_is v.Null x e = value_is v.Null x e
  where
    value_is : (a b : Value) → Some a ≡ Some b → b ≡ a
    value_is a b q = cc
reference_is (v.Obj n) x e = value_is (v.Obj n) x e
  where
    value_is : (a b : Value) → Some a ≡ Some b → b ≡ a
    value_is a b q = cc

unary_makes : (objects : ℕ → ℕ) (lone : Bool) (operation : OpCode) (p : ℕ) (d : Place) (a : Operand) (y x : Value) (ys : List Slot) (s : State) → has_unary operation ≡ true → fold operation (y ∷ []) ≡ Some x → read s a ≡ word_of objects y → MayHold d → CanRead a → IsFit s → s.at ≡ 0x40000000 + p → Reach p (puts (unary_code lone (unary_form operation) d a) ++ ys) s ys (Makes objects lone (unary_cond (unary_form operation)) d x s)
unary_makes objects lone code.SameAsR p d a y x ys s h e g m ra f at =
    weaker p (puts (unary_code lone (unary_form code.SameAsR) d a) ++ ys) ys s (λ t k. (k.0 ∙ g ∙ sym (ap (word_of objects) (reference_is y x e)), k.1, k.2)) (copies lone p d a ys s m ra f at)
unary_makes objects lone code.IntIsZero p d a y x ys s h e g m ra f at = ints_one objects lone code.IntIsZero p d a y x ys s e g m ra f at
unary_makes objects lone code.IntIsTrue p d a y x ys s h e g m ra f at = ints_one objects lone code.IntIsTrue p d a y x ys s e g m ra f at
unary_makes objects lone code.IntNeg p d a y x ys s h e g m ra f at = ints_one objects lone code.IntNeg p d a y x ys s e g m ra f at
unary_makes objects lone code.IntInvert p d a y x ys s h e g m ra f at = ints_one objects lone code.IntInvert p d a y x ys s e g m ra f at
unary_makes objects lone code.IntForceGeZero p d a y x ys s h e g m ra f at = ints_one objects lone code.IntForceGeZero p d a y x ys s e g m ra f at
unary_makes objects lone code.SameAsI p d a y x ys s h e g m ra f at = ints_one objects lone code.SameAsI p d a y x ys s e g m ra f at
unary_makes objects lone _ p d a y x ys s h e g m ra f at = absurd (cc)

int_part : (n : ℕ) (o : Option ℤ) (x : Value) → option_map v.Int o ≡ Some x → ((z : ℤ) → x ≡ v.Int z → IsWord z) → IsPart n x
int_part n o x e w = let z = int_made o x e in subst (IsPart n) (sym z.2) (w z.0 z.2)

unary_part : (n : ℕ) (operation : OpCode) (y x : Value) → has_unary operation ≡ true → fold operation (y ∷ []) ≡ Some x → IsPart n y → ((z : ℤ) → x ≡ v.Int z → IsWord z) → IsPart n x
unary_part n code.SameAsR y x h e k w = subst (IsPart n) (sym (reference_is y x e)) k
unary_part n code.IntIsZero y x h e k w = int_part n (fold_words code.IntIsZero (y ∷ [])) x e w
unary_part n code.IntIsTrue y x h e k w = int_part n (fold_words code.IntIsTrue (y ∷ [])) x e w
unary_part n code.IntNeg y x h e k w = int_part n (fold_words code.IntNeg (y ∷ [])) x e w
unary_part n code.IntInvert y x h e k w = int_part n (fold_words code.IntInvert (y ∷ [])) x e w
unary_part n code.IntForceGeZero y x h e k w = int_part n (fold_words code.IntForceGeZero (y ∷ [])) x e w
unary_part n code.SameAsI y x h e k w = int_part n (fold_words code.SameAsI (y ∷ [])) x e w
unary_part n _ y x h e k w = absurd (cc)

unary_performs : (t : Table) (operation : OpCode) (d : Descr) (args : List Arg) (vs : List Value) (w : World) → has_unary operation ≡ true → perform t operation d args vs w ≡ value_done w (fold operation vs)
unary_performs t code.SameAsR d args vs w h = refl
unary_performs t code.IntIsZero d args vs w h = refl
unary_performs t code.IntIsTrue d args vs w h = refl
unary_performs t code.IntNeg d args vs w h = refl
unary_performs t code.IntInvert d args vs w h = refl
unary_performs t code.IntForceGeZero d args vs w h = refl
unary_performs t code.SameAsI d args vs w h = refl
unary_performs t _ d args vs w h = absurd (cc)

-- what an operation of one operand does
abbrev Does : Setting → ℕ → Told → OpCode → BoxId → List Arg → Descr → List OptOp → Opt → List Slot → ℕ → State → Option (List Value) → Type 0
Does c k told operation r args d ops env more p s vs = WordFollows c k operation r args d ops more p s (opt_perform c.table operation (Some r) args d env vs)

unary_does : (c : Setting) (k : ℕ) (told : Told) (operation : OpCode) (r : BoxId) (a : Arg) (d : Descr) (ops : List OptOp) (env : Opt) (more : List Slot) (p : ℕ) (s : State) (y : Value) → ((b : ℕ) → MayHold (c.at b)) → IsApart c.at (opt.Plain operation (Some r) (a ∷ []) d) ops → IsWordArg c.table a → has_unary operation ≡ true → Holds c told (opt.Plain operation (Some r) (a ∷ []) d ∷ ops) env s → s.at ≡ 0x40000000 + p → arg_value (value_in env.boxes) a ≡ Some y → Does c k told operation r (a ∷ []) d ops env more p s (Some (y ∷ []))
unary_does c k told operation r a d ops env more p s y m apart wa hu h at fy =
    subst (λ done. WordFollows c k operation r (a ∷ []) d ops more p s (opt_plain (Some r) env done)) (sym (unary_performs c.table operation d (a ∷ []) (y ∷ []) env.world hu)) (which (fold operation (y ∷ [])) refl)
  where
    which : (o : Option Value) → fold operation (y ∷ []) ≡ o → WordFollows c k operation r (a ∷ []) d ops more p s (opt_plain (Some r) env (value_done env.world o))
    which None e = tt
    which (Some x) e =
        let ad = address_of env.world.objects in
        let lone = is_lone r ops in
        let o = unary_cond (unary_form operation) in
        let ry = arg_is c env s a y h.prebuilts wa (λ b z u f. h.boxes b z (inl (inl (inl u))) f) fy in
        weaker p (puts (unary_code lone (unary_form operation) (c.at r.number) (operand_of c a)) ++ more) more s
        (λ t g. makes_holds c told (is_tested r ops) lone o operation r (a ∷ []) d ops env x s t m apart h
        (unary_part (length env.world.objects) operation y x hu e (arg_part c.table env a y h.prebuilts wa h.values fy) (λ z f. makes_word ad lone o (c.at r.number) x z s t f g))
        (λ l. l) (λ l. lone_tested r ops l) g)
        (unary_makes ad lone operation p (c.at r.number) (operand_of c a) y x more s hu e ry (m r.number) (arg_reads c a m wa) h.fit at)

pub unary_follows : (c : Setting) (k : ℕ) (told : Told) (operation : OpCode) (r : BoxId) (a : Arg) (d : Descr) (ops : List OptOp) (env : Opt) (more : List Slot) (p : ℕ) (s : State) → ((b : ℕ) → MayHold (c.at b)) → IsApart c.at (opt.Plain operation (Some r) (a ∷ []) d) ops → IsWordArg c.table a → has_unary operation ≡ true → has_value a ≡ true → Holds c told (opt.Plain operation (Some r) (a ∷ []) d ∷ ops) env s → s.at ≡ 0x40000000 + p → Does c k told operation r (a ∷ []) d ops env more p s (opt_values env (a ∷ []))
unary_follows c k told operation r a d ops env more p s m apart wa hu va h at = which (one_value (arg_value (value_in env.boxes)) a va)
  where
    which : (all_values (arg_value (value_in env.boxes)) (a ∷ []) ≡ None) ⊎ ((y : Value) × (arg_value (value_in env.boxes) a ≡ Some y) × (all_values (arg_value (value_in env.boxes)) (a ∷ []) ≡ Some (y ∷ []))) → Does c k told operation r (a ∷ []) d ops env more p s (opt_values env (a ∷ []))
    which (inl e) = subst (Does c k told operation r (a ∷ []) d ops env more p s) (sym e) tt
    which (inr (y, fy, e)) = subst (Does c k told operation r (a ∷ []) d ops env more p s) (sym e) (unary_does c k told operation r a d ops env more p s y m apart wa hu h at fy)

-- ---- two operands

ints_two : Relied → (objects : ℕ → ℕ) (lone : Bool) (operation : OpCode) (p : ℕ) (d : Place) (a b : Operand) (y z x : Value) (ys : List Slot) (s : State) → option_map v.Int (fold_words operation (y ∷ z ∷ [])) ≡ Some x → read s a ≡ word_of objects y → read s b ≡ word_of objects z → MayHold d → CanRead a → CanRead b → IsFit s → s.at ≡ 0x40000000 + p → Reach p (puts (binary_code lone (binary_form operation) d a b) ++ ys) s ys (Makes objects lone (binary_cond (binary_form operation)) d x s)
ints_two relied objects lone operation p d a b (v.Int i) (v.Int j) x ys s e ga gb m ra rb f at =
    let z = int_made (words.binary operation i j) x e in
    weaker p (puts (binary_code lone (binary_form operation) d a b) ++ ys) ys s (λ t h. left_makes objects lone (binary_cond (binary_form operation)) d x z.0 s t z.2 h)
    (binaries relied lone operation p d a b z.0 ys s (ap (λ (n : ℤ). words.binary operation n (read s b)) ga ∙ ap (words.binary operation i) gb ∙ z.1) m ra rb f at)
ints_two relied objects lone operation p d a b (v.Int i) v.Null x ys s e ga gb m ra rb f at = absurd (none_some x e)
ints_two relied objects lone operation p d a b (v.Int i) (v.Obj n) x ys s e ga gb m ra rb f at = absurd (none_some x e)
ints_two relied objects lone operation p d a b v.Null z x ys s e ga gb m ra rb f at = absurd (none_some x e)
ints_two relied objects lone operation p d a b (v.Obj n) z x ys s e ga gb m ra rb f at = absurd (none_some x e)

bool_is : (i j : Bool) → Some i ≡ Some j → i ≡ j
bool_is i j q = cc

-- two references that are compared
pub compared_is : (y z : Value) (b : Bool) → compared (y ∷ z ∷ []) ≡ Some b → (is_reference y ≡ true) × (is_reference z ≡ true) × (same_reference y z ≡ b)
compared_is (v.Int i) z b e = absurd (cc)
compared_is v.Null (v.Int j) b e = absurd (cc)
compared_is v.Null v.Null b e = (refl, refl, bool_is (same_reference v.Null v.Null) b e)
compared_is v.Null (v.Obj n) b e = (refl, refl, bool_is (same_reference v.Null (v.Obj n)) b e)
compared_is (v.Obj m) (v.Int j) b e = absurd (cc)
compared_is (v.Obj m) v.Null b e = (refl, refl, bool_is (same_reference (v.Obj m) v.Null) b e)
compared_is (v.Obj m) (v.Obj n) b e = (refl, refl, bool_is (same_reference (v.Obj m) (v.Obj n)) b e)

truth_made : (f : Bool → Value) (o : Option Bool) (x : Value) → option_map f o ≡ Some x → (b : Bool) × (o ≡ Some b) × (x ≡ f b)
truth_made f None x e = absurd (none_some x e)
truth_made f (Some b) x e = (b, refl, value_is (f b) x e)
  where
    value_is : (i j : Value) → Some i ≡ Some j → j ≡ i
    value_is i j q = cc

-- words of references, compared
words_tell : (objects : List Object) (a b : Operand) (y z : Value) (x : Bool) (s : State) → AreTold objects → IsPart (length objects) y → IsPart (length objects) z → read s a ≡ word_of (address_of objects) y → read s b ≡ word_of (address_of objects) z → compared (y ∷ z ∷ []) ≡ Some x → int_eq (read s a) (read s b) ≡ x
words_tell objects a b y z x s told py pz ga gb e =
    let q = compared_is y z x e in
    ap (λ (n : ℤ). int_eq n (read s b)) ga ∙ ap (int_eq (word_of (address_of objects) y)) gb ∙ references_tell objects y z told py pz q.0 q.1 ∙ q.2

truth_is : (lone : Bool) (cond : Cc) (d : Place) (i j : Bool) (s t : State) → i ≡ j → Truth lone cond d i s t → Truth lone cond d j s t
truth_is lone cond d i j s t e g = subst (λ (q : Bool). Truth lone cond d q s t) e g

binary_makes : Relied → (objects : List Object) (lone : Bool) (operation : OpCode) (p : ℕ) (d : Place) (a b : Operand) (y z x : Value) (ys : List Slot) (s : State) → AreTold objects → IsPart (length objects) y → IsPart (length objects) z → has_binary operation ≡ true → fold operation (y ∷ z ∷ []) ≡ Some x → read s a ≡ word_of (address_of objects) y → read s b ≡ word_of (address_of objects) z → MayHold d → CanRead a → CanRead b → IsFit s → s.at ≡ 0x40000000 + p → Reach p (puts (binary_code lone (binary_form operation) d a b) ++ ys) s ys (Makes (address_of objects) lone (binary_cond (binary_form operation)) d x s)
binary_makes relied objects lone code.PtrEq p d a b y z x ys s told py pz h e ga gb m ra rb f at =
    let q = truth_made (λ i. v.Int (truth i)) (compared (y ∷ z ∷ [])) x e in
    weaker p (puts (binary_code lone (binary_form code.PtrEq) d a b) ++ ys) ys s (λ t g. (q.0, q.2, truth_is lone cc_is.E d _ q.0 s t (words_tell objects a b y z q.0 s told py pz ga gb q.1) g)) (equals lone p d a b ys s m ra rb f at)
binary_makes relied objects lone code.PtrNe p d a b y z x ys s told py pz h e ga gb m ra rb f at =
    let q = truth_made (λ i. v.Int (truth (not i))) (compared (y ∷ z ∷ [])) x e in
    weaker p (puts (binary_code lone (binary_form code.PtrNe) d a b) ++ ys) ys s (λ t g. (not q.0, q.2, truth_is lone cc_is.Ne d _ (not q.0) s t (ap not (words_tell objects a b y z q.0 s told py pz ga gb q.1)) g)) (differs lone p d a b ys s m ra rb f at)
binary_makes relied objects lone code.IntAdd p d a b y z x ys s told py pz h e ga gb m ra rb f at = ints_two relied (address_of objects) lone code.IntAdd p d a b y z x ys s e ga gb m ra rb f at
binary_makes relied objects lone code.IntSub p d a b y z x ys s told py pz h e ga gb m ra rb f at = ints_two relied (address_of objects) lone code.IntSub p d a b y z x ys s e ga gb m ra rb f at
binary_makes relied objects lone code.IntMul p d a b y z x ys s told py pz h e ga gb m ra rb f at = ints_two relied (address_of objects) lone code.IntMul p d a b y z x ys s e ga gb m ra rb f at
binary_makes relied objects lone code.IntAnd p d a b y z x ys s told py pz h e ga gb m ra rb f at = ints_two relied (address_of objects) lone code.IntAnd p d a b y z x ys s e ga gb m ra rb f at
binary_makes relied objects lone code.IntOr p d a b y z x ys s told py pz h e ga gb m ra rb f at = ints_two relied (address_of objects) lone code.IntOr p d a b y z x ys s e ga gb m ra rb f at
binary_makes relied objects lone code.IntXor p d a b y z x ys s told py pz h e ga gb m ra rb f at = ints_two relied (address_of objects) lone code.IntXor p d a b y z x ys s e ga gb m ra rb f at
binary_makes relied objects lone code.IntLshift p d a b y z x ys s told py pz h e ga gb m ra rb f at = ints_two relied (address_of objects) lone code.IntLshift p d a b y z x ys s e ga gb m ra rb f at
binary_makes relied objects lone code.IntRshift p d a b y z x ys s told py pz h e ga gb m ra rb f at = ints_two relied (address_of objects) lone code.IntRshift p d a b y z x ys s e ga gb m ra rb f at
binary_makes relied objects lone code.UintRshift p d a b y z x ys s told py pz h e ga gb m ra rb f at = ints_two relied (address_of objects) lone code.UintRshift p d a b y z x ys s e ga gb m ra rb f at
binary_makes relied objects lone code.IntLt p d a b y z x ys s told py pz h e ga gb m ra rb f at = ints_two relied (address_of objects) lone code.IntLt p d a b y z x ys s e ga gb m ra rb f at
binary_makes relied objects lone code.IntLe p d a b y z x ys s told py pz h e ga gb m ra rb f at = ints_two relied (address_of objects) lone code.IntLe p d a b y z x ys s e ga gb m ra rb f at
binary_makes relied objects lone code.IntEq p d a b y z x ys s told py pz h e ga gb m ra rb f at = ints_two relied (address_of objects) lone code.IntEq p d a b y z x ys s e ga gb m ra rb f at
binary_makes relied objects lone code.IntNe p d a b y z x ys s told py pz h e ga gb m ra rb f at = ints_two relied (address_of objects) lone code.IntNe p d a b y z x ys s e ga gb m ra rb f at
binary_makes relied objects lone code.IntGt p d a b y z x ys s told py pz h e ga gb m ra rb f at = ints_two relied (address_of objects) lone code.IntGt p d a b y z x ys s e ga gb m ra rb f at
binary_makes relied objects lone code.IntGe p d a b y z x ys s told py pz h e ga gb m ra rb f at = ints_two relied (address_of objects) lone code.IntGe p d a b y z x ys s e ga gb m ra rb f at
binary_makes relied objects lone code.UintLt p d a b y z x ys s told py pz h e ga gb m ra rb f at = ints_two relied (address_of objects) lone code.UintLt p d a b y z x ys s e ga gb m ra rb f at
binary_makes relied objects lone code.UintLe p d a b y z x ys s told py pz h e ga gb m ra rb f at = ints_two relied (address_of objects) lone code.UintLe p d a b y z x ys s e ga gb m ra rb f at
binary_makes relied objects lone code.UintGt p d a b y z x ys s told py pz h e ga gb m ra rb f at = ints_two relied (address_of objects) lone code.UintGt p d a b y z x ys s e ga gb m ra rb f at
binary_makes relied objects lone code.UintGe p d a b y z x ys s told py pz h e ga gb m ra rb f at = ints_two relied (address_of objects) lone code.UintGe p d a b y z x ys s e ga gb m ra rb f at
binary_makes relied objects lone code.IntAddOvf p d a b y z x ys s told py pz h e ga gb m ra rb f at = ints_two relied (address_of objects) lone code.IntAddOvf p d a b y z x ys s e ga gb m ra rb f at
binary_makes relied objects lone code.IntSubOvf p d a b y z x ys s told py pz h e ga gb m ra rb f at = ints_two relied (address_of objects) lone code.IntSubOvf p d a b y z x ys s e ga gb m ra rb f at
binary_makes relied objects lone code.IntMulOvf p d a b y z x ys s told py pz h e ga gb m ra rb f at = ints_two relied (address_of objects) lone code.IntMulOvf p d a b y z x ys s e ga gb m ra rb f at
binary_makes relied objects lone _ p d a b y z x ys s told py pz h e ga gb m ra rb f at = absurd (cc)

binary_part : (n : ℕ) (operation : OpCode) (y z x : Value) → has_binary operation ≡ true → fold operation (y ∷ z ∷ []) ≡ Some x → ((i : ℤ) → x ≡ v.Int i → IsWord i) → IsPart n x
binary_part n code.PtrEq y z x h e w = let q = truth_made (λ i. v.Int (truth i)) (compared (y ∷ z ∷ [])) x e in subst (IsPart n) (sym q.2) (w (truth q.0) q.2)
binary_part n code.PtrNe y z x h e w = let q = truth_made (λ i. v.Int (truth (not i))) (compared (y ∷ z ∷ [])) x e in subst (IsPart n) (sym q.2) (w (truth (not q.0)) q.2)
binary_part n code.IntAdd y z x h e w = int_part n (fold_words code.IntAdd (y ∷ z ∷ [])) x e w
binary_part n code.IntSub y z x h e w = int_part n (fold_words code.IntSub (y ∷ z ∷ [])) x e w
binary_part n code.IntMul y z x h e w = int_part n (fold_words code.IntMul (y ∷ z ∷ [])) x e w
binary_part n code.IntAnd y z x h e w = int_part n (fold_words code.IntAnd (y ∷ z ∷ [])) x e w
binary_part n code.IntOr y z x h e w = int_part n (fold_words code.IntOr (y ∷ z ∷ [])) x e w
binary_part n code.IntXor y z x h e w = int_part n (fold_words code.IntXor (y ∷ z ∷ [])) x e w
binary_part n code.IntLshift y z x h e w = int_part n (fold_words code.IntLshift (y ∷ z ∷ [])) x e w
binary_part n code.IntRshift y z x h e w = int_part n (fold_words code.IntRshift (y ∷ z ∷ [])) x e w
binary_part n code.UintRshift y z x h e w = int_part n (fold_words code.UintRshift (y ∷ z ∷ [])) x e w
binary_part n code.IntLt y z x h e w = int_part n (fold_words code.IntLt (y ∷ z ∷ [])) x e w
binary_part n code.IntLe y z x h e w = int_part n (fold_words code.IntLe (y ∷ z ∷ [])) x e w
binary_part n code.IntEq y z x h e w = int_part n (fold_words code.IntEq (y ∷ z ∷ [])) x e w
binary_part n code.IntNe y z x h e w = int_part n (fold_words code.IntNe (y ∷ z ∷ [])) x e w
binary_part n code.IntGt y z x h e w = int_part n (fold_words code.IntGt (y ∷ z ∷ [])) x e w
binary_part n code.IntGe y z x h e w = int_part n (fold_words code.IntGe (y ∷ z ∷ [])) x e w
binary_part n code.UintLt y z x h e w = int_part n (fold_words code.UintLt (y ∷ z ∷ [])) x e w
binary_part n code.UintLe y z x h e w = int_part n (fold_words code.UintLe (y ∷ z ∷ [])) x e w
binary_part n code.UintGt y z x h e w = int_part n (fold_words code.UintGt (y ∷ z ∷ [])) x e w
binary_part n code.UintGe y z x h e w = int_part n (fold_words code.UintGe (y ∷ z ∷ [])) x e w
binary_part n code.IntAddOvf y z x h e w = int_part n (fold_words code.IntAddOvf (y ∷ z ∷ [])) x e w
binary_part n code.IntSubOvf y z x h e w = int_part n (fold_words code.IntSubOvf (y ∷ z ∷ [])) x e w
binary_part n code.IntMulOvf y z x h e w = int_part n (fold_words code.IntMulOvf (y ∷ z ∷ [])) x e w
binary_part n _ y z x h e w = absurd (cc)

binary_performs : (t : Table) (operation : OpCode) (d : Descr) (args : List Arg) (vs : List Value) (w : World) → has_binary operation ≡ true → is_overflowing operation ≡ false → perform t operation d args vs w ≡ value_done w (fold operation vs)
binary_performs t code.IntAdd d args vs w h o = refl
binary_performs t code.IntSub d args vs w h o = refl
binary_performs t code.IntMul d args vs w h o = refl
binary_performs t code.IntAnd d args vs w h o = refl
binary_performs t code.IntOr d args vs w h o = refl
binary_performs t code.IntXor d args vs w h o = refl
binary_performs t code.IntLshift d args vs w h o = refl
binary_performs t code.IntRshift d args vs w h o = refl
binary_performs t code.UintRshift d args vs w h o = refl
binary_performs t code.IntLt d args vs w h o = refl
binary_performs t code.IntLe d args vs w h o = refl
binary_performs t code.IntEq d args vs w h o = refl
binary_performs t code.IntNe d args vs w h o = refl
binary_performs t code.IntGt d args vs w h o = refl
binary_performs t code.IntGe d args vs w h o = refl
binary_performs t code.UintLt d args vs w h o = refl
binary_performs t code.UintLe d args vs w h o = refl
binary_performs t code.UintGt d args vs w h o = refl
binary_performs t code.UintGe d args vs w h o = refl
binary_performs t code.PtrEq d args vs w h o = refl
binary_performs t code.PtrNe d args vs w h o = refl
binary_performs t _ d args vs w h o = absurd (cc)

binary_does : (c : Setting) (k : ℕ) (told : Told) (operation : OpCode) (r : BoxId) (a b : Arg) (d : Descr) (ops : List OptOp) (env : Opt) (more : List Slot) (p : ℕ) (s : State) (y z : Value) → Relied → ((b : ℕ) → MayHold (c.at b)) → IsApart c.at (opt.Plain operation (Some r) (a ∷ b ∷ []) d) ops → IsWordArg c.table a → IsWordArg c.table b → has_binary operation ≡ true → is_overflowing operation ≡ false → Holds c told (opt.Plain operation (Some r) (a ∷ b ∷ []) d ∷ ops) env s → s.at ≡ 0x40000000 + p → arg_value (value_in env.boxes) a ≡ Some y → arg_value (value_in env.boxes) b ≡ Some z → Does c k told operation r (a ∷ b ∷ []) d ops env more p s (Some (y ∷ z ∷ []))
binary_does c k told operation r a b d ops env more p s y z relied m apart wa wb hb plain h at fy fz =
    subst (λ done. WordFollows c k operation r (a ∷ b ∷ []) d ops more p s (opt_plain (Some r) env done)) (sym (binary_performs c.table operation d (a ∷ b ∷ []) (y ∷ z ∷ []) env.world hb plain)) (which (fold operation (y ∷ z ∷ [])) refl)
  where
    which : (o : Option Value) → fold operation (y ∷ z ∷ []) ≡ o → WordFollows c k operation r (a ∷ b ∷ []) d ops more p s (opt_plain (Some r) env (value_done env.world o))
    which None e = tt
    which (Some x) e =
        let objects = env.world.objects in
        let ad = address_of objects in
        let lone = is_lone r ops in
        let o = binary_cond (binary_form operation) in
        let ry = arg_is c env s a y h.prebuilts wa (λ q i u f. h.boxes q i (inl (inl (inl u))) f) fy in
        let rz = arg_is c env s b z h.prebuilts wb (λ q i u f. h.boxes q i (inl (inl (inr (inl u)))) f) fz in
        weaker p (puts (binary_code lone (binary_form operation) (c.at r.number) (operand_of c a) (operand_of c b)) ++ more) more s
        (λ t g. subst (λ (n : Bool). Holds c (told_over n (told_if (is_tested r ops) o r)) ops (with_result r x env.world env) t × SameArena s t) (sym plain)
        (makes_holds c told (is_tested r ops) lone o operation r (a ∷ b ∷ []) d ops env x s t m apart h
        (binary_part (length objects) operation y z x hb e (λ i f. makes_word ad lone o (c.at r.number) x i s t f g))
        (λ l. l) (λ l. lone_tested r ops l) g))
        (binary_makes relied objects lone operation p (c.at r.number) (operand_of c a) (operand_of c b) y z x more s (are_told relied.apart c.table objects s.arena h.arena)
        (arg_part c.table env a y h.prebuilts wa h.values fy) (arg_part c.table env b z h.prebuilts wb h.values fz) hb e ry rz (m r.number) (arg_reads c a m wa) (arg_reads c b m wb) h.fit at)

-- ---- operations that may overflow

over_holds : (c : Setting) (told : Told) (operation : OpCode) (r : BoxId) (args : List Arg) (d : Descr) (ops : List OptOp) (env : Opt) (z : ℤ) (s t : State)
    → ((b : ℕ) → MayHold (c.at b)) → IsApart c.at (opt.Plain operation (Some r) args d) ops → Holds c told (opt.Plain operation (Some r) args d ∷ ops) env s → GivesOver (c.at r.number) (wrap z) (Some (overflows z)) s t → Holds c tell.Overflow ops (with_result r (v.Int (wrap z)) (record env.world { overflow = overflows z }) env) t × SameArena s t
over_holds c told operation r args d ops env z s t m apart h (g, o) =
    gives_holds c told tell.Overflow operation r args d ops env (v.Int (wrap z)) (record env.world { overflow = overflows z }) s t m apart h refl (subst IsWord g.0 (g.2.words (c.at r.number))) g o

over_done : (c : Setting) (k : ℕ) (told : Told) (operation : OpCode) (r : BoxId) (a b : Arg) (d : Descr) (ops : List OptOp) (env : Opt) (more : List Slot) (p : ℕ) (s : State) (i j : ℤ) (exact : ℤ → ℤ → ℤ) → ((b : ℕ) → MayHold (c.at b)) → IsApart c.at (opt.Plain operation (Some r) (a ∷ b ∷ []) d) ops → IsWordArg c.table a → IsWordArg c.table b → Holds c told (opt.Plain operation (Some r) (a ∷ b ∷ []) d ∷ ops) env s → arg_value (value_in env.boxes) a ≡ Some (v.Int i) → arg_value (value_in env.boxes) b ≡ Some (v.Int j)
    → Reach p (puts (binary_code (is_lone r ops) (binary_form operation) (c.at r.number) (operand_of c a) (operand_of c b)) ++ more) s more (GivesOver (c.at r.number) (wrap (exact (read s (operand_of c a)) (read s (operand_of c b)))) (Some (overflows (exact (read s (operand_of c a)) (read s (operand_of c b))))) s)
    → Reach p (puts (binary_code (is_lone r ops) (binary_form operation) (c.at r.number) (operand_of c a) (operand_of c b)) ++ more) s more (λ t. Holds c tell.Overflow ops (with_result r (v.Int (wrap (exact i j))) (record env.world { overflow = overflows (exact i j) }) env) t × SameArena s t)
over_done c k told operation r a b d ops env more p s i j exact m apart wa wb h fy fz go =
    let ry = arg_is c env s a (v.Int i) h.prebuilts wa (λ q x u f. h.boxes q x (inl (inl (inl u))) f) fy in
    let rz = arg_is c env s b (v.Int j) h.prebuilts wb (λ q x u f. h.boxes q x (inl (inl (inr (inl u)))) f) fz in
    let e : exact (read s (operand_of c a)) (read s (operand_of c b)) ≡ exact i j = ap (λ (n : ℤ). exact n (read s (operand_of c b))) ry ∙ ap (exact i) rz in
    weaker p (puts (binary_code (is_lone r ops) (binary_form operation) (c.at r.number) (operand_of c a) (operand_of c b)) ++ more) more s
    (λ t g. over_holds c told operation r (a ∷ b ∷ []) d ops env (exact i j) s t m apart h (subst (λ (n : ℤ). GivesOver (c.at r.number) (wrap n) (Some (overflows n)) s t) e g)) go

over_does : (c : Setting) (k : ℕ) (told : Told) (operation : OpCode) (r : BoxId) (a b : Arg) (d : Descr) (ops : List OptOp) (env : Opt) (more : List Slot) (p : ℕ) (s : State) (y z : Value) → ((b : ℕ) → MayHold (c.at b)) → IsApart c.at (opt.Plain operation (Some r) (a ∷ b ∷ []) d) ops → IsWordArg c.table a → IsWordArg c.table b → has_binary operation ≡ true → is_overflowing operation ≡ true → Holds c told (opt.Plain operation (Some r) (a ∷ b ∷ []) d ∷ ops) env s → s.at ≡ 0x40000000 + p → arg_value (value_in env.boxes) a ≡ Some y → arg_value (value_in env.boxes) b ≡ Some z → Does c k told operation r (a ∷ b ∷ []) d ops env more p s (Some (y ∷ z ∷ []))
over_does c k told code.IntAddOvf r a b d ops env more p s (v.Int i) (v.Int j) m apart wa wb hb over h at fy fz =
    over_done c k told code.IntAddOvf r a b d ops env more p s i j (λ x n. x +ℤ n) m apart wa wb h fy fz (adds_over (is_lone r ops) p (c.at r.number) (operand_of c a) (operand_of c b) more s (m r.number) (arg_reads c a m wa) (arg_reads c b m wb) h.fit at)
over_does c k told code.IntSubOvf r a b d ops env more p s (v.Int i) (v.Int j) m apart wa wb hb over h at fy fz =
    over_done c k told code.IntSubOvf r a b d ops env more p s i j (λ x n. x -ℤ n) m apart wa wb h fy fz (subs_over (is_lone r ops) p (c.at r.number) (operand_of c a) (operand_of c b) more s (m r.number) (arg_reads c a m wa) (arg_reads c b m wb) h.fit at)
over_does c k told code.IntMulOvf r a b d ops env more p s (v.Int i) (v.Int j) m apart wa wb hb over h at fy fz =
    over_done c k told code.IntMulOvf r a b d ops env more p s i j (λ x n. x *ℤ n) m apart wa wb h fy fz (muls_over (is_lone r ops) p (c.at r.number) (operand_of c a) (operand_of c b) more s (m r.number) (arg_reads c a m wa) (arg_reads c b m wb) h.fit at)
over_does c k told code.IntAddOvf r a b d ops env more p s (v.Int i) v.Null m apart wa wb hb over h at fy fz = tt
over_does c k told code.IntAddOvf r a b d ops env more p s (v.Int i) (v.Obj n) m apart wa wb hb over h at fy fz = tt
over_does c k told code.IntAddOvf r a b d ops env more p s v.Null z m apart wa wb hb over h at fy fz = tt
over_does c k told code.IntAddOvf r a b d ops env more p s (v.Obj n) z m apart wa wb hb over h at fy fz = tt
over_does c k told code.IntSubOvf r a b d ops env more p s (v.Int i) v.Null m apart wa wb hb over h at fy fz = tt
over_does c k told code.IntSubOvf r a b d ops env more p s (v.Int i) (v.Obj n) m apart wa wb hb over h at fy fz = tt
over_does c k told code.IntSubOvf r a b d ops env more p s v.Null z m apart wa wb hb over h at fy fz = tt
over_does c k told code.IntSubOvf r a b d ops env more p s (v.Obj n) z m apart wa wb hb over h at fy fz = tt
over_does c k told code.IntMulOvf r a b d ops env more p s (v.Int i) v.Null m apart wa wb hb over h at fy fz = tt
over_does c k told code.IntMulOvf r a b d ops env more p s (v.Int i) (v.Obj n) m apart wa wb hb over h at fy fz = tt
over_does c k told code.IntMulOvf r a b d ops env more p s v.Null z m apart wa wb hb over h at fy fz = tt
over_does c k told code.IntMulOvf r a b d ops env more p s (v.Obj n) z m apart wa wb hb over h at fy fz = tt
over_does c k told _ r a b d ops env more p s y z m apart wa wb hb over h at fy fz = absurd (cc)

pub binary_follows : (c : Setting) (k : ℕ) (told : Told) (operation : OpCode) (r : BoxId) (a b : Arg) (d : Descr) (ops : List OptOp) (env : Opt) (more : List Slot) (p : ℕ) (s : State) → Relied → ((b : ℕ) → MayHold (c.at b)) → IsApart c.at (opt.Plain operation (Some r) (a ∷ b ∷ []) d) ops → IsWordArg c.table a → IsWordArg c.table b → has_binary operation ≡ true → has_value a ≡ true → has_value b ≡ true → Holds c told (opt.Plain operation (Some r) (a ∷ b ∷ []) d ∷ ops) env s → s.at ≡ 0x40000000 + p → Does c k told operation r (a ∷ b ∷ []) d ops env more p s (opt_values env (a ∷ b ∷ []))
binary_follows c k told operation r a b d ops env more p s relied m apart wa wb hb va vb h at = which (two_values (arg_value (value_in env.boxes)) a b va vb)
  where
    does : (y z : Value) (o : Bool) → is_overflowing operation ≡ o → arg_value (value_in env.boxes) a ≡ Some y → arg_value (value_in env.boxes) b ≡ Some z → Does c k told operation r (a ∷ b ∷ []) d ops env more p s (Some (y ∷ z ∷ []))
    does y z true e fy fz = over_does c k told operation r a b d ops env more p s y z m apart wa wb hb e h at fy fz
    does y z false e fy fz = binary_does c k told operation r a b d ops env more p s y z relied m apart wa wb hb e h at fy fz

    which : (all_values (arg_value (value_in env.boxes)) (a ∷ b ∷ []) ≡ None) ⊎ ((y : Value) × (z : Value) × (arg_value (value_in env.boxes) a ≡ Some y) × (arg_value (value_in env.boxes) b ≡ Some z) × (all_values (arg_value (value_in env.boxes)) (a ∷ b ∷ []) ≡ Some (y ∷ z ∷ []))) → Does c k told operation r (a ∷ b ∷ []) d ops env more p s (opt_values env (a ∷ b ∷ []))
    which (inl e) = subst (Does c k told operation r (a ∷ b ∷ []) d ops env more p s) (sym e) tt
    which (inr (y, z, fy, fz, e)) = subst (Does c k told operation r (a ∷ b ∷ []) d ops env more p s) (sym e) (does y z (is_overflowing operation) refl fy fz)
