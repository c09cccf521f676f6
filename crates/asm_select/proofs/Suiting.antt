-- Sound pieces are such as selection asks for.
use Rattle.std.proofs.Common.{◌≡◌, ◌⊎◌, ◌<◌, ◌^◌, length, map, inr, ℕ, suc, Bool, true, false, List, [], ◌∷◌, Option, Some, None, IsTrue, refl, sym, ap, ◌∙◌, arith, subst, inl, ◌+◌}
use Rattle.std.specs.Prelude.{◌||◌, slice_get, IsSome, IsSomeAnd}
use Rattle.std.specs.Option.{option_map}
use Rattle.std.specs.List.{All, Contains}
use Rattle.std.proofs.lemmas.Option.{slice_get_within, get_or_from_slice_get}
use Rattle.trace_ops.specs.declared.code.OpCode.{OpCode}
use Rattle.trace_ops.specs.declared.code.OpCode.TheVariants as code
use Rattle.trace_ops.specs.declared.facts.Want.{Want}
use Rattle.trace_ops.specs.declared.facts.Want.TheVariants as want
use Rattle.trace_ops.specs.declared.facts.Takes.TheVariants as takes
use Rattle.trace_ops.specs.declared.table.Table.{Table}
use Rattle.trace_ops.specs.declared.trace.Kind.{Kind}
use Rattle.trace_ops.specs.declared.trace.Kind.TheVariants as kind
use Rattle.trace_ops.specs.declared.trace.BoxId.{BoxId}
use Rattle.trace_ops.specs.declared.trace.Arg.{Arg}
use Rattle.trace_ops.specs.declared.trace.Arg.TheVariants.{Of, Const, Null, Class, Func, Ptr}
use Rattle.trace_ops.specs.declared.trace.Descr.{Descr}
use Rattle.trace_ops.specs.declared.trace.Descr.TheVariants as descr
use Rattle.trace_ops.specs.declared.piece.PieceId.{PieceId}
use Rattle.trace_ops.specs.declared.piece.OptOp.{OptOp}
use Rattle.trace_ops.specs.declared.piece.OptOp.TheVariants as opt
use Rattle.trace_ops.specs.declared.piece.Piece.{Piece}
use Rattle.trace_ops.specs.declared.trace.TraceSet.{TraceSet}
use Rattle.trace_ops.specs.Sound.{IsSound}
use Rattle.trace_ops.specs.Classes.{is_guard, is_overflowing, is_plain}
use Rattle.trace_ops.specs.Facts.{takes_of}
use Rattle.trace_ops.specs.Fits.{FitArgs, IsWanted, IsOfKind, kind_stored, AreCompared, FitsDescr, HasVtable, FitsOperation}
use Rattle.trace_ops.specs.InRange.{IsTableInRange, StandsOnce}
use Rattle.trace_ops.specs.declared.facts.Cites.TheVariants as cites
use Rattle.trace_ops.specs.declared.table.ShapeOf.{ShapeOf}
use Rattle.trace_ops.specs.declared.table.ShapeOf.TheVariants.{Size, Array}
use Rattle.trace_ops.specs.declared.table.ArrayRow.{ArrayRow}
use Rattle.trace_ops.specs.declared.table.CallRow.{CallRow}
use Rattle.trace_ops.specs.declared.piece.Spot.TheVariants as spot
use Rattle.arena_objects.specs.Spots.{spot_offset}
use Rattle.asm_select.specs.declared.form.Access.TheVariants as access
use Rattle.trace_ops.specs.Kinds.{kind_of_arg, kind_of_item}
use Rattle.trace_ops.specs.Pieces.{finished, HasItsCode, FitsTable, sets_overflow, tests_overflow}
use Rattle.trace_meaning.specs.Boxes.{has_value}
use Rattle.asm_select.specs.declared.form.Access.{Access}
use Rattle.asm_select.specs.declared.told.Told.{Told}
use Rattle.asm_select.specs.declared.told.Told.TheVariants as tell
use Rattle.asm_select.specs.Chosen.{Setting, for_call, access_form, binary_form, binary_cond, is_tested, told_if, told_over, told_by}
use Rattle.asm_select.specs.Reached.{HasWords}
use Rattle.asm_select.specs.Ended.{has_unary, has_binary, AreGuarded, IsPlain, AreValued, IsPlainHere, IsGuardHere, AreMoved, IsAccess, IsHere}
use Rattle.asm_select.specs.Asked.{IsAskedAs, IsAskedIf, IsAsked, AreChosen}
use Rattle.asm_select.proofs.Tables.{tables_serve}
use Rattle.asm_select.specs.Suited.{SoundPiecesSuit}

-- ---- arguments that have values

kind_value : (a : Arg) (k : Kind) → kind_of_arg a ≡ Some k → has_value a ≡ true
kind_value (Of b) k e = refl
kind_value (Const z) k e = refl
kind_value Null k e = refl
kind_value (Class n) k e = absurd (cc)
kind_value (Func n) k e = absurd (cc)
kind_value (Ptr n) k e = refl

some_value : (a : Arg) → IsSome (kind_of_arg a) → has_value a ≡ true
some_value (Of b) e = refl
some_value (Const z) e = refl
some_value Null e = refl
some_value (Class n) e = absurd (cc)
some_value (Func n) e = absurd (cc)
some_value (Ptr n) e = refl

all_values : (args : List Arg) → All (λ (a : Arg). IsSome (kind_of_arg a)) args → AreValued args
all_values [] h = tt
all_values (a ∷ args) h = (some_value a (h 0 a (omega arith)), all_values args (λ n x lt. h (suc n) x (omega (arith, lt))))

compared_second : (k : Option Kind) (b : Arg) → AreCompared k b → has_value b ≡ true
compared_second None b h = absurd h
compared_second (Some kind.Int) (Const z) h = refl
compared_second (Some kind.Ref) Null h = refl
compared_second (Some kind.Ref) (Ptr n) h = refl
compared_second _ _ h = absurd h

compared_first : (a b : Arg) → AreCompared (kind_of_arg a) b → has_value a ≡ true
compared_first (Of x) b h = refl
compared_first (Const z) b h = refl
compared_first Null b h = refl
compared_first (Class n) b h = absurd h
compared_first (Func n) b h = absurd h
compared_first (Ptr n) b h = refl

-- ---- operations

abbrev Suits : OpCode → Option BoxId → List Arg → Type 0
Suits operation r args = IsPlainHere operation r args × AreValued args

one_suits : (t : Table) (operation : OpCode) (w : Want) (k : Kind) (r : Option BoxId) (args : List Arg) (d : Descr) → ((a : Arg) → IsWanted t d w a → has_value a ≡ true) → IsTrue (has_unary operation) → FitArgs t d (takes.One w) args → option_map (λ (b : BoxId). b.kind) r ≡ Some k → Suits operation r args
one_suits t operation w k None args d v h f g = absurd (cc)
one_suits t operation w k (Some r) [] d v h f g = absurd f
one_suits t operation w k (Some r) (a ∷ []) d v h f g = (h, (v a f, tt))
one_suits t operation w k (Some r) (a ∷ b ∷ more) d v h f g = absurd f

two_suits : (t : Table) (operation : OpCode) (w : Want) (k : Kind) (r : Option BoxId) (args : List Arg) (d : Descr) → ((a : Arg) → IsWanted t d w a → has_value a ≡ true) → IsTrue (has_binary operation) → FitArgs t d (takes.Two w w) args → option_map (λ (b : BoxId). b.kind) r ≡ Some k → Suits operation r args
two_suits t operation w k None args d v h f g = absurd (cc)
two_suits t operation w k (Some r) [] d v h f g = absurd f
two_suits t operation w k (Some r) (a ∷ []) d v h f g = absurd f
two_suits t operation w k (Some r) (a ∷ b ∷ []) d v h f g = (h, (v a f.0, (v b f.1, tt)))
two_suits t operation w k (Some r) (a ∷ b ∷ c ∷ more) d v h f g = absurd f

int_value : (t : Table) (d : Descr) (a : Arg) → IsWanted t d want.Int a → has_value a ≡ true
int_value t d a h = kind_value a kind.Int h

ref_value : (t : Table) (d : Descr) (a : Arg) → IsWanted t d want.Ref a → has_value a ≡ true
ref_value t d a h = kind_value a kind.Ref h

plain_suits : (t : Table) (operation : OpCode) (r : Option BoxId) (args : List Arg) (d : Descr) → IsTrue (has_unary operation || has_binary operation) → FitsOperation t operation r args d → Suits operation r args
plain_suits t code.IntIsZero r args d h f = one_suits t code.IntIsZero want.Int kind.Int r args d (int_value t d) refl f.arguments f.gives
plain_suits t code.IntIsTrue r args d h f = one_suits t code.IntIsTrue want.Int kind.Int r args d (int_value t d) refl f.arguments f.gives
plain_suits t code.IntNeg r args d h f = one_suits t code.IntNeg want.Int kind.Int r args d (int_value t d) refl f.arguments f.gives
plain_suits t code.IntInvert r args d h f = one_suits t code.IntInvert want.Int kind.Int r args d (int_value t d) refl f.arguments f.gives
plain_suits t code.IntForceGeZero r args d h f = one_suits t code.IntForceGeZero want.Int kind.Int r args d (int_value t d) refl f.arguments f.gives
plain_suits t code.SameAsI r args d h f = one_suits t code.SameAsI want.Int kind.Int r args d (int_value t d) refl f.arguments f.gives
plain_suits t code.SameAsR r args d h f = one_suits t code.SameAsR want.Ref kind.Ref r args d (ref_value t d) refl f.arguments f.gives
plain_suits t code.IntAdd r args d h f = two_suits t code.IntAdd want.Int kind.Int r args d (int_value t d) refl f.arguments f.gives
plain_suits t code.IntSub r args d h f = two_suits t code.IntSub want.Int kind.Int r args d (int_value t d) refl f.arguments f.gives
plain_suits t code.IntMul r args d h f = two_suits t code.IntMul want.Int kind.Int r args d (int_value t d) refl f.arguments f.gives
plain_suits t code.IntAnd r args d h f = two_suits t code.IntAnd want.Int kind.Int r args d (int_value t d) refl f.arguments f.gives
plain_suits t code.IntOr r args d h f = two_suits t code.IntOr want.Int kind.Int r args d (int_value t d) refl f.arguments f.gives
plain_suits t code.IntXor r args d h f = two_suits t code.IntXor want.Int kind.Int r args d (int_value t d) refl f.arguments f.gives
plain_suits t code.IntLshift r args d h f = two_suits t code.IntLshift want.Int kind.Int r args d (int_value t d) refl f.arguments f.gives
plain_suits t code.IntRshift r args d h f = two_suits t code.IntRshift want.Int kind.Int r args d (int_value t d) refl f.arguments f.gives
plain_suits t code.UintRshift r args d h f = two_suits t code.UintRshift want.Int kind.Int r args d (int_value t d) refl f.arguments f.gives
plain_suits t code.IntLt r args d h f = two_suits t code.IntLt want.Int kind.Int r args d (int_value t d) refl f.arguments f.gives
plain_suits t code.IntLe r args d h f = two_suits t code.IntLe want.Int kind.Int r args d (int_value t d) refl f.arguments f.gives
plain_suits t code.IntEq r args d h f = two_suits t code.IntEq want.Int kind.Int r args d (int_value t d) refl f.arguments f.gives
plain_suits t code.IntNe r args d h f = two_suits t code.IntNe want.Int kind.Int r args d (int_value t d) refl f.arguments f.gives
plain_suits t code.IntGt r args d h f = two_suits t code.IntGt want.Int kind.Int r args d (int_value t d) refl f.arguments f.gives
plain_suits t code.IntGe r args d h f = two_suits t code.IntGe want.Int kind.Int r args d (int_value t d) refl f.arguments f.gives
plain_suits t code.UintLt r args d h f = two_suits t code.UintLt want.Int kind.Int r args d (int_value t d) refl f.arguments f.gives
plain_suits t code.UintLe r args d h f = two_suits t code.UintLe want.Int kind.Int r args d (int_value t d) refl f.arguments f.gives
plain_suits t code.UintGt r args d h f = two_suits t code.UintGt want.Int kind.Int r args d (int_value t d) refl f.arguments f.gives
plain_suits t code.UintGe r args d h f = two_suits t code.UintGe want.Int kind.Int r args d (int_value t d) refl f.arguments f.gives
plain_suits t code.IntAddOvf r args d h f = two_suits t code.IntAddOvf want.Int kind.Int r args d (int_value t d) refl f.arguments f.gives
plain_suits t code.IntSubOvf r args d h f = two_suits t code.IntSubOvf want.Int kind.Int r args d (int_value t d) refl f.arguments f.gives
plain_suits t code.IntMulOvf r args d h f = two_suits t code.IntMulOvf want.Int kind.Int r args d (int_value t d) refl f.arguments f.gives
plain_suits t code.PtrEq r args d h f = two_suits t code.PtrEq want.Ref kind.Int r args d (ref_value t d) refl f.arguments f.gives
plain_suits t code.PtrNe r args d h f = two_suits t code.PtrNe want.Ref kind.Int r args d (ref_value t d) refl f.arguments f.gives
plain_suits t _ r args d h f = absurd (cc)

-- ---- guards

one_guard : (t : Table) (operation : OpCode) (w : Want) (args : List Arg) → ((a : Arg) → IsWanted t descr.No w a → has_value a ≡ true) → ((a : Arg) → IsGuardHere operation (a ∷ [])) → FitArgs t descr.No (takes.One w) args → IsGuardHere operation args × AreValued args
one_guard t operation w [] v h f = absurd f
one_guard t operation w (a ∷ []) v h f = (h a, (v a f, tt))
one_guard t operation w (a ∷ b ∷ more) v h f = absurd f

no_args : (t : Table) (args : List Arg) → FitArgs t descr.No takes.Nothing args → AreValued args
no_args t [] f = tt
no_args t (a ∷ more) f = absurd f

class_guard : (t : Table) (operation : OpCode) (args : List Arg) → ((a : Arg) (k : ℕ) → has_value a ≡ true → IsGuardHere operation (a ∷ Class k ∷ [])) → FitArgs t descr.No (takes.Two want.Ref want.Class) args → IsGuardHere operation args × Unit {0}
class_guard t operation [] h f = absurd f
class_guard t operation (a ∷ []) h f = absurd f
class_guard t operation (a ∷ Class k ∷ []) h f = (h a k (ref_value t descr.No a f.0), tt)
class_guard t operation (a ∷ Of b ∷ []) h f = absurd f.1
class_guard t operation (a ∷ Const b ∷ []) h f = absurd f.1
class_guard t operation (a ∷ Null ∷ []) h f = absurd f.1
class_guard t operation (a ∷ Func b ∷ []) h f = absurd f.1
class_guard t operation (a ∷ Ptr b ∷ []) h f = absurd f.1
class_guard t operation (a ∷ b ∷ x ∷ more) h f = absurd f

guard_suits : (t : Table) (operation : OpCode) (args : List Arg) → IsTrue (is_guard operation) → FitArgs t descr.No (takes_of operation) args → IsGuardHere operation args × AreGuarded operation args
guard_suits t code.GuardTrue args h f = one_guard t code.GuardTrue want.Int args (int_value t descr.No) (λ a. tt) f
guard_suits t code.GuardFalse args h f = one_guard t code.GuardFalse want.Int args (int_value t descr.No) (λ a. tt) f
guard_suits t code.GuardNonnull args h f = one_guard t code.GuardNonnull want.Ref args (ref_value t descr.No) (λ a. tt) f
guard_suits t code.GuardIsnull args h f = one_guard t code.GuardIsnull want.Ref args (ref_value t descr.No) (λ a. tt) f
guard_suits t code.GuardValue [] h f = absurd f
guard_suits t code.GuardValue (a ∷ []) h f = absurd f
guard_suits t code.GuardValue (a ∷ b ∷ []) h f = (tt, (compared_first a b f, (compared_second (kind_of_arg a) b f, tt)))
guard_suits t code.GuardValue (a ∷ b ∷ c ∷ more) h f = absurd f
guard_suits t code.GuardClass args h f = class_guard t code.GuardClass args (λ a k v. v) f
guard_suits t code.GuardNonnullClass args h f = class_guard t code.GuardNonnullClass args (λ a k v. v) f
guard_suits t code.GuardNoOverflow args h f = (tt, no_args t args f)
guard_suits t code.GuardOverflow args h f = (tt, no_args t args f)
guard_suits t code.GuardNoException args h f = (tt, no_args t args f)
guard_suits t _ args h f = absurd (cc)

-- ---- overflow

over_two : (r : Option BoxId) (args : List Arg) (t : Table) (d : Descr) (operation : OpCode) (ops : List OptOp) → is_overflowing operation ≡ true → FitArgs t d (takes.Two want.Int want.Int) args → option_map (λ (b : BoxId). b.kind) r ≡ Some kind.Int → told_by (opt.Plain operation r args d) ops ≡ tell.Overflow
over_two None args t d operation ops o f g = absurd (cc)
over_two (Some r) [] t d operation ops o f g = absurd f
over_two (Some r) (a ∷ []) t d operation ops o f g = absurd f
over_two (Some r) (a ∷ b ∷ []) t d operation ops o f g = ap (λ (q : Bool). told_over q (told_if (is_tested r ops) (binary_cond (binary_form operation)) r)) o
over_two (Some r) (a ∷ b ∷ c ∷ more) t d operation ops o f g = absurd f

tells_over : (t : Table) (operation : OpCode) (r : Option BoxId) (args : List Arg) (d : Descr) (ops : List OptOp) → is_overflowing operation ≡ true → FitsOperation t operation r args d → told_by (opt.Plain operation r args d) ops ≡ tell.Overflow
tells_over t code.IntAddOvf r args d ops o f = over_two r args t d code.IntAddOvf ops o f.arguments f.gives
tells_over t code.IntSubOvf r args d ops o f = over_two r args t d code.IntSubOvf ops o f.arguments f.gives
tells_over t code.IntMulOvf r args d ops o f = over_two r args t d code.IntMulOvf ops o f.arguments f.gives
tells_over t _ r args d ops o f = absurd (cc)

op_tells : (t : Table) (op : OptOp) (ops : List OptOp) → sets_overflow op ≡ true → FitsTable t op → told_by op ops ≡ tell.Overflow
op_tells t (opt.Plain operation r args d) ops o f = tells_over t operation r args d ops o f
op_tells t (opt.Guard operation args n snap) ops o f = absurd (cc)
op_tells t (opt.Exit n snap) ops o f = absurd (cc)
op_tells t (opt.Jump to args) ops o f = absurd (cc)
op_tells t (opt.Finish value) ops o f = absurd (cc)

-- ---- one operation, and all

-- ---- operations on objects

abbrev Offsets : Table → Type 0
Offsets t = (f : ℕ) → spot_offset t (spot.Field f) < 2 ^ 31

stored_value : (t : Table) (d : Descr) (a : Arg) → IsWanted t d want.Stored a → has_value a ≡ true
stored_value t d a h = which (kind_stored t d) h
  where
    which : (o : Option Kind) → IsOfKind o a → has_value a ≡ true
    which None g = absurd g
    which (Some k) g = kind_value a k g

field_suits : (t : Table) (q : Option Kind) (k : Kind) (r : Option BoxId) (args : List Arg) (d : Descr) → Offsets t → FitArgs t d (takes.One want.Ref) args → option_map (λ (b : BoxId). b.kind) r ≡ Some k → FitsDescr t (cites.Field q) d → IsAccess t access.GetField r args d × AreValued args
field_suits t q k None args d o f g e = absurd (cc)
field_suits t q k (Some r) [] d o f g e = absurd f
field_suits t q k (Some r) (a ∷ b ∷ more) d o f g e = absurd f
field_suits t q k (Some r) (a ∷ []) (descr.Field n) o f g e = (o n, (ref_value t (descr.Field n) a f, tt))
field_suits t q k (Some r) (a ∷ []) _ o f g e = absurd e

set_field_suits : (t : Table) (q : Option Kind) (r : Option BoxId) (args : List Arg) (d : Descr) → Offsets t → FitArgs t d (takes.Two want.Ref want.Stored) args → option_map (λ (b : BoxId). b.kind) r ≡ None → FitsDescr t (cites.Field q) d → IsAccess t access.SetField r args d × AreValued args
set_field_suits t q (Some r) args d o f g e = absurd (cc)
set_field_suits t q None [] d o f g e = absurd f
set_field_suits t q None (a ∷ []) d o f g e = absurd f
set_field_suits t q None (a ∷ b ∷ x ∷ more) d o f g e = absurd f
set_field_suits t q None (a ∷ b ∷ []) (descr.Field n) o f g e = (o n, (ref_value t (descr.Field n) a f.0, (stored_value t (descr.Field n) b f.1, tt)))
set_field_suits t q None (a ∷ b ∷ []) _ o f g e = absurd e

item_suits : (t : Table) (q : Option Kind) (k : Kind) (r : Option BoxId) (args : List Arg) (d : Descr) → FitArgs t d (takes.Two want.Ref want.Int) args → option_map (λ (b : BoxId). b.kind) r ≡ Some k → FitsDescr t (cites.Array q) d → IsAccess t access.GetItem r args d × AreValued args
item_suits t q k None args d f g e = absurd (cc)
item_suits t q k (Some r) [] d f g e = absurd f
item_suits t q k (Some r) (a ∷ []) d f g e = absurd f
item_suits t q k (Some r) (a ∷ b ∷ x ∷ more) d f g e = absurd f
item_suits t q k (Some r) (a ∷ b ∷ []) (descr.Array n) f g e = (tt, (ref_value t (descr.Array n) a f.0, (int_value t (descr.Array n) b f.1, tt)))
item_suits t q k (Some r) (a ∷ b ∷ []) _ f g e = absurd e

set_item_suits : (t : Table) (q : Option Kind) (r : Option BoxId) (args : List Arg) (d : Descr) → FitArgs t d (takes.Three want.Ref want.Int want.Stored) args → option_map (λ (b : BoxId). b.kind) r ≡ None → FitsDescr t (cites.Array q) d → IsAccess t access.SetItem r args d × AreValued args
set_item_suits t q (Some r) args d f g e = absurd (cc)
set_item_suits t q None [] d f g e = absurd f
set_item_suits t q None (a ∷ []) d f g e = absurd f
set_item_suits t q None (a ∷ b ∷ []) d f g e = absurd f
set_item_suits t q None (a ∷ b ∷ x ∷ y ∷ more) d f g e = absurd f
set_item_suits t q None (a ∷ b ∷ x ∷ []) (descr.Array n) f g e = (tt, (ref_value t (descr.Array n) a f.0, (int_value t (descr.Array n) b f.1, (stored_value t (descr.Array n) x f.2, tt))))
set_item_suits t q None (a ∷ b ∷ x ∷ []) _ f g e = absurd e

length_suits : (t : Table) (q : Option Kind) (k : Kind) (r : Option BoxId) (args : List Arg) (d : Descr) → FitArgs t d (takes.One want.Ref) args → option_map (λ (b : BoxId). b.kind) r ≡ Some k → FitsDescr t (cites.Array q) d → IsAccess t access.Length r args d × AreValued args
length_suits t q k None args d f g e = absurd (cc)
length_suits t q k (Some r) [] d f g e = absurd f
length_suits t q k (Some r) (a ∷ b ∷ more) d f g e = absurd f
length_suits t q k (Some r) (a ∷ []) (descr.Array n) f g e = (tt, (ref_value t (descr.Array n) a f, tt))
length_suits t q k (Some r) (a ∷ []) _ f g e = absurd e

-- ---- operations that call

pub contains_at : (xs : List ShapeOf) (x : ShapeOf) → StandsOnce x xs → Contains xs x
contains_at xs x h = (h.0, slice_get_within xs h.0 x h.1, get_or_from_slice_get xs h.0 x x h.1)

pub some_within : {X : Type 0} (xs : List X) (n : ℕ) (P : X → Type 0) → IsSomeAnd (slice_get xs n) P → n < length xs
some_within {X} xs n P h = which (slice_get xs n) refl h
  where
    which : (o : Option X) → slice_get xs n ≡ o → IsSomeAnd o P → n < length xs
    which None e g = absurd g
    which (Some x) e g = slice_get_within xs n x e

structure_suits : (c : Setting) (i : ℕ) (v : Bool) (k : Kind) (r : Option BoxId) (args : List Arg) (d : Descr) → IsTableInRange c.table → FitArgs c.table d takes.Nothing args → option_map (λ (b : BoxId). b.kind) r ≡ Some k → FitsDescr c.table (cites.Size v) d → IsAskedAs c i access.Structure r args d
structure_suits c i v k None args d o f g e = absurd (cc)
structure_suits c i v k (Some r) (a ∷ more) d o f g e = absurd f
structure_suits c i v k (Some r) [] (descr.Size n) o f g e = contains_at c.table.shapes (Size n) (o.each_size_once n (some_within c.table.sizes n (HasVtable v) e))
structure_suits c i v k (Some r) [] _ o f g e = absurd e

array_kind : (t : Table) (x : ℕ) → IsSome (kind_of_item t x) → x < length t.arrays
array_kind t x h = which (slice_get t.arrays x) refl h
  where
    which : (o : Option ArrayRow) → slice_get t.arrays x ≡ o → IsSome (option_map (λ (a : ArrayRow). a.kind) o) → x < length t.arrays
    which None e g = absurd (cc)
    which (Some a) e g = slice_get_within t.arrays x a e

array_suits : (c : Setting) (i : ℕ) (k : Kind) (r : Option BoxId) (args : List Arg) (d : Descr) → IsTableInRange c.table → FitArgs c.table d (takes.One want.Int) args → option_map (λ (b : BoxId). b.kind) r ≡ Some k → FitsDescr c.table (cites.Array None) d → IsAskedAs c i access.Array r args d
array_suits c i k None args d o f g e = absurd (cc)
array_suits c i k (Some r) [] d o f g e = absurd f
array_suits c i k (Some r) (a ∷ b ∷ more) d o f g e = absurd f
array_suits c i k (Some r) (a ∷ []) (descr.Array n) o f g e = (contains_at c.table.shapes (Array n) (o.each_array_once n (array_kind c.table n e)), int_value c.table (descr.Array n) a f)
array_suits c i k (Some r) (a ∷ []) _ o f g e = absurd e

kinds_valued : (args : List Arg) (ks : List Kind) → map kind_of_arg args ≡ map (λ (k : Kind). Some k) ks → AreValued args
kinds_valued [] ks e = tt
kinds_valued (a ∷ args) [] e = absurd (cc)
kinds_valued (a ∷ args) (k ∷ ks) e = (kind_value a k (head_is (kind_of_arg a) (Some k) (map kind_of_arg args) (map (λ (x : Kind). Some x) ks) e), kinds_valued args ks (tail_is (kind_of_arg a) (Some k) (map kind_of_arg args) (map (λ (x : Kind). Some x) ks) e))
  where
    head_is : (x y : Option Kind) (xs ys : List (Option Kind)) → x ∷ xs ≡ y ∷ ys → x ≡ y
    head_is x y xs ys q = cc

    tail_is : (x y : Option Kind) (xs ys : List (Option Kind)) → x ∷ xs ≡ y ∷ ys → xs ≡ ys
    tail_is x y xs ys q = cc

call_suits : (c : Setting) (i : ℕ) (r : Option BoxId) (args : List Arg) (d : Descr) → IsTableInRange c.table → FitArgs c.table d takes.Called args → ((f : ℕ) (more : List Arg) → args ≡ Func f ∷ more → AreMoved (for_call c i more) more) → IsAskedAs c i access.Call r args d
call_suits c i r (Func f ∷ args) (descr.Call row) o h mv =
    let within : row < length c.table.calls = some_within c.table.calls row (λ (y : CallRow). map kind_of_arg args ≡ map (λ (k : Kind). Some k) y.args) h.1 in
    (mv f args refl, which (slice_get c.table.calls row) h.1, omega (arith, within, o.within.calls))
  where
    which : (q : Option CallRow) → IsSomeAnd q (λ (y : CallRow). map kind_of_arg args ≡ map (λ (k : Kind). Some k) y.args) → AreValued args
    which None g = absurd g
    which (Some y) g = kinds_valued args y.args g
call_suits c i r [] (descr.Call row) o h mv = absurd h
call_suits c i r (Of b ∷ more) (descr.Call row) o h mv = absurd h
call_suits c i r (Const b ∷ more) (descr.Call row) o h mv = absurd h
call_suits c i r (Null ∷ more) (descr.Call row) o h mv = absurd h
call_suits c i r (Class b ∷ more) (descr.Call row) o h mv = absurd h
call_suits c i r (Ptr b ∷ more) (descr.Call row) o h mv = absurd h
call_suits c i r _ _ o h mv = absurd h

abbrev Chosen : Setting → ℕ → OpCode → Option BoxId → List Arg → Descr → Option Access → Type 0
Chosen c i operation r args d o = (IsPlain c.table operation o r args d × AreValued args) ⊎ IsAskedIf c i o r args d

no_access : (operation : OpCode) → IsTrue (has_unary operation || has_binary operation) → access_form operation ≡ None
no_access code.IntIsZero h = refl
no_access code.IntIsTrue h = refl
no_access code.IntNeg h = refl
no_access code.IntInvert h = refl
no_access code.IntForceGeZero h = refl
no_access code.SameAsI h = refl
no_access code.SameAsR h = refl
no_access code.IntAdd h = refl
no_access code.IntSub h = refl
no_access code.IntMul h = refl
no_access code.IntAnd h = refl
no_access code.IntOr h = refl
no_access code.IntXor h = refl
no_access code.IntLshift h = refl
no_access code.IntRshift h = refl
no_access code.UintRshift h = refl
no_access code.IntLt h = refl
no_access code.IntLe h = refl
no_access code.IntEq h = refl
no_access code.IntNe h = refl
no_access code.IntGt h = refl
no_access code.IntGe h = refl
no_access code.UintLt h = refl
no_access code.UintLe h = refl
no_access code.UintGt h = refl
no_access code.UintGe h = refl
no_access code.IntAddOvf h = refl
no_access code.IntSubOvf h = refl
no_access code.IntMulOvf h = refl
no_access code.PtrEq h = refl
no_access code.PtrNe h = refl
no_access _ h = absurd (cc)

plain_chosen : (c : Setting) (i : ℕ) (operation : OpCode) (r : Option BoxId) (args : List Arg) (d : Descr) → IsTableInRange c.table → Offsets c.table → ((f : ℕ) (more : List Arg) → args ≡ Func f ∷ more → AreMoved (for_call c i more) more) → IsTrue (is_plain operation) → FitsOperation c.table operation r args d → Chosen c i operation r args d (access_form operation)
plain_chosen c i code.GetfieldGcI r args d o off mv h f = inl (field_suits c.table (Some kind.Int) kind.Int r args d off f.arguments f.gives f.cites)
plain_chosen c i code.GetfieldGcR r args d o off mv h f = inl (field_suits c.table (Some kind.Ref) kind.Ref r args d off f.arguments f.gives f.cites)
plain_chosen c i code.SetfieldGc r args d o off mv h f = inl (set_field_suits c.table None r args d off f.arguments f.gives f.cites)
plain_chosen c i code.GetarrayitemGcI r args d o off mv h f = inl (item_suits c.table (Some kind.Int) kind.Int r args d f.arguments f.gives f.cites)
plain_chosen c i code.GetarrayitemGcR r args d o off mv h f = inl (item_suits c.table (Some kind.Ref) kind.Ref r args d f.arguments f.gives f.cites)
plain_chosen c i code.SetarrayitemGc r args d o off mv h f = inl (set_item_suits c.table None r args d f.arguments f.gives f.cites)
plain_chosen c i code.ArraylenGc r args d o off mv h f = inl (length_suits c.table None kind.Int r args d f.arguments f.gives f.cites)
plain_chosen c i code.New r args d o off mv h f = inr (structure_suits c i false kind.Ref r args d o f.arguments f.gives f.cites)
plain_chosen c i code.NewWithVtable r args d o off mv h f = inr (structure_suits c i true kind.Ref r args d o f.arguments f.gives f.cites)
plain_chosen c i code.NewArrayClear r args d o off mv h f = inr (array_suits c i kind.Ref r args d o f.arguments f.gives f.cites)
plain_chosen c i code.CallI r args d o off mv h f = inr (call_suits c i r args d o f.arguments mv)
plain_chosen c i code.CallR r args d o off mv h f = inr (call_suits c i r args d o f.arguments mv)
plain_chosen c i code.CallN r args d o off mv h f = inr (call_suits c i r args d o f.arguments mv)
plain_chosen c i code.IntIsZero r args d o off mv h f = inl (plain_suits c.table code.IntIsZero r args d refl f)
plain_chosen c i code.IntIsTrue r args d o off mv h f = inl (plain_suits c.table code.IntIsTrue r args d refl f)
plain_chosen c i code.IntNeg r args d o off mv h f = inl (plain_suits c.table code.IntNeg r args d refl f)
plain_chosen c i code.IntInvert r args d o off mv h f = inl (plain_suits c.table code.IntInvert r args d refl f)
plain_chosen c i code.IntForceGeZero r args d o off mv h f = inl (plain_suits c.table code.IntForceGeZero r args d refl f)
plain_chosen c i code.SameAsI r args d o off mv h f = inl (plain_suits c.table code.SameAsI r args d refl f)
plain_chosen c i code.SameAsR r args d o off mv h f = inl (plain_suits c.table code.SameAsR r args d refl f)
plain_chosen c i code.IntAdd r args d o off mv h f = inl (plain_suits c.table code.IntAdd r args d refl f)
plain_chosen c i code.IntSub r args d o off mv h f = inl (plain_suits c.table code.IntSub r args d refl f)
plain_chosen c i code.IntMul r args d o off mv h f = inl (plain_suits c.table code.IntMul r args d refl f)
plain_chosen c i code.IntAnd r args d o off mv h f = inl (plain_suits c.table code.IntAnd r args d refl f)
plain_chosen c i code.IntOr r args d o off mv h f = inl (plain_suits c.table code.IntOr r args d refl f)
plain_chosen c i code.IntXor r args d o off mv h f = inl (plain_suits c.table code.IntXor r args d refl f)
plain_chosen c i code.IntLshift r args d o off mv h f = inl (plain_suits c.table code.IntLshift r args d refl f)
plain_chosen c i code.IntRshift r args d o off mv h f = inl (plain_suits c.table code.IntRshift r args d refl f)
plain_chosen c i code.UintRshift r args d o off mv h f = inl (plain_suits c.table code.UintRshift r args d refl f)
plain_chosen c i code.IntLt r args d o off mv h f = inl (plain_suits c.table code.IntLt r args d refl f)
plain_chosen c i code.IntLe r args d o off mv h f = inl (plain_suits c.table code.IntLe r args d refl f)
plain_chosen c i code.IntEq r args d o off mv h f = inl (plain_suits c.table code.IntEq r args d refl f)
plain_chosen c i code.IntNe r args d o off mv h f = inl (plain_suits c.table code.IntNe r args d refl f)
plain_chosen c i code.IntGt r args d o off mv h f = inl (plain_suits c.table code.IntGt r args d refl f)
plain_chosen c i code.IntGe r args d o off mv h f = inl (plain_suits c.table code.IntGe r args d refl f)
plain_chosen c i code.UintLt r args d o off mv h f = inl (plain_suits c.table code.UintLt r args d refl f)
plain_chosen c i code.UintLe r args d o off mv h f = inl (plain_suits c.table code.UintLe r args d refl f)
plain_chosen c i code.UintGt r args d o off mv h f = inl (plain_suits c.table code.UintGt r args d refl f)
plain_chosen c i code.UintGe r args d o off mv h f = inl (plain_suits c.table code.UintGe r args d refl f)
plain_chosen c i code.IntAddOvf r args d o off mv h f = inl (plain_suits c.table code.IntAddOvf r args d refl f)
plain_chosen c i code.IntSubOvf r args d o off mv h f = inl (plain_suits c.table code.IntSubOvf r args d refl f)
plain_chosen c i code.IntMulOvf r args d o off mv h f = inl (plain_suits c.table code.IntMulOvf r args d refl f)
plain_chosen c i code.PtrEq r args d o off mv h f = inl (plain_suits c.table code.PtrEq r args d refl f)
plain_chosen c i code.PtrNe r args d o off mv h f = inl (plain_suits c.table code.PtrNe r args d refl f)
plain_chosen c i _ r args d o off mv h f = absurd (cc)

-- operations such as selection asks for, that have this beside
abbrev pub AreSuited : (OptOp → Type 0) → Setting → ℕ → Told → List OptOp → Type 0
AreSuited W c k told [] = Unit {0}
AreSuited W c k told (op ∷ ops) = (IsHere c told op ⊎ IsAsked c k op) × W op × AreSuited W c (k + 1) (told_by op ops) ops

op_suits : (c : Setting) (i : ℕ) (told : Told) (op : OptOp) → IsTableInRange c.table → Offsets c.table → HasItsCode op → FitsTable c.table op → (tests_overflow op ≡ true → told ≡ tell.Overflow) → ((to : PieceId) (args : List Arg) → op ≡ opt.Jump to args → AreMoved c args) → ((f : ℕ) (operation : OpCode) (r : Option BoxId) (args : List Arg) (d : Descr) → op ≡ opt.Plain operation r (Func f ∷ args) d → AreMoved (for_call c i args) args) → IsHere c told op ⊎ IsAsked c i op
op_suits c i told (opt.Plain operation r args d) t off code f o j mv = plain_chosen c i operation r args d t off (λ n more e. mv n operation r more d (ap (λ (l : List Arg). opt.Plain operation r l d) e)) code f
op_suits c i told (opt.Guard operation args n snap) t off code f o j mv = (let g = guard_suits c.table operation args code f in inl (g.0, g.1, o))
op_suits c i told (opt.Exit n snap) t off code f o j mv = inl tt
op_suits c i told (opt.Jump to args) t off code f o j mv = inl (j to args refl, all_values args f)
op_suits c i told (opt.Finish value) t off code f o j mv = inl (all_values (finished value) f)

true_some : (b : Bool) → Some b ≡ Some true → b ≡ true
true_some b e = cc

ops_suit : (W : OptOp → Type 0) (c : Setting) (i : ℕ) (told : Told) (ops : List OptOp) → IsTableInRange c.table → Offsets c.table → All HasItsCode ops → All (FitsTable c.table) ops → All W ops → (option_map tests_overflow (slice_get ops 0) ≡ Some true → told ≡ tell.Overflow) → ((n : ℕ) → option_map tests_overflow (slice_get ops (suc n)) ≡ Some true → option_map sets_overflow (slice_get ops n) ≡ Some true) → ((n : ℕ) (to : PieceId) (args : List Arg) → slice_get ops n ≡ Some (opt.Jump to args) → AreMoved c args) → ((n f : ℕ) (operation : OpCode) (r : Option BoxId) (args : List Arg) (d : Descr) → slice_get ops n ≡ Some (opt.Plain operation r (Func f ∷ args) d) → AreMoved (for_call c (i + n) args) args) → AreSuited W c i told ops
ops_suit W c i told [] t off k f w o p j mv = tt
ops_suit W c i told (op ∷ ops) t off k f w o p j mv =
    let here : i + 0 ≡ i = omega arith in (
      op_suits c i told op t off (k 0 op (omega arith)) (f 0 op (omega arith)) (λ e. o (ap Some e)) (λ to args e. j 0 to args (ap Some e))
          (λ n operation r args d e. subst (λ (x : ℕ). AreMoved (for_call c x args) args) here (mv 0 n operation r args d (ap Some e))),
      w 0 op (omega arith),
      ops_suit W c (i + 1) (told_by op ops) ops t off (λ n x lt. k (suc n) x (omega (arith, lt))) (λ n x lt. f (suc n) x (omega (arith, lt))) (λ n x lt. w (suc n) x (omega (arith, lt)))
          (λ e. op_tells c.table op ops (true_some (sets_overflow op) (p 0 e)) (f 0 op (omega arith)))
          (λ n e. p (suc n) e) (λ n to args e. j (suc n) to args e)
          (λ n x operation r args d e. let z : i + suc n ≡ i + 1 + n = omega arith in subst (λ (y : ℕ). AreMoved (for_call c y args) args) z (mv (suc n) x operation r args d e)),
    )

-- a piece whose operations have this beside
pub piece_suits : (W : OptOp → Type 0) (set : TraceSet) (label_of : PieceId → Option (List BoxId)) (piece : Piece) (c : Setting) (k : ℕ)
    → IsSound set label_of piece → c.table ≡ set.table → IsTableInRange c.table → All W piece.ops
    → ((i : ℕ) (to : PieceId) (args : List Arg) → slice_get piece.ops i ≡ Some (opt.Jump to args) → AreMoved c args)
    → ((i f : ℕ) (operation : OpCode) (r : Option BoxId) (args : List Arg) (d : Descr) → slice_get piece.ops i ≡ Some (opt.Plain operation r (Func f ∷ args) d) → AreMoved (for_call c (k + i) args) args)
    → AreSuited W c k tell.Nothing piece.ops
piece_suits W set label_of piece c k sound same t w j mv =
    ops_suit W c k tell.Nothing piece.ops t (tables_serve c.table t).1 sound.formed.codes_in_place (subst (λ (x : Table). All (FitsTable x) piece.ops) (sym same) sound.formed.operations_fit) w
    (λ e. (let q = sound.formed.overflow_is_set 0 e in absurd (omega (arith, q.1))))
    (λ n e. (let q = sound.formed.overflow_is_set (suc n) e in let n2 : q.0 ≡ n = omega (arith, q.1) in ap (λ (z : ℕ). option_map sets_overflow (slice_get piece.ops z)) (sym n2) ∙ q.2))
    j mv

suited_chosen : (c : Setting) (k : ℕ) (told : Told) (ops : List OptOp) → AreSuited (HasWords c.table) c k told ops → AreChosen c k told ops
suited_chosen c k told [] h = tt
suited_chosen c k told (op ∷ ops) h = (h.0, h.1, suited_chosen c (k + 1) (told_by op ops) ops h.2)

pub pieces_suit : SoundPiecesSuit
pieces_suit set label_of piece c k sound same t w j mv =
    suited_chosen c k tell.Nothing piece.ops (piece_suits (HasWords c.table) set label_of piece c k sound same t w j mv)
