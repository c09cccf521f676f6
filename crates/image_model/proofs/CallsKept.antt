-- An operation that calls no host leaves calls and answers as they are.
use Rattle.std.proofs.Common.{◌≡◌, ℕ, Bool, true, false, List, [], ◌∷◌, refl, sym, ap, arith, Option, Some, None, ℤ, pos}
use Rattle.std.specs.Prelude.{slice_get, IsTrue, ◌+ℤ◌, ◌-ℤ◌, ◌*ℤ◌, option_and_then}
use Rattle.std.specs.Option.{option_map}
use Rattle.trace_ops.specs.declared.code.OpCode.{OpCode}
use Rattle.trace_ops.specs.declared.code.OpCode.TheVariants as code
use Rattle.trace_ops.specs.declared.trace.BoxId.{BoxId}
use Rattle.trace_ops.specs.declared.trace.Arg.{Arg}
use Rattle.trace_ops.specs.declared.trace.Descr.{Descr}
use Rattle.trace_ops.specs.declared.trace.Descr.TheVariants as descr
use Rattle.trace_ops.specs.declared.piece.OptOp.{OptOp}
use Rattle.trace_ops.specs.declared.piece.OptOp.TheVariants as opt
use Rattle.trace_ops.specs.declared.piece.Snapshot.{Snapshot}
use Rattle.trace_ops.specs.declared.piece.Spot.{Spot}
use Rattle.trace_ops.specs.declared.piece.Spot.TheVariants as spot
use Rattle.trace_ops.specs.declared.table.Table.{Table}
use Rattle.trace_ops.specs.Pieces.{finished}
use Rattle.trace_meaning.specs.declared.value.Value.{Value}
use Rattle.trace_meaning.specs.declared.value.Value.TheVariants as v
use Rattle.trace_meaning.specs.declared.value.Object.{Object}
use Rattle.trace_meaning.specs.World.{World}
use Rattle.trace_meaning.specs.Objects.{read, write, write_unfrozen, with_object, written, length_at, is_frozen, index_of}
use Rattle.trace_meaning.specs.Folding.{fold}
use Rattle.trace_meaning.specs.Performing.{Done, Gave, Bad, Waited, Misfitted, value_done, write_done, overflowing, get_field, set_field, get_item, set_item, get_length, make_structure, make_items, make_array, perform}
use Rattle.trace_meaning.specs.Passing.{passes}
use Rattle.trace_meaning.specs.Legs.{Leave, Fails, Jumps, Finishes, Waits, Misfits, Wrong, Turn, On, Off}
use Rattle.opt_meaning.specs.Step.{Opt, opt_values, resume_args, opt_result, opt_plain, opt_leave, opt_guard, opt_perform, opt_test, opt_step}
use Rattle.asm_select.specs.declared.told.Told.{Told}
use Rattle.asm_select.specs.Chosen.{Setting, access_form}
use Rattle.asm_select.specs.Ended.{IsPlain, IsHere}
use Rattle.image_model.specs.Laws.{closes}
use Rattle.lists.proofs.Bools.{true_not_false}

-- two worlds have the same calls and answers
abbrev pub Alike : World → World → Type 0
Alike w u = (u.log ≡ w.log) × (u.answers ≡ w.answers)

abbrev Keeps : World → Done → Type 0
Keeps w (Gave x u) = Alike w u
Keeps w Bad = Unit {0}
Keeps w (Waited u) = Alike w u
Keeps w (Misfitted u) = Alike w u

abbrev KeepsIf : World → Option World → Type 0
KeepsIf w None = Unit {0}
KeepsIf w (Some u) = Alike w u

-- ---- writes

changed_keeps : (n : ℕ) (w : World) (o : Option Object) → KeepsIf w (option_map (with_object n w) o)
changed_keeps n w None = tt
changed_keeps n w (Some x) = (refl, refl)

unfrozen_keeps : (b : Bool) (t : Table) (at : Spot) (n : ℕ) (value : Value) (w : World) → KeepsIf w (write_unfrozen b t at n value w)
unfrozen_keeps true t at n value w = tt
unfrozen_keeps false t at n value w = changed_keeps n w (option_and_then (written t at value) (slice_get w.objects n))

write_keeps : (t : Table) (at : Spot) (base value : Value) (w : World) → KeepsIf w (write t at base value w)
write_keeps t at (v.Obj n) value w = unfrozen_keeps (is_frozen t at n) t at n value w
write_keeps t at (v.Int z) value w = tt
write_keeps t at v.Null value w = tt

write_done_keeps : (w : World) (o : Option World) → KeepsIf w o → Keeps w (write_done o)
write_done_keeps w None h = tt
write_done_keeps w (Some u) h = h

value_keeps : (w : World) (o : Option Value) → Keeps w (value_done w o)
value_keeps w None = tt
value_keeps w (Some x) = (refl, refl)

-- ---- operations

overflowing_keeps : (exact : ℤ → ℤ → ℤ) (vs : List Value) (w : World) → Keeps w (overflowing exact vs w)
overflowing_keeps exact [] w = tt
overflowing_keeps exact (v.Null ∷ xs) w = tt
overflowing_keeps exact (v.Obj n ∷ xs) w = tt
overflowing_keeps exact (v.Int a ∷ []) w = tt
overflowing_keeps exact (v.Int a ∷ v.Null ∷ xs) w = tt
overflowing_keeps exact (v.Int a ∷ v.Obj n ∷ xs) w = tt
overflowing_keeps exact (v.Int a ∷ v.Int b ∷ []) w = (refl, refl)
overflowing_keeps exact (v.Int a ∷ v.Int b ∷ x ∷ xs) w = tt

get_field_keeps : (t : Table) (d : Descr) (vs : List Value) (w : World) → Keeps w (get_field t d vs w)
get_field_keeps t (descr.Field f) [] w = tt
get_field_keeps t (descr.Field f) (base ∷ []) w = value_keeps w (read t (spot.Field f) base w)
get_field_keeps t (descr.Field f) (base ∷ x ∷ xs) w = tt
get_field_keeps t descr.No vs w = tt
get_field_keeps t (descr.Size k) vs w = tt
get_field_keeps t (descr.Array k) vs w = tt
get_field_keeps t (descr.Call k) vs w = tt
get_field_keeps t (descr.Target k) vs w = tt

set_field_keeps : (t : Table) (d : Descr) (vs : List Value) (w : World) → Keeps w (set_field t d vs w)
set_field_keeps t (descr.Field f) [] w = tt
set_field_keeps t (descr.Field f) (base ∷ []) w = tt
set_field_keeps t (descr.Field f) (base ∷ value ∷ []) w = write_done_keeps w (write t (spot.Field f) base value w) (write_keeps t (spot.Field f) base value w)
set_field_keeps t (descr.Field f) (base ∷ value ∷ x ∷ xs) w = tt
set_field_keeps t descr.No vs w = tt
set_field_keeps t (descr.Size k) vs w = tt
set_field_keeps t (descr.Array k) vs w = tt
set_field_keeps t (descr.Call k) vs w = tt
set_field_keeps t (descr.Target k) vs w = tt

get_item_keeps : (t : Table) (d : Descr) (vs : List Value) (w : World) → Keeps w (get_item t d vs w)
get_item_keeps t (descr.Array a) [] w = tt
get_item_keeps t (descr.Array a) (base ∷ []) w = tt
get_item_keeps t (descr.Array a) (base ∷ v.Null ∷ xs) w = tt
get_item_keeps t (descr.Array a) (base ∷ v.Obj n ∷ xs) w = tt
get_item_keeps t (descr.Array a) (base ∷ v.Int i ∷ []) w = value_keeps w (read t (spot.Item a i) base w)
get_item_keeps t (descr.Array a) (base ∷ v.Int i ∷ x ∷ xs) w = tt
get_item_keeps t descr.No vs w = tt
get_item_keeps t (descr.Size k) vs w = tt
get_item_keeps t (descr.Field k) vs w = tt
get_item_keeps t (descr.Call k) vs w = tt
get_item_keeps t (descr.Target k) vs w = tt

set_item_keeps : (t : Table) (d : Descr) (vs : List Value) (w : World) → Keeps w (set_item t d vs w)
set_item_keeps t (descr.Array a) [] w = tt
set_item_keeps t (descr.Array a) (base ∷ []) w = tt
set_item_keeps t (descr.Array a) (base ∷ v.Null ∷ xs) w = tt
set_item_keeps t (descr.Array a) (base ∷ v.Obj n ∷ xs) w = tt
set_item_keeps t (descr.Array a) (base ∷ v.Int i ∷ []) w = tt
set_item_keeps t (descr.Array a) (base ∷ v.Int i ∷ value ∷ []) w = write_done_keeps w (write t (spot.Item a i) base value w) (write_keeps t (spot.Item a i) base value w)
set_item_keeps t (descr.Array a) (base ∷ v.Int i ∷ value ∷ x ∷ xs) w = tt
set_item_keeps t descr.No vs w = tt
set_item_keeps t (descr.Size k) vs w = tt
set_item_keeps t (descr.Field k) vs w = tt
set_item_keeps t (descr.Call k) vs w = tt
set_item_keeps t (descr.Target k) vs w = tt

get_length_keeps : (d : Descr) (vs : List Value) (w : World) → Keeps w (get_length d vs w)
get_length_keeps (descr.Array a) [] w = tt
get_length_keeps (descr.Array a) (base ∷ []) w = value_keeps w (option_map (λ n. v.Int (pos n)) (length_at a base w))
get_length_keeps (descr.Array a) (base ∷ x ∷ xs) w = tt
get_length_keeps descr.No vs w = tt
get_length_keeps (descr.Size k) vs w = tt
get_length_keeps (descr.Field k) vs w = tt
get_length_keeps (descr.Call k) vs w = tt
get_length_keeps (descr.Target k) vs w = tt

structure_keeps : (t : Table) (d : Descr) (w : World) → Keeps w (make_structure t d w)
structure_keeps t (descr.Size s) w = (refl, refl)
structure_keeps t descr.No w = tt
structure_keeps t (descr.Field k) w = tt
structure_keeps t (descr.Array k) w = tt
structure_keeps t (descr.Call k) w = tt
structure_keeps t (descr.Target k) w = tt

items_keep : (t : Table) (array : ℕ) (o : Option ℕ) (w : World) → Keeps w (make_items t array o w)
items_keep t array None w = tt
items_keep t array (Some n) w = (refl, refl)

array_keeps : (t : Table) (d : Descr) (vs : List Value) (w : World) → Keeps w (make_array t d vs w)
array_keeps t (descr.Array a) [] w = tt
array_keeps t (descr.Array a) (v.Null ∷ xs) w = tt
array_keeps t (descr.Array a) (v.Obj n ∷ xs) w = tt
array_keeps t (descr.Array a) (v.Int z ∷ []) w = items_keep t a (index_of z) w
array_keeps t (descr.Array a) (v.Int z ∷ x ∷ xs) w = tt
array_keeps t descr.No vs w = tt
array_keeps t (descr.Size k) vs w = tt
array_keeps t (descr.Field k) vs w = tt
array_keeps t (descr.Call k) vs w = tt
array_keeps t (descr.Target k) vs w = tt

performs_keep : (table t : Table) (operation : OpCode) (r : Option BoxId) (d : Descr) (args : List Arg) (vs : List Value) (w : World) → IsPlain table operation (access_form operation) r args d → Keeps w (perform t operation d args vs w)
performs_keep table t code.IntAdd r d args vs w h = value_keeps w (fold code.IntAdd vs)
performs_keep table t code.IntSub r d args vs w h = value_keeps w (fold code.IntSub vs)
performs_keep table t code.IntMul r d args vs w h = value_keeps w (fold code.IntMul vs)
performs_keep table t code.IntAnd r d args vs w h = value_keeps w (fold code.IntAnd vs)
performs_keep table t code.IntOr r d args vs w h = value_keeps w (fold code.IntOr vs)
performs_keep table t code.IntXor r d args vs w h = value_keeps w (fold code.IntXor vs)
performs_keep table t code.IntLshift r d args vs w h = value_keeps w (fold code.IntLshift vs)
performs_keep table t code.IntRshift r d args vs w h = value_keeps w (fold code.IntRshift vs)
performs_keep table t code.UintRshift r d args vs w h = value_keeps w (fold code.UintRshift vs)
performs_keep table t code.IntLt r d args vs w h = value_keeps w (fold code.IntLt vs)
performs_keep table t code.IntLe r d args vs w h = value_keeps w (fold code.IntLe vs)
performs_keep table t code.IntEq r d args vs w h = value_keeps w (fold code.IntEq vs)
performs_keep table t code.IntNe r d args vs w h = value_keeps w (fold code.IntNe vs)
performs_keep table t code.IntGt r d args vs w h = value_keeps w (fold code.IntGt vs)
performs_keep table t code.IntGe r d args vs w h = value_keeps w (fold code.IntGe vs)
performs_keep table t code.UintLt r d args vs w h = value_keeps w (fold code.UintLt vs)
performs_keep table t code.UintLe r d args vs w h = value_keeps w (fold code.UintLe vs)
performs_keep table t code.UintGt r d args vs w h = value_keeps w (fold code.UintGt vs)
performs_keep table t code.UintGe r d args vs w h = value_keeps w (fold code.UintGe vs)
performs_keep table t code.IntIsZero r d args vs w h = value_keeps w (fold code.IntIsZero vs)
performs_keep table t code.IntIsTrue r d args vs w h = value_keeps w (fold code.IntIsTrue vs)
performs_keep table t code.IntNeg r d args vs w h = value_keeps w (fold code.IntNeg vs)
performs_keep table t code.IntInvert r d args vs w h = value_keeps w (fold code.IntInvert vs)
performs_keep table t code.IntForceGeZero r d args vs w h = value_keeps w (fold code.IntForceGeZero vs)
performs_keep table t code.SameAsI r d args vs w h = value_keeps w (fold code.SameAsI vs)
performs_keep table t code.SameAsR r d args vs w h = value_keeps w (fold code.SameAsR vs)
performs_keep table t code.PtrEq r d args vs w h = value_keeps w (fold code.PtrEq vs)
performs_keep table t code.PtrNe r d args vs w h = value_keeps w (fold code.PtrNe vs)
performs_keep table t code.IntAddOvf r d args vs w h = overflowing_keeps (λ a b. a +ℤ b) vs w
performs_keep table t code.IntSubOvf r d args vs w h = overflowing_keeps (λ a b. a -ℤ b) vs w
performs_keep table t code.IntMulOvf r d args vs w h = overflowing_keeps (λ a b. a *ℤ b) vs w
performs_keep table t code.GetfieldGcI r d args vs w h = get_field_keeps t d vs w
performs_keep table t code.GetfieldGcR r d args vs w h = get_field_keeps t d vs w
performs_keep table t code.SetfieldGc r d args vs w h = set_field_keeps t d vs w
performs_keep table t code.GetarrayitemGcI r d args vs w h = get_item_keeps t d vs w
performs_keep table t code.GetarrayitemGcR r d args vs w h = get_item_keeps t d vs w
performs_keep table t code.SetarrayitemGc r d args vs w h = set_item_keeps t d vs w
performs_keep table t code.ArraylenGc r d args vs w h = get_length_keeps d vs w
performs_keep table t code.New r d args vs w h = structure_keeps t d w
performs_keep table t code.NewWithVtable r d args vs w h = structure_keeps t d w
performs_keep table t code.NewArrayClear r d args vs w h = array_keeps t d vs w
performs_keep table t code.CallI r d args vs w h = absurd h
performs_keep table t code.CallR r d args vs w h = absurd h
performs_keep table t code.CallN r d args vs w h = absurd h
performs_keep table t code.GuardTrue r d args vs w h = value_keeps w (fold code.GuardTrue vs)
performs_keep table t code.GuardFalse r d args vs w h = value_keeps w (fold code.GuardFalse vs)
performs_keep table t code.GuardValue r d args vs w h = value_keeps w (fold code.GuardValue vs)
performs_keep table t code.GuardNonnull r d args vs w h = value_keeps w (fold code.GuardNonnull vs)
performs_keep table t code.GuardIsnull r d args vs w h = value_keeps w (fold code.GuardIsnull vs)
performs_keep table t code.GuardClass r d args vs w h = value_keeps w (fold code.GuardClass vs)
performs_keep table t code.GuardNonnullClass r d args vs w h = value_keeps w (fold code.GuardNonnullClass vs)
performs_keep table t code.GuardNoOverflow r d args vs w h = value_keeps w (fold code.GuardNoOverflow vs)
performs_keep table t code.GuardOverflow r d args vs w h = value_keeps w (fold code.GuardOverflow vs)
performs_keep table t code.GuardNoException r d args vs w h = value_keeps w (fold code.GuardNoException vs)
performs_keep table t code.Jump r d args vs w h = value_keeps w (fold code.Jump vs)
performs_keep table t code.Finish r d args vs w h = value_keeps w (fold code.Finish vs)

-- ---- operations of pieces

abbrev pub TurnKeeps : World → Turn Opt → Type 0
TurnKeeps w (On s) = Alike w s.world
TurnKeeps w (Off (Fails n vs u)) = Alike w u
TurnKeeps w (Off (Jumps vs u)) = Alike w u
TurnKeeps w (Off (Finishes vs u)) = Alike w u
TurnKeeps w (Off (Waits u)) = Unit {0}
TurnKeeps w (Off (Misfits u)) = Unit {0}
TurnKeeps w (Off (Wrong u)) = Unit {0}

result_keeps : (r : Option BoxId) (s : Opt) (x : Option Value) (u w : World) → Alike u w → TurnKeeps u (opt_result r s x w)
result_keeps (Some b) s (Some x) u w h = h
result_keeps (Some b) s None u w h = tt
result_keeps None s x u w h = h

plain_keeps : (r : Option BoxId) (s : Opt) (d : Done) → Keeps s.world d → TurnKeeps s.world (opt_plain r s d)
plain_keeps r s (Gave x w) h = result_keeps r s x s.world w h
plain_keeps r s Bad h = tt
plain_keeps r s (Waited w) h = tt
plain_keeps r s (Misfitted w) h = tt

perform_keeps : (table t : Table) (operation : OpCode) (r : Option BoxId) (args : List Arg) (d : Descr) (s : Opt) (o : Option (List Value)) → IsPlain table operation (access_form operation) r args d → TurnKeeps s.world (opt_perform t operation r args d s o)
perform_keeps table t operation r args d s None h = tt
perform_keeps table t operation r args d s (Some vs) h = plain_keeps r s (perform t operation d args vs s.world) (performs_keep table t operation r d args vs s.world h)

fails_keep : (n : ℕ) (s : Opt) (o : Option (List Value)) → TurnKeeps s.world (opt_leave (Fails n) s o)
fails_keep n s None = tt
fails_keep n s (Some vs) = (refl, refl)

jumps_keep : (s : Opt) (o : Option (List Value)) → TurnKeeps s.world (opt_leave Jumps s o)
jumps_keep s None = tt
jumps_keep s (Some vs) = (refl, refl)

finishes_keep : (s : Opt) (o : Option (List Value)) → TurnKeeps s.world (opt_leave Finishes s o)
finishes_keep s None = tt
finishes_keep s (Some vs) = (refl, refl)

guard_keeps : (n : ℕ) (snap : Snapshot) (s : Opt) (o : Option Bool) → TurnKeeps s.world (opt_guard n snap s o)
guard_keeps n snap s None = tt
guard_keeps n snap s (Some true) = (refl, refl)
guard_keeps n snap s (Some false) = fails_keep n s (opt_values s (resume_args snap))

test_keeps : (operation : OpCode) (args : List Arg) (n : ℕ) (snap : Snapshot) (s : Opt) (o : Option (List Value)) → TurnKeeps s.world (opt_test operation args n snap s o)
test_keeps operation args n snap s None = tt
test_keeps operation args n snap s (Some vs) = guard_keeps n snap s (passes operation args vs s.world)

pub step_keeps_calls : (st : Setting) (told : Told) (t : Table) (op : OptOp) (s : Opt) → IsHere st told op → TurnKeeps s.world (opt_step t op s)
step_keeps_calls st told t (opt.Plain operation r args d) s h = perform_keeps st.table t operation r args d s (opt_values s args) h.0
step_keeps_calls st told t (opt.Guard operation args n snap) s h = test_keeps operation args n snap s (opt_values s args)
step_keeps_calls st told t (opt.Exit n snap) s h = fails_keep n s (opt_values s (resume_args snap))
step_keeps_calls st told t (opt.Jump to args) s h = jumps_keep s (opt_values s args)
step_keeps_calls st told t (opt.Finish value) s h = finishes_keep s (opt_values s (finished value))

abbrev turn_no : Turn Opt → ℕ
turn_no (On s) = 0
turn_no (Off l) = 1

no_truth : IsTrue false → ⊥
no_truth h = (let n : false ≡ true = h in true_not_false (sym n))

-- a jump, an exit and a finish never go on
leave_off : (leave : List Value → World → Leave) (s after : Opt) (o : Option (List Value)) → opt_leave leave s o ≡ On after → ⊥
leave_off leave s after None e = (let n : 1 ≡ 0 = ap turn_no e in omega (arith, n))
leave_off leave s after (Some vs) e = (let n : 1 ≡ 0 = ap turn_no e in omega (arith, n))

pub closes_off : (t : Table) (op : OptOp) (s after : Opt) → IsTrue (closes op) → opt_step t op s ≡ On after → ⊥
closes_off t (opt.Plain operation r args d) s after h e = absurd (no_truth h)
closes_off t (opt.Guard operation args n snap) s after h e = absurd (no_truth h)
closes_off t (opt.Exit n snap) s after h e = leave_off (Fails n) s after (opt_values s (resume_args snap)) e
closes_off t (opt.Jump to args) s after h e = leave_off Jumps s after (opt_values s args) e
closes_off t (opt.Finish value) s after h e = leave_off Finishes s after (opt_values s (finished value)) e
