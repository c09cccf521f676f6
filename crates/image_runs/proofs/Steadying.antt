-- No operation of a piece counts a failure.
use Rattle.std.proofs.Common.{◌≡◌, ℕ, Bool, true, false, List, [], ◌∷◌, drop, refl, ap, ◌∙◌, subst, Option, Some, None, ℤ, pos}
use Rattle.std.specs.Prelude.{slice_get, ◌+ℤ◌, ◌-ℤ◌, ◌*ℤ◌, option_and_then}
use Rattle.std.specs.Option.{option_map}
use Rattle.trace_ops.specs.declared.code.OpCode.{OpCode}
use Rattle.trace_ops.specs.declared.code.OpCode.TheVariants as code
use Rattle.trace_ops.specs.declared.trace.BoxId.{BoxId}
use Rattle.trace_ops.specs.declared.trace.Arg.{Arg}
use Rattle.trace_ops.specs.declared.trace.Descr.{Descr}
use Rattle.trace_ops.specs.declared.trace.Descr.TheVariants as descr
use Rattle.trace_ops.specs.declared.trace.TraceSet.{TraceSet}
use Rattle.trace_ops.specs.declared.piece.OptOp.{OptOp}
use Rattle.trace_ops.specs.declared.piece.OptOp.TheVariants as opt
use Rattle.trace_ops.specs.declared.piece.Piece.{Piece}
use Rattle.trace_ops.specs.declared.piece.Snapshot.{Snapshot}
use Rattle.trace_ops.specs.declared.piece.Spot.{Spot}
use Rattle.trace_ops.specs.declared.piece.Spot.TheVariants as spot
use Rattle.trace_ops.specs.declared.table.Table.{Table}
use Rattle.trace_ops.specs.declared.table.CallRow.{CallRow}
use Rattle.trace_ops.specs.Pieces.{finished}
use Rattle.trace_meaning.specs.declared.value.Value.{Value}
use Rattle.trace_meaning.specs.declared.value.Value.TheVariants as v
use Rattle.trace_meaning.specs.declared.value.Object.{Object}
use Rattle.trace_meaning.specs.declared.call.Answer.{Answer}
use Rattle.trace_meaning.specs.declared.call.AnswerStore.{AnswerStore}
use Rattle.trace_meaning.specs.Values.{references}
use Rattle.trace_meaning.specs.World.{World}
use Rattle.trace_meaning.specs.Objects.{read, write, write_unfrozen, with_object, written, length_at, is_frozen, index_of}
use Rattle.trace_meaning.specs.Folding.{fold}
use Rattle.trace_meaning.specs.Answers.{fits, value_stored, or_same, write_given, store_done, stores_done, new_object, with_fresh, answer_done}
use Rattle.trace_meaning.specs.Performing.{Done, Gave, Bad, Waited, Misfitted, value_done, write_done, overflowing, get_field, set_field, get_item, set_item, get_length, make_structure, make_items, make_array, answered_if, called_first, call_row, function_in, call_function, call, perform}
use Rattle.trace_meaning.specs.Passing.{passes}
use Rattle.trace_meaning.specs.Legs.{Leave, Fails, Jumps, Finishes, Turn, On, Off}
use Rattle.trace_meaning.specs.Cuts.{Cuts}
use Rattle.trace_meaning.specs.Observed.{world_left}
use Rattle.opt_meaning.specs.Step.{Opt, opt_values, resume_args, opt_result, opt_plain, opt_leave, opt_fail, opt_guard, opt_perform, opt_test, opt_step}
use Rattle.opt_meaning.specs.Pieces.{pieces}
use Rattle.image_runs.specs.Runs.{Steady}

abbrev Keeps : World → Done → Type 0
Keeps w (Gave x u) = u.failures ≡ w.failures
Keeps w Bad = Unit {0}
Keeps w (Waited u) = u.failures ≡ w.failures
Keeps w (Misfitted u) = u.failures ≡ w.failures

abbrev KeepsIf : World → Option World → Type 0
KeepsIf w None = Unit {0}
KeepsIf w (Some u) = u.failures ≡ w.failures

-- ---- writes

changed_keeps : (n : ℕ) (w : World) (o : Option Object) → KeepsIf w (option_map (with_object n w) o)
changed_keeps n w None = tt
changed_keeps n w (Some x) = refl

unfrozen_keeps : (b : Bool) (t : Table) (at : Spot) (n : ℕ) (value : Value) (w : World) → KeepsIf w (write_unfrozen b t at n value w)
unfrozen_keeps true t at n value w = tt
unfrozen_keeps false t at n value w = changed_keeps n w (option_and_then (written t at value) (slice_get w.objects n))

write_keeps : (t : Table) (at : Spot) (base value : Value) (w : World) → KeepsIf w (write t at base value w)
write_keeps t at (v.Obj n) value w = unfrozen_keeps (is_frozen t at n) t at n value w
write_keeps t at (v.Int z) value w = tt
write_keeps t at v.Null value w = tt

write_done_keeps : (w : World) (o : Option World) → KeepsIf w o → Keeps w (write_done o)
write_done_keeps w None h = tt
write_done_keeps w (Some u) h = h

value_keeps : (w : World) (o : Option Value) → Keeps w (value_done w o)
value_keeps w None = tt
value_keeps w (Some x) = refl

-- ---- answers

same_keeps : (w : World) (o : Option World) → KeepsIf w o → (or_same w o).failures ≡ w.failures
same_keeps w None h = refl
same_keeps w (Some u) h = h

given_keeps : (t : Table) (field : ℕ) (w : World) (base value : Option Value) → KeepsIf w (write_given t field w base value)
given_keeps t field w (Some base) (Some value) = write_keeps t (spot.Field field) base value w
given_keeps t field w (Some base) None = tt
given_keeps t field w None value = tt

stores_keep : (t : Table) (refs : List Value) (stores : List AnswerStore) (w : World) → (stores_done t refs stores w).failures ≡ w.failures
stores_keep t refs [] w = refl
stores_keep t refs (s ∷ rest) w =
    stores_keep t refs rest (store_done t refs s w)
    ∙ same_keeps w (write_given t s.field w (slice_get refs s.arg) (value_stored refs s.value)) (given_keeps t s.field w (slice_get refs s.arg) (value_stored refs s.value))

fresh_keeps : (o : Option Object) (w : World) → (with_fresh o w).failures ≡ w.failures
fresh_keeps None w = refl
fresh_keeps (Some o) w = refl

answer_keeps : (t : Table) (refs : List Value) (a : Answer) (w : World) → (answer_done t refs a w).failures ≡ w.failures
answer_keeps t refs a w = stores_keep t refs a.stores (with_fresh (new_object t a.gives) w) ∙ fresh_keeps (new_object t a.gives) w

-- ---- operations

overflowing_keeps : (exact : ℤ → ℤ → ℤ) (vs : List Value) (w : World) → Keeps w (overflowing exact vs w)
overflowing_keeps exact [] w = tt
overflowing_keeps exact (v.Null ∷ xs) w = tt
overflowing_keeps exact (v.Obj n ∷ xs) w = tt
overflowing_keeps exact (v.Int a ∷ []) w = tt
overflowing_keeps exact (v.Int a ∷ v.Null ∷ xs) w = tt
overflowing_keeps exact (v.Int a ∷ v.Obj n ∷ xs) w = tt
overflowing_keeps exact (v.Int a ∷ v.Int b ∷ []) w = refl
overflowing_keeps exact (v.Int a ∷ v.Int b ∷ x ∷ xs) w = tt

get_field_keeps : (t : Table) (d : Descr) (vs : List Value) (w : World) → Keeps w (get_field t d vs w)
get_field_keeps t (descr.Field f) [] w = tt
get_field_keeps t (descr.Field f) (base ∷ []) w = value_keeps w (read t (spot.Field f) base w)
get_field_keeps t (descr.Field f) (base ∷ x ∷ xs) w = tt
get_field_keeps t descr.No vs w = tt
get_field_keeps t (descr.Size k) vs w = tt
get_field_keeps t (descr.Array k) vs w = tt
get_field_keeps t (descr.Call k) vs w = tt
get_field_keeps t (descr.Target k) vs w = tt

set_field_keeps : (t : Table) (d : Descr) (vs : List Value) (w : World) → Keeps w (set_field t d vs w)
set_field_keeps t (descr.Field f) [] w = tt
set_field_keeps t (descr.Field f) (base ∷ []) w = tt
set_field_keeps t (descr.Field f) (base ∷ value ∷ []) w = write_done_keeps w (write t (spot.Field f) base value w) (write_keeps t (spot.Field f) base value w)
set_field_keeps t (descr.Field f) (base ∷ value ∷ x ∷ xs) w = tt
set_field_keeps t descr.No vs w = tt
set_field_keeps t (descr.Size k) vs w = tt
set_field_keeps t (descr.Array k) vs w = tt
set_field_keeps t (descr.Call k) vs w = tt
set_field_keeps t (descr.Target k) vs w = tt

get_item_keeps : (t : Table) (d : Descr) (vs : List Value) (w : World) → Keeps w (get_item t d vs w)
get_item_keeps t (descr.Array a) [] w = tt
get_item_keeps t (descr.Array a) (base ∷ []) w = tt
get_item_keeps t (descr.Array a) (base ∷ v.Null ∷ xs) w = tt
get_item_keeps t (descr.Array a) (base ∷ v.Obj n ∷ xs) w = tt
get_item_keeps t (descr.Array a) (base ∷ v.Int i ∷ []) w = value_keeps w (read t (spot.Item a i) base w)
get_item_keeps t (descr.Array a) (base ∷ v.Int i ∷ x ∷ xs) w = tt
get_item_keeps t descr.No vs w = tt
get_item_keeps t (descr.Size k) vs w = tt
get_item_keeps t (descr.Field k) vs w = tt
get_item_keeps t (descr.Call k) vs w = tt
get_item_keeps t (descr.Target k) vs w = tt

set_item_keeps : (t : Table) (d : Descr) (vs : List Value) (w : World) → Keeps w (set_item t d vs w)
set_item_keeps t (descr.Array a) [] w = tt
set_item_keeps t (descr.Array a) (base ∷ []) w = tt
set_item_keeps t (descr.Array a) (base ∷ v.Null ∷ xs) w = tt
set_item_keeps t (descr.Array a) (base ∷ v.Obj n ∷ xs) w = tt
set_item_keeps t (descr.Array a) (base ∷ v.Int i ∷ []) w = tt
set_item_keeps t (descr.Array a) (base ∷ v.Int i ∷ value ∷ []) w = write_done_keeps w (write t (spot.Item a i) base value w) (write_keeps t (spot.Item a i) base value w)
set_item_keeps t (descr.Array a) (base ∷ v.Int i ∷ value ∷ x ∷ xs) w = tt
set_item_keeps t descr.No vs w = tt
set_item_keeps t (descr.Size k) vs w = tt
set_item_keeps t (descr.Field k) vs w = tt
set_item_keeps t (descr.Call k) vs w = tt
set_item_keeps t (descr.Target k) vs w = tt

get_length_keeps : (d : Descr) (vs : List Value) (w : World) → Keeps w (get_length d vs w)
get_length_keeps (descr.Array a) [] w = tt
get_length_keeps (descr.Array a) (base ∷ []) w = value_keeps w (option_map (λ n. v.Int (pos n)) (length_at a base w))
get_length_keeps (descr.Array a) (base ∷ x ∷ xs) w = tt
get_length_keeps descr.No vs w = tt
get_length_keeps (descr.Size k) vs w = tt
get_length_keeps (descr.Field k) vs w = tt
get_length_keeps (descr.Call k) vs w = tt
get_length_keeps (descr.Target k) vs w = tt

structure_keeps : (t : Table) (d : Descr) (w : World) → Keeps w (make_structure t d w)
structure_keeps t (descr.Size s) w = refl
structure_keeps t descr.No w = tt
structure_keeps t (descr.Field k) w = tt
structure_keeps t (descr.Array k) w = tt
structure_keeps t (descr.Call k) w = tt
structure_keeps t (descr.Target k) w = tt

items_keep : (t : Table) (array : ℕ) (o : Option ℕ) (w : World) → Keeps w (make_items t array o w)
items_keep t array None w = tt
items_keep t array (Some n) w = refl

array_keeps : (t : Table) (d : Descr) (vs : List Value) (w : World) → Keeps w (make_array t d vs w)
array_keeps t (descr.Array a) [] w = tt
array_keeps t (descr.Array a) (v.Null ∷ xs) w = tt
array_keeps t (descr.Array a) (v.Obj n ∷ xs) w = tt
array_keeps t (descr.Array a) (v.Int z ∷ []) w = items_keep t a (index_of z) w
array_keeps t (descr.Array a) (v.Int z ∷ x ∷ xs) w = tt
array_keeps t descr.No vs w = tt
array_keeps t (descr.Size k) vs w = tt
array_keeps t (descr.Field k) vs w = tt
array_keeps t (descr.Call k) vs w = tt
array_keeps t (descr.Target k) vs w = tt

answered_keeps : (b : Bool) (t : Table) (row : CallRow) (function : ℕ) (vs : List Value) (a : Answer) (rest : List Answer) (w : World) → Keeps w (answered_if b t row function vs a rest w)
answered_keeps true t row function vs a rest w = answer_keeps t (references vs) a _
answered_keeps false t row function vs a rest w = refl

first_keeps : (t : Table) (row : CallRow) (function : ℕ) (vs : List Value) (o : Option Answer) (rest : List Answer) (w : World) → Keeps w (called_first t row function vs o rest w)
first_keeps t row function vs None rest w = refl
first_keeps t row function vs (Some a) rest w = answered_keeps (fits t row (references vs) w.objects a) t row function vs a rest w

row_keeps : (t : Table) (o : Option CallRow) (function : ℕ) (vs : List Value) (w : World) → Keeps w (call_row t o function vs w)
row_keeps t None function vs w = tt
row_keeps t (Some row) function vs w = first_keeps t row function vs (slice_get w.answers 0) (drop 1 w.answers) w

function_keeps : (t : Table) (k : ℕ) (o : Option ℕ) (vs : List Value) (w : World) → Keeps w (call_function t k o vs w)
function_keeps t k None vs w = tt
function_keeps t k (Some function) vs w = row_keeps t (slice_get t.calls k) function vs w

call_keeps : (t : Table) (d : Descr) (args : List Arg) (vs : List Value) (w : World) → Keeps w (call t d args vs w)
call_keeps t (descr.Call k) args vs w = function_keeps t k (function_in args) vs w
call_keeps t descr.No args vs w = tt
call_keeps t (descr.Size k) args vs w = tt
call_keeps t (descr.Field k) args vs w = tt
call_keeps t (descr.Array k) args vs w = tt
call_keeps t (descr.Target k) args vs w = tt

performs_keep : (t : Table) (operation : OpCode) (d : Descr) (args : List Arg) (vs : List Value) (w : World) → Keeps w (perform t operation d args vs w)
performs_keep t code.IntAdd d args vs w = value_keeps w (fold code.IntAdd vs)
performs_keep t code.IntSub d args vs w = value_keeps w (fold code.IntSub vs)
performs_keep t code.IntMul d args vs w = value_keeps w (fold code.IntMul vs)
performs_keep t code.IntAnd d args vs w = value_keeps w (fold code.IntAnd vs)
performs_keep t code.IntOr d args vs w = value_keeps w (fold code.IntOr vs)
performs_keep t code.IntXor d args vs w = value_keeps w (fold code.IntXor vs)
performs_keep t code.IntLshift d args vs w = value_keeps w (fold code.IntLshift vs)
performs_keep t code.IntRshift d args vs w = value_keeps w (fold code.IntRshift vs)
performs_keep t code.UintRshift d args vs w = value_keeps w (fold code.UintRshift vs)
performs_keep t code.IntLt d args vs w = value_keeps w (fold code.IntLt vs)
performs_keep t code.IntLe d args vs w = value_keeps w (fold code.IntLe vs)
performs_keep t code.IntEq d args vs w = value_keeps w (fold code.IntEq vs)
performs_keep t code.IntNe d args vs w = value_keeps w (fold code.IntNe vs)
performs_keep t code.IntGt d args vs w = value_keeps w (fold code.IntGt vs)
performs_keep t code.IntGe d args vs w = value_keeps w (fold code.IntGe vs)
performs_keep t code.UintLt d args vs w = value_keeps w (fold code.UintLt vs)
performs_keep t code.UintLe d args vs w = value_keeps w (fold code.UintLe vs)
performs_keep t code.UintGt d args vs w = value_keeps w (fold code.UintGt vs)
performs_keep t code.UintGe d args vs w = value_keeps w (fold code.UintGe vs)
performs_keep t code.IntIsZero d args vs w = value_keeps w (fold code.IntIsZero vs)
performs_keep t code.IntIsTrue d args vs w = value_keeps w (fold code.IntIsTrue vs)
performs_keep t code.IntNeg d args vs w = value_keeps w (fold code.IntNeg vs)
performs_keep t code.IntInvert d args vs w = value_keeps w (fold code.IntInvert vs)
performs_keep t code.IntForceGeZero d args vs w = value_keeps w (fold code.IntForceGeZero vs)
performs_keep t code.SameAsI d args vs w = value_keeps w (fold code.SameAsI vs)
performs_keep t code.SameAsR d args vs w = value_keeps w (fold code.SameAsR vs)
performs_keep t code.PtrEq d args vs w = value_keeps w (fold code.PtrEq vs)
performs_keep t code.PtrNe d args vs w = value_keeps w (fold code.PtrNe vs)
performs_keep t code.IntAddOvf d args vs w = overflowing_keeps (λ a b. a +ℤ b) vs w
performs_keep t code.IntSubOvf d args vs w = overflowing_keeps (λ a b. a -ℤ b) vs w
performs_keep t code.IntMulOvf d args vs w = overflowing_keeps (λ a b. a *ℤ b) vs w
performs_keep t code.GetfieldGcI d args vs w = get_field_keeps t d vs w
performs_keep t code.GetfieldGcR d args vs w = get_field_keeps t d vs w
performs_keep t code.SetfieldGc d args vs w = set_field_keeps t d vs w
performs_keep t code.GetarrayitemGcI d args vs w = get_item_keeps t d vs w
performs_keep t code.GetarrayitemGcR d args vs w = get_item_keeps t d vs w
performs_keep t code.SetarrayitemGc d args vs w = set_item_keeps t d vs w
performs_keep t code.ArraylenGc d args vs w = get_length_keeps d vs w
performs_keep t code.New d args vs w = structure_keeps t d w
performs_keep t code.NewWithVtable d args vs w = structure_keeps t d w
performs_keep t code.NewArrayClear d args vs w = array_keeps t d vs w
performs_keep t code.CallI d args vs w = call_keeps t d args vs w
performs_keep t code.CallR d args vs w = call_keeps t d args vs w
performs_keep t code.CallN d args vs w = call_keeps t d args vs w
performs_keep t code.GuardTrue d args vs w = value_keeps w (fold code.GuardTrue vs)
performs_keep t code.GuardFalse d args vs w = value_keeps w (fold code.GuardFalse vs)
performs_keep t code.GuardValue d args vs w = value_keeps w (fold code.GuardValue vs)
performs_keep t code.GuardNonnull d args vs w = value_keeps w (fold code.GuardNonnull vs)
performs_keep t code.GuardIsnull d args vs w = value_keeps w (fold code.GuardIsnull vs)
performs_keep t code.GuardClass d args vs w = value_keeps w (fold code.GuardClass vs)
performs_keep t code.GuardNonnullClass d args vs w = value_keeps w (fold code.GuardNonnullClass vs)
performs_keep t code.GuardNoOverflow d args vs w = value_keeps w (fold code.GuardNoOverflow vs)
performs_keep t code.GuardOverflow d args vs w = value_keeps w (fold code.GuardOverflow vs)
performs_keep t code.GuardNoException d args vs w = value_keeps w (fold code.GuardNoException vs)
performs_keep t code.Jump d args vs w = value_keeps w (fold code.Jump vs)
performs_keep t code.Finish d args vs w = value_keeps w (fold code.Finish vs)

-- ---- operations of pieces

abbrev TurnKeeps : World → Turn Opt → Type 0
TurnKeeps w (On s) = s.world.failures ≡ w.failures
TurnKeeps w (Off l) = (world_left l).failures ≡ w.failures

result_keeps : (r : Option BoxId) (s : Opt) (x : Option Value) (u w : World) → w.failures ≡ u.failures → TurnKeeps u (opt_result r s x w)
result_keeps (Some b) s (Some x) u w h = h
result_keeps (Some b) s None u w h = h
result_keeps None s x u w h = h

plain_keeps : (r : Option BoxId) (s : Opt) (d : Done) → Keeps s.world d → TurnKeeps s.world (opt_plain r s d)
plain_keeps r s (Gave x w) h = result_keeps r s x s.world w h
plain_keeps r s Bad h = refl
plain_keeps r s (Waited w) h = h
plain_keeps r s (Misfitted w) h = h

perform_keeps : (t : Table) (operation : OpCode) (r : Option BoxId) (args : List Arg) (d : Descr) (s : Opt) (o : Option (List Value)) → TurnKeeps s.world (opt_perform t operation r args d s o)
perform_keeps t operation r args d s None = refl
perform_keeps t operation r args d s (Some vs) = plain_keeps r s (perform t operation d args vs s.world) (performs_keep t operation d args vs s.world)

leave_keeps : (leave : List Value → World → Leave) → ((vs : List Value) (w : World) → world_left (leave vs w) ≡ w) → (s : Opt) (o : Option (List Value)) → TurnKeeps s.world (opt_leave leave s o)
leave_keeps leave same s None = refl
leave_keeps leave same s (Some vs) = ap (λ (w : World). w.failures) (same vs s.world)

fail_keeps : (n : ℕ) (snap : Snapshot) (s : Opt) → TurnKeeps s.world (opt_fail n snap s)
fail_keeps n snap s = leave_keeps (Fails n) (λ vs w. refl) s (opt_values s (resume_args snap))

guard_keeps : (n : ℕ) (snap : Snapshot) (s : Opt) (o : Option Bool) → TurnKeeps s.world (opt_guard n snap s o)
guard_keeps n snap s None = refl
guard_keeps n snap s (Some true) = refl
guard_keeps n snap s (Some false) = fail_keeps n snap s

test_keeps : (operation : OpCode) (args : List Arg) (n : ℕ) (snap : Snapshot) (s : Opt) (o : Option (List Value)) → TurnKeeps s.world (opt_test operation args n snap s o)
test_keeps operation args n snap s None = refl
test_keeps operation args n snap s (Some vs) = guard_keeps n snap s (passes operation args vs s.world)

pub step_counts_none : (t : Table) (op : OptOp) (s : Opt) → TurnKeeps s.world (opt_step t op s)
step_counts_none t (opt.Plain operation r args d) s = perform_keeps t operation r args d s (opt_values s args)
step_counts_none t (opt.Guard operation args n snap) s = test_keeps operation args n snap s (opt_values s args)
step_counts_none t (opt.Exit n snap) s = fail_keeps n snap s
step_counts_none t (opt.Jump to args) s = leave_keeps Jumps (λ vs w. refl) s (opt_values s args)
step_counts_none t (opt.Finish value) s = leave_keeps Finishes (λ vs w. refl) s (opt_values s (finished value))

pub pieces_steady : (set : TraceSet) (ps : List Piece) (cuts : Cuts) → Steady (pieces set ps cuts)
pieces_steady set ps cuts = record {
  begins = λ q vs w. refl;
  goes = λ op s t e. subst (TurnKeeps s.world) e (step_counts_none set.table op s);
  leaves = λ op s l e. subst (TurnKeeps s.world) e (step_counts_none set.table op s);
}
