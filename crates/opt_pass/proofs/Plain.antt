-- The plain handler: an operation that both sides perform.
use Rattle.std.proofs.Common.{◌≡◌, ℕ, ◌≤◌, Bool, true, false, List, [], ◌∷◌, ◌++◌, Option, Some, None, length, slice_get, map, drop, refl, sym, ap, ◌∙◌, subst, arith}
use Rattle.std.specs.List.{AllZip}
use Rattle.trace_ops.specs.declared.code.OpCode.{OpCode}
use Rattle.trace_ops.specs.declared.code.OpCode.TheVariants as code
use Rattle.trace_ops.specs.declared.trace.BoxId.{BoxId}
use Rattle.trace_ops.specs.declared.trace.Arg.{Arg}
use Rattle.trace_ops.specs.declared.trace.Descr.{Descr}
use Rattle.trace_ops.specs.declared.trace.Op.{Op}
use Rattle.trace_ops.specs.declared.table.Table.{Table}
use Rattle.trace_ops.specs.declared.piece.OptOp.TheVariants as opt
use Rattle.trace_ops.specs.declared.piece.Entry.{Entry}
use Rattle.trace_ops.specs.Classes.{is_overflowing}
use Rattle.trace_meaning.specs.declared.value.Value.{Value}
use Rattle.trace_meaning.specs.declared.value.Value.TheVariants as v
use Rattle.trace_meaning.specs.World.{World, bytes_in}
use Rattle.trace_meaning.specs.Legs.{Wrong, Turn, Off}
use Rattle.trace_meaning.specs.Performing.{Done, Gave, Bad, Waited, Misfitted, perform, overflowing, function_in}
use Rattle.trace_meaning.specs.Recorded.{Rec, values_of, recorded_result, recorded_plain, recorded_with, recorded_step}
use Rattle.heap_shape.specs.Sameness.{MapsIf}
use Rattle.opt_meaning.specs.Step.{Opt, opt_result, opt_plain, opt_perform, opt_step}
use Rattle.opt_meaning.specs.Agrees.{MapsAt, Agrees}
use Rattle.opt_meaning.specs.Admits.{plain_entry}
use Rattle.opt_pass.specs.declared.state.Pass.{Pass}
use Rattle.opt_pass.specs.Tables.{pending_now}
use Rattle.opt_pass.specs.State.{args_of, next_box, with_giving, with_plain}
use Rattle.trace_meaning.specs.Legs.{then_turn, drive_to}
use Rattle.opt_pass.specs.Standing.{known_of, at_states, IsQuiet, Stands, SameTurn}
use Rattle.opt_pass.specs.Keeping.{IsRight, KindsNow}
use Rattle.std.specs.Prelude.{ℤ, sum_by}
use Rattle.trace_meaning.specs.World.{size_of}
use Rattle.opt_pass.proofs.Binding.{bound_same}
use Rattle.trace_ops.specs.declared.table.CallRow.{CallRow}
use Rattle.trace_ops.specs.declared.piece.Spot.TheVariants as spot
use Rattle.trace_ops.specs.declared.trace.Descr.TheVariants as descr
use Rattle.trace_meaning.specs.declared.call.Answer.{Answer}
use Rattle.trace_meaning.specs.Values.{references}
use Rattle.trace_meaning.specs.Folding.{fold}
use Rattle.trace_meaning.specs.Answers.{fits}
use Rattle.trace_meaning.specs.Performing.{value_done, write_done, get_field, set_field, get_item, set_item, get_length, make_structure, make_items, make_array, answered_if, called_first, call_row, call_function, call}
use Rattle.trace_meaning.specs.Objects.{read, write, index_of}
use Rattle.agreement.specs.Calling.{in_worlds}
use Rattle.agreement.specs.Performs.{SameUnlessBad}
use Rattle.opt_pass.proofs.Runs.{wrong_here}
use Rattle.opt_pass.proofs.Args.{args_stand, same_function}
use Rattle.opt_pass.proofs.Bound.{stands_worlds, stands_bound}
use Rattle.opt_pass.specs.Laws.{Laws}

-- A call that waits leaves the objects

abbrev pub StaysAt : World → Done → Type 0
StaysAt w (Gave x u) = Unit {0}
StaysAt w Bad = Unit {0}
StaysAt w (Waited u) = u.objects ≡ w.objects
StaysAt w (Misfitted u) = u.objects ≡ w.objects

value_stays : (w : World) (x : Option Value) → StaysAt w (value_done w x)
value_stays w None = tt
value_stays w (Some x) = tt

write_stays : (w : World) (u : Option World) → StaysAt w (write_done u)
write_stays w None = tt
write_stays w (Some u) = tt

overflow_stays : (exact : ℤ → ℤ → ℤ) (vs : List Value) (w : World) → StaysAt w (overflowing exact vs w)
overflow_stays exact (v.Int a ∷ v.Int b ∷ []) w = tt
overflow_stays exact _ w = tt

get_field_stays : (t : Table) (d : Descr) (vs : List Value) (w : World) → StaysAt w (get_field t d vs w)
get_field_stays t (descr.Field f) (base ∷ []) w = value_stays w (read t (spot.Field f) base w)
get_field_stays t _ _ w = tt

set_field_stays : (t : Table) (d : Descr) (vs : List Value) (w : World) → StaysAt w (set_field t d vs w)
set_field_stays t (descr.Field f) (base ∷ x ∷ []) w = write_stays w (write t (spot.Field f) base x w)
set_field_stays t _ _ w = tt

get_item_stays : (t : Table) (d : Descr) (vs : List Value) (w : World) → StaysAt w (get_item t d vs w)
get_item_stays t (descr.Array a) (base ∷ v.Int i ∷ []) w = value_stays w (read t (spot.Item a i) base w)
get_item_stays t _ _ w = tt

set_item_stays : (t : Table) (d : Descr) (vs : List Value) (w : World) → StaysAt w (set_item t d vs w)
set_item_stays t (descr.Array a) (base ∷ v.Int i ∷ x ∷ []) w = write_stays w (write t (spot.Item a i) base x w)
set_item_stays t _ _ w = tt

get_length_stays : (d : Descr) (vs : List Value) (w : World) → StaysAt w (get_length d vs w)
get_length_stays (descr.Array a) (base ∷ []) w = value_stays w _
get_length_stays _ _ w = tt

structure_stays : (t : Table) (d : Descr) (w : World) → StaysAt w (make_structure t d w)
structure_stays t (descr.Size s) w = tt
structure_stays t _ w = tt

items_stay : (t : Table) (array : ℕ) (n : Option ℕ) (w : World) → StaysAt w (make_items t array n w)
items_stay t array None w = tt
items_stay t array (Some n) w = tt

array_stays : (t : Table) (d : Descr) (vs : List Value) (w : World) → StaysAt w (make_array t d vs w)
array_stays t (descr.Array a) (v.Int z ∷ []) w = items_stay t a (index_of z) w
array_stays t _ _ w = tt

answered_stays : (fit : Bool) (t : Table) (row : CallRow) (function : ℕ) (vs : List Value) (a : Answer) (rest : List Answer) (w : World) → StaysAt w (answered_if fit t row function vs a rest w)
answered_stays true t row function vs a rest w = tt
answered_stays false t row function vs a rest w = refl

first_stays : (t : Table) (row : CallRow) (function : ℕ) (vs : List Value) (w : World) (a : Option Answer) (rest : List Answer) → StaysAt w (called_first t row function vs a rest w)
first_stays t row function vs w None rest = refl
first_stays t row function vs w (Some a) rest = answered_stays (fits t row (references vs) w.objects a) t row function vs a rest w

row_stays : (t : Table) (row : Option CallRow) (function : ℕ) (vs : List Value) (w : World) → StaysAt w (call_row t row function vs w)
row_stays t None function vs w = tt
row_stays t (Some row) function vs w = first_stays t row function vs w (slice_get w.answers 0) (drop 1 w.answers)

function_stays : (t : Table) (k : ℕ) (function : Option ℕ) (vs : List Value) (w : World) → StaysAt w (call_function t k function vs w)
function_stays t k None vs w = tt
function_stays t k (Some function) vs w = row_stays t (slice_get t.calls k) function vs w

call_stays : (t : Table) (d : Descr) (args : List Arg) (vs : List Value) (w : World) → StaysAt w (call t d args vs w)
call_stays t (descr.Call k) args vs w = function_stays t k (function_in args) vs w
call_stays t _ args vs w = tt

perform_stays : (t : Table) (operation : OpCode) (d : Descr) (args : List Arg) (vs : List Value) (w : World) → StaysAt w (perform t operation d args vs w)
perform_stays t code.IntAddOvf d args vs w = overflow_stays _ vs w
perform_stays t code.IntSubOvf d args vs w = overflow_stays _ vs w
perform_stays t code.IntMulOvf d args vs w = overflow_stays _ vs w
perform_stays t code.GetfieldGcI d args vs w = get_field_stays t d vs w
perform_stays t code.GetfieldGcR d args vs w = get_field_stays t d vs w
perform_stays t code.SetfieldGc d args vs w = set_field_stays t d vs w
perform_stays t code.GetarrayitemGcI d args vs w = get_item_stays t d vs w
perform_stays t code.GetarrayitemGcR d args vs w = get_item_stays t d vs w
perform_stays t code.SetarrayitemGc d args vs w = set_item_stays t d vs w
perform_stays t code.ArraylenGc d args vs w = get_length_stays d vs w
perform_stays t code.New d args vs w = structure_stays t d w
perform_stays t code.NewWithVtable d args vs w = structure_stays t d w
perform_stays t code.NewArrayClear d args vs w = array_stays t d vs w
perform_stays t code.CallI d args vs w = call_stays t d args vs w
perform_stays t code.CallR d args vs w = call_stays t d args vs w
perform_stays t code.CallN d args vs w = call_stays t d args vs w
perform_stays t operation d args vs w = value_stays w (fold operation vs)

-- An operation that sets overflow sets it alike

abbrev OverflowsSame : Bool → Done → Done → Type 0
OverflowsSame b dp dr = b ≡ true → (x y : Option Value) (w u : World) → dp ≡ Gave x w → dr ≡ Gave y u → w.overflow ≡ u.overflow

gave_world : (x y : Option Value) (w u : World) → Gave x w ≡ Gave y u → w ≡ u
gave_world x y w u e = ap of e
  where
    of : Done → World
    of (Gave z q) = q
    of _ = w

false_true : false ≡ true → ⊥
false_true e = cc

pub no_pending : (o : Pass) → IsQuiet o → (known_of o).pending ≡ []
no_pending o q = ap (map (pending_now o.forward)) q.pending

-- the piece's result
abbrev pub given_by : Pass → Option BoxId → Option BoxId
given_by o None = None
given_by o (Some b) = Some (next_box o b)

module _ (laws : Laws) (t : Table) (o : Pass) (r : Rec) (p : Opt) (h : Stands t o r p) where
  exact_same : (exact : ℤ → ℤ → ℤ) (us vs : List Value) → AllZip (MapsAt (at_states r p h.mapped h.virtuals)) us vs → (b : Bool) → OverflowsSame b (overflowing exact us p.world) (overflowing exact vs r.world)
  exact_same exact us vs m b is x y w u ep er =
      let s = laws.overflows_alike t (known_of o) r.boxes (at_states r p h.mapped h.virtuals) h.agrees exact us vs y u m er in
      ap (λ (z : World). z.overflow) (gave_world x y w s.0 (sym ep ∙ s.1)) ∙ s.2

  overflows_same : (operation : OpCode) (d : Descr) (args others : List Arg) (us vs : List Value) → AllZip (MapsAt (at_states r p h.mapped h.virtuals)) us vs → OverflowsSame (is_overflowing operation) (perform t operation d args us p.world) (perform t operation d others vs r.world)
  overflows_same code.IntAddOvf d args others us vs m = exact_same _ us vs m true
  overflows_same code.IntSubOvf d args others us vs m = exact_same _ us vs m true
  overflows_same code.IntMulOvf d args others us vs m = exact_same _ us vs m true
  overflows_same operation d args others us vs m = λ is. absurd (false_true is)

  bytes : (w u : World) → w.objects ≡ p.world.objects → u.objects ≡ r.world.objects → bytes_in t w ≤ bytes_in t u
  bytes w u e1 e2 =
      let le : bytes_in t p.world ≤ bytes_in t r.world = laws.bytes_agree t (known_of o) r.boxes (at_states r p h.mapped h.virtuals) h.agrees in
      let one : bytes_in t w ≡ bytes_in t p.world = ap (λ l. sum_by size_of (drop (length t.prebuilts) l)) e1 in
      let two : bytes_in t u ≡ bytes_in t r.world = ap (λ l. sum_by size_of (drop (length t.prebuilts) l)) e2 in
      omega (arith, le, one, two)

  -- Both turns

  module _ (operation : OpCode) (args : List Arg) (d : Descr) where
    gave : (b : BoxId) (x y : Option Value) (w u : World) (mapped : List ℕ) → MapsIf (slice_get mapped) x y → Agrees t (known_of o) r.boxes (in_worlds mapped w u (at_states r p h.mapped h.virtuals)) → (is_overflowing operation ≡ true → w.overflow ≡ u.overflow) → o.ended ≡ false → KindsNow (recorded_result (Some b) r y u)
        → SameTurn t (with_giving o operation b args d) (recorded_result (Some b) r y u) (then_turn (opt_result (Some (next_box o b)) p x w) (drive_to (opt_step t) []))
    gave b None None w u mapped m a over going kinds = record { first = w.log; later = []; splits = sym (append_none w.log); same = laws.calls_are_same t (known_of o) r.boxes (in_worlds mapped w u (at_states r p h.mapped h.virtuals)) a }
      where
        append_none : {X : Type 0} (xs : List X) → xs ++ [] ≡ xs
        append_none [] = refl
        append_none (z ∷ zs) = ap (λ l. z ∷ l) (append_none zs)
    gave b None (Some y) w u mapped m a over going kinds = absurd m
    gave b (Some x) None w u mapped m a over going kinds = absurd m
    gave b (Some x) (Some y) w u mapped m a over going kinds = (
      going,
      stands_bound laws t (record o { ops = o.ops ++ opt.Plain operation (Some (next_box o b)) args d ∷ []; checked = is_overflowing operation }) (record r { world = u }) (record p { world = w })
          (stands_worlds t o r p h (o.ops ++ opt.Plain operation (Some (next_box o b)) args d ∷ []) (is_overflowing operation) mapped w u a over) b x y m (kinds b y (bound_same laws b y r.boxes)),
    )

    turn : (to : Option BoxId) (dp dr : Done) → SameUnlessBad t (known_of o) r.boxes (at_states r p h.mapped h.virtuals) dp dr → OverflowsSame (is_overflowing operation) dp dr → StaysAt p.world dp → StaysAt r.world dr → o.ended ≡ false
        → SameTurn t (with_plain o operation to args d) (Off (Wrong r.world)) (then_turn (opt_plain (given_by o to) p dp) (drive_to (opt_step t) []))
        → KindsNow (recorded_plain to r dr)
        → SameTurn t (with_plain o operation to args d) (recorded_plain to r dr) (then_turn (opt_plain (given_by o to) p dp) (drive_to (opt_step t) []))
    turn to (Gave x w) Bad s over stays stays' going wrong kinds = wrong
    turn to Bad Bad s over stays stays' going wrong kinds = wrong
    turn to (Waited w) Bad s over stays stays' going wrong kinds = wrong
    turn to (Misfitted w) Bad s over stays stays' going wrong kinds = wrong
    turn (Some b) (Gave x w) (Gave y u) s over stays stays' going wrong kinds = gave b x y w u s.0 s.2 s.3 (λ is. over is x y w u refl refl) going kinds
    turn None (Gave x w) (Gave y u) s over stays stays' going wrong kinds = (going, stands_worlds t o r p h (o.ops ++ opt.Plain operation None args d ∷ []) (is_overflowing operation) s.0 w u s.3 (λ is. over is x y w u refl refl))
    turn to Bad (Gave y u) s over stays stays' going wrong kinds = absurd s
    turn to (Waited w) (Gave y u) s over stays stays' going wrong kinds = absurd s
    turn to (Misfitted w) (Gave y u) s over stays stays' going wrong kinds = absurd s
    turn to (Waited w) (Waited u) s over stays stays' going wrong kinds = ((record { mapped = h.mapped; lawful = h.agrees.injective; calls = s }, bytes w u stays stays'), tt)
    turn to Bad (Waited u) s over stays stays' going wrong kinds = absurd s
    turn to (Gave x w) (Waited u) s over stays stays' going wrong kinds = absurd s
    turn to (Misfitted w) (Waited u) s over stays stays' going wrong kinds = absurd s
    turn to (Misfitted w) (Misfitted u) s over stays stays' going wrong kinds = ((record { mapped = h.mapped; lawful = h.agrees.injective; calls = s }, bytes w u stays stays'), tt)
    turn to Bad (Misfitted u) s over stays stays' going wrong kinds = absurd s
    turn to (Gave x w) (Misfitted u) s over stays stays' going wrong kinds = absurd s
    turn to (Waited w) (Misfitted u) s over stays stays' going wrong kinds = absurd s

  -- The whole

  module _ (op : Op) (right : IsRight t o.target op) (going : o.ended ≡ false) where
    performed : (vs : List Value) → values_of r op.args ≡ Some vs → KindsNow (recorded_plain op.result r (perform t op.code op.descr op.args vs r.world))
        → SameTurn t (with_plain o op.code op.result (args_of o op.args) op.descr) (recorded_plain op.result r (perform t op.code op.descr op.args vs r.world)) (drive_to (opt_step t) (opt.Plain op.code (given_by o op.result) (args_of o op.args) op.descr ∷ []) p)
    performed vs e kinds =
        let s = args_stand t o r p h op.args vs right.args e in
        let new : Pass = with_plain o op.code op.result (args_of o op.args) op.descr in
        let turned : Option (List Value) → Turn Opt = λ z. then_turn (opt_perform t op.code (given_by o op.result) (args_of o op.args) op.descr p z) (drive_to (opt_step t) []) in
        let wrong : SameTurn t new (Off (Wrong r.world)) (turned (Some s.0)) = subst (λ z. SameTurn t new (Off (Wrong r.world)) (turned z)) s.1 (wrong_here laws t o new r p (opt.Plain op.code (given_by o op.result) (args_of o op.args) op.descr ∷ []) h) in
        subst (λ z. SameTurn t new (recorded_plain op.result r (perform t op.code op.descr op.args vs r.world)) (turned z)) (sym s.1)
        (turn op.code (args_of o op.args) op.descr op.result (perform t op.code op.descr (args_of o op.args) s.0 p.world) (perform t op.code op.descr op.args vs r.world)
        (laws.performs_agree t (known_of o) r.boxes (at_states r p h.mapped h.virtuals) h.agrees op.code op.descr (args_of o op.args) op.args s.0 vs (no_pending o h.quiet) tt (same_function t o r p h op.args vs e) s.2)
        (overflows_same op.code op.descr (args_of o op.args) op.args s.0 vs s.2)
        (perform_stays t op.code op.descr (args_of o op.args) s.0 p.world) (perform_stays t op.code op.descr op.args vs r.world) going wrong kinds)

    valued : (x : Option (List Value)) → values_of r op.args ≡ x → ((vs : List Value) → recorded_with t op r (Some vs) ≡ recorded_plain op.result r (perform t op.code op.descr op.args vs r.world)) → KindsNow (recorded_with t op r x)
        → SameTurn t (with_plain o op.code op.result (args_of o op.args) op.descr) (recorded_with t op r x) (drive_to (opt_step t) (opt.Plain op.code (given_by o op.result) (args_of o op.args) op.descr ∷ []) p)
    valued None e part kinds = wrong_here laws t o (with_plain o op.code op.result (args_of o op.args) op.descr) r p (opt.Plain op.code (given_by o op.result) (args_of o op.args) op.descr ∷ []) h
    valued (Some vs) e part kinds =
        subst (λ z. SameTurn t (with_plain o op.code op.result (args_of o op.args) op.descr) z (drive_to (opt_step t) (opt.Plain op.code (given_by o op.result) (args_of o op.args) op.descr ∷ []) p)) (sym (part vs))
        (performed vs e (subst KindsNow (part vs) kinds))

    pub plain_turns : ((vs : List Value) → recorded_with t op r (Some vs) ≡ recorded_plain op.result r (perform t op.code op.descr op.args vs r.world)) → KindsNow (recorded_step t op r)
        → SameTurn t (with_plain o op.code op.result (args_of o op.args) op.descr) (recorded_step t op r) (drive_to (opt_step t) (opt.Plain op.code (given_by o op.result) (args_of o op.args) op.descr ∷ []) p)
    plain_turns part kinds = valued (values_of r op.args) refl part kinds
