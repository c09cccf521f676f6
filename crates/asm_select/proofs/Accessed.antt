-- The code of an operation on an object does what the operation does.
use Rattle.std.proofs.Common.{◌≡◌, ◌⊎◌, ℕ, ◌+◌, Bool, true, false, cond, List, [], ◌∷◌, ◌++◌, length, Option, Some, None, refl, sym, ap, ◌∙◌, subst, inl, inr, arith, ℤ, pos}
use Rattle.trace_ops.specs.declared.code.OpCode.{OpCode}
use Rattle.trace_ops.specs.declared.code.OpCode.TheVariants as code
use Rattle.trace_ops.specs.declared.table.Table.{Table}
use Rattle.trace_ops.specs.declared.trace.BoxId.{BoxId}
use Rattle.trace_ops.specs.declared.trace.Arg.{Arg}
use Rattle.trace_ops.specs.declared.trace.Descr.{Descr}
use Rattle.trace_ops.specs.declared.trace.Descr.TheVariants as descr
use Rattle.trace_ops.specs.declared.piece.OptOp.{OptOp}
use Rattle.trace_ops.specs.declared.piece.OptOp.TheVariants as opt
use Rattle.trace_ops.specs.declared.piece.Spot.TheVariants as spot
use Rattle.trace_ops.specs.Classes.{is_overflowing}
use Rattle.trace_meaning.specs.declared.value.Value.{Value}
use Rattle.trace_meaning.specs.declared.value.Value.TheVariants as v
use Rattle.trace_meaning.specs.declared.value.Object.{Object}
use Rattle.trace_meaning.specs.Boxes.{value_in, arg_value, all_values, has_value}
use Rattle.trace_meaning.specs.World.{World}
use Rattle.trace_meaning.specs.Objects.{write, length_at}
use Rattle.trace_meaning.specs.Objects as objects
use Rattle.std.specs.Option.{option_map}
use Rattle.trace_meaning.specs.Performing.{Done, Gave, Bad, Waited, Misfitted, value_done, write_done, get_field, set_field, get_item, set_item, get_length, make_structure, make_array, call, perform}
use Rattle.opt_meaning.specs.Step.{Opt, opt_plain, opt_perform, opt_values}
use Rattle.arena_objects.specs.Standing.{IsPart}
use Rattle.arena_objects.specs.Spots.{spot_offset}
use Rattle.target_base.specs.declared.place.Place.{Place}
use Rattle.x64_machine.specs.State.{State}
use Rattle.asm_select.specs.declared.form.Access.{Access}
use Rattle.asm_select.specs.declared.form.Access.TheVariants as access
use Rattle.asm_select.specs.declared.operand.Operand.{Operand}
use Rattle.asm_select.specs.declared.operand.Operand.TheVariants.{At, Imm}
use Rattle.asm_select.specs.declared.told.Told.{Told}
use Rattle.asm_select.specs.declared.told.Told.TheVariants as tell
use Rattle.asm_select.specs.Slots.{Slot, puts}
use Rattle.asm_select.specs.Valued.{r11, MayHold}
use Rattle.asm_select.specs.Chosen.{Setting, operand_of, access_form, unary_form, binary_form, unary_cond, binary_cond, is_tested, told_if, told_over, told_by, read_code, write_code, read_item_code, write_item_code, is_near, item_code, set_item_code, access_code}
use Rattle.asm_select.specs.Reached.{Reach, IsApart, Holds, HasWords, IsWordArg}
use Rattle.asm_select.specs.Ended.{FollowsBy, Counts, AreValued, IsAccess, TableServes, reads_of, writes_of}
use Rattle.asm_select.specs.Accesses.{IsBefore}
use Rattle.asm_select.specs.Performed.{CanBeRead, IsHeld, Performed}
use Rattle.asm_select.proofs.Steps.{weaker}
use Rattle.asm_select.proofs.Micro.{CanRead}
use Rattle.asm_select.proofs.Values.{arg_reads, arg_is, arg_part, one_value, two_values, first_value}
use Rattle.asm_select.proofs.Results.{with_result}
use Rattle.asm_select.proofs.Tables.{object_result_holds, object_store_holds}
use Rattle.asm_select.proofs.Guards.{first_is}
use Rattle.asm_select.proofs.Accessing.{gets_field, gets_known_item, gets_item, gets_length, sets_field, sets_known_item, sets_item}
use Rattle.asm_select.proofs.Relying.{Relied}

-- ---- what an operation is, by its form

abbrev pub done_of : Access → Table → Descr → List Arg → List Value → World → Done
done_of access.GetField t d args vs w = get_field t d vs w
done_of access.SetField t d args vs w = set_field t d vs w
done_of access.GetItem t d args vs w = get_item t d vs w
done_of access.SetItem t d args vs w = set_item t d vs w
done_of access.Length t d args vs w = get_length d vs w
done_of access.Structure t d args vs w = make_structure t d w
done_of access.Array t d args vs w = make_array t d vs w
done_of access.Call t d args vs w = call t d args vs w

abbrev done_if : Option Access → Table → Descr → List Arg → List Value → World → Done
done_if None t d args vs w = Bad
done_if (Some form) t d args vs w = done_of form t d args vs w

pub performs_as : (operation : OpCode) (form : Access) (t : Table) (d : Descr) (args : List Arg) (vs : List Value) (w : World) → access_form operation ≡ Some form → perform t operation d args vs w ≡ done_of form t d args vs w
performs_as code.GetfieldGcI form t d args vs w e = ap (λ (o : Option Access). done_if o t d args vs w) e
performs_as code.GetfieldGcR form t d args vs w e = ap (λ (o : Option Access). done_if o t d args vs w) e
performs_as code.SetfieldGc form t d args vs w e = ap (λ (o : Option Access). done_if o t d args vs w) e
performs_as code.GetarrayitemGcI form t d args vs w e = ap (λ (o : Option Access). done_if o t d args vs w) e
performs_as code.GetarrayitemGcR form t d args vs w e = ap (λ (o : Option Access). done_if o t d args vs w) e
performs_as code.SetarrayitemGc form t d args vs w e = ap (λ (o : Option Access). done_if o t d args vs w) e
performs_as code.ArraylenGc form t d args vs w e = ap (λ (o : Option Access). done_if o t d args vs w) e
performs_as code.New form t d args vs w e = ap (λ (o : Option Access). done_if o t d args vs w) e
performs_as code.NewWithVtable form t d args vs w e = ap (λ (o : Option Access). done_if o t d args vs w) e
performs_as code.NewArrayClear form t d args vs w e = ap (λ (o : Option Access). done_if o t d args vs w) e
performs_as code.CallI form t d args vs w e = ap (λ (o : Option Access). done_if o t d args vs w) e
performs_as code.CallR form t d args vs w e = ap (λ (o : Option Access). done_if o t d args vs w) e
performs_as code.CallN form t d args vs w e = ap (λ (o : Option Access). done_if o t d args vs w) e
performs_as _ form t d args vs w e = absurd (cc)

-- the loads and stores of a form
abbrev pub loads_by : Access → ℕ
loads_by access.GetField = 1
loads_by access.GetItem = 1
loads_by access.Length = 1
loads_by form = 0

abbrev pub stores_by : Access → ℕ
stores_by access.SetField = 1
stores_by access.SetItem = 1
stores_by form = 0

abbrev count_if : (Access → ℕ) → Option Access → ℕ
count_if f None = 0
count_if f (Some form) = f form

pub counts_as : (operation : OpCode) (form : Access) → access_form operation ≡ Some form → (reads_of operation ≡ loads_by form) × (writes_of operation ≡ stores_by form)
counts_as code.GetfieldGcI form e = (ap (count_if loads_by) e, ap (count_if stores_by) e)
counts_as code.GetfieldGcR form e = (ap (count_if loads_by) e, ap (count_if stores_by) e)
counts_as code.SetfieldGc form e = (ap (count_if loads_by) e, ap (count_if stores_by) e)
counts_as code.GetarrayitemGcI form e = (ap (count_if loads_by) e, ap (count_if stores_by) e)
counts_as code.GetarrayitemGcR form e = (ap (count_if loads_by) e, ap (count_if stores_by) e)
counts_as code.SetarrayitemGc form e = (ap (count_if loads_by) e, ap (count_if stores_by) e)
counts_as code.ArraylenGc form e = (ap (count_if loads_by) e, ap (count_if stores_by) e)
counts_as code.New form e = (ap (count_if loads_by) e, ap (count_if stores_by) e)
counts_as code.NewWithVtable form e = (ap (count_if loads_by) e, ap (count_if stores_by) e)
counts_as code.NewArrayClear form e = (ap (count_if loads_by) e, ap (count_if stores_by) e)
counts_as code.CallI form e = (ap (count_if loads_by) e, ap (count_if stores_by) e)
counts_as code.CallR form e = (ap (count_if loads_by) e, ap (count_if stores_by) e)
counts_as code.CallN form e = (ap (count_if loads_by) e, ap (count_if stores_by) e)
counts_as _ form e = absurd (cc)

-- nothing is told by the flags
no_form : (operation : OpCode) (form : Access) → access_form operation ≡ Some form → (unary_form operation ≡ None) × (binary_form operation ≡ None) × (is_overflowing operation ≡ false)
no_form code.GetfieldGcI form e = (refl, refl, refl)
no_form code.GetfieldGcR form e = (refl, refl, refl)
no_form code.SetfieldGc form e = (refl, refl, refl)
no_form code.GetarrayitemGcI form e = (refl, refl, refl)
no_form code.GetarrayitemGcR form e = (refl, refl, refl)
no_form code.SetarrayitemGc form e = (refl, refl, refl)
no_form code.ArraylenGc form e = (refl, refl, refl)
no_form code.New form e = (refl, refl, refl)
no_form code.NewWithVtable form e = (refl, refl, refl)
no_form code.NewArrayClear form e = (refl, refl, refl)
no_form code.CallI form e = (refl, refl, refl)
no_form code.CallR form e = (refl, refl, refl)
no_form code.CallN form e = (refl, refl, refl)
no_form _ form e = absurd (cc)

told_none : (b : Bool) (r : BoxId) → told_if b None r ≡ tell.Nothing
told_none true r = refl
told_none false r = refl

pub tells_nothing : (operation : OpCode) (form : Access) (r : Option BoxId) (args : List Arg) (d : Descr) (ops : List OptOp) → access_form operation ≡ Some form → told_by (opt.Plain operation r args d) ops ≡ tell.Nothing
tells_nothing operation form None args d ops e = refl
tells_nothing operation form (Some r) [] d ops e = refl
tells_nothing operation form (Some r) (a ∷ []) d ops e = ap (λ o. told_if (is_tested r ops) (unary_cond o) r) (no_form operation form e).0 ∙ told_none (is_tested r ops) r
tells_nothing operation form (Some r) (a ∷ b ∷ []) d ops e =
    let z = no_form operation form e in
    ap (λ (q : Bool). told_over q (told_if (is_tested r ops) (binary_cond (binary_form operation)) r)) z.2 ∙ ap (λ o. told_if (is_tested r ops) (binary_cond o) r) z.1 ∙ told_none (is_tested r ops) r
tells_nothing operation form (Some r) (a ∷ b ∷ x ∷ more) d ops e = refl

-- ---- from what was performed to what holds

result_on : (c : Setting) (told : Told) (operation : OpCode) (form : Access) (r : BoxId) (args : List Arg) (d : Descr) (ops : List OptOp) (env : Opt) (x : Value) (w : World) (n m : ℕ) (s t : State)
    → ((b : ℕ) → MayHold (c.at b)) → IsApart c.at (opt.Plain operation (Some r) args d) ops → access_form operation ≡ Some form → Holds c told (opt.Plain operation (Some r) args d ∷ ops) env s → Performed c.table (c.at r.number) (Some x) env.world.objects w.objects n m s t → Holds c (told_by (opt.Plain operation (Some r) args d) ops) ops (with_result r x w env) t × Counts n m s t
result_on c told operation form r args d ops env x w n m s t may apart e h f = (
  subst (λ (q : Told). Holds c q ops (with_result r x w env) t) (sym (tells_nothing operation form (Some r) args d ops e))
      (object_result_holds c told operation r args d ops env x w s t h (record { more = f.more; addresses = f.kept }) f.fit f.stands (f.part x refl) (f.result x refl)
      (λ b u ne. f.others (c.at b.number) (may b.number).not_r11 (may b.number).not_r15 (apart r b (inl refl) u ne))),
  record { loads_more = f.loads; stores_more = f.stores },
)

store_on : (c : Setting) (told : Told) (operation : OpCode) (form : Access) (args : List Arg) (d : Descr) (ops : List OptOp) (env : Opt) (w : World) (n m : ℕ) (s t : State)
    → ((b : ℕ) → MayHold (c.at b)) → access_form operation ≡ Some form → Holds c told (opt.Plain operation None args d ∷ ops) env s → Performed c.table r11 None env.world.objects w.objects n m s t → Holds c (told_by (opt.Plain operation None args d) ops) ops (record env { world = w }) t × Counts n m s t
store_on c told operation form args d ops env w n m s t may e h f = (
  object_store_holds c told operation args d ops env w s t h (record { more = f.more; addresses = f.kept }) f.fit f.stands
      (λ b u. f.others (c.at b.number) (may b.number).not_r11 (may b.number).not_r15 (may b.number).not_r11),
  record { loads_more = f.loads; stores_more = f.stores },
)

gives_on : (c : Setting) (k : ℕ) (told : Told) (operation : OpCode) (form : Access) (r : BoxId) (args : List Arg) (d : Descr) (ops : List OptOp) (env : Opt) (n m p : ℕ) (xs more : List Slot) (s : State) (done : Done)
    → ((b : ℕ) → MayHold (c.at b)) → IsApart c.at (opt.Plain operation (Some r) args d) ops → access_form operation ≡ Some form → Holds c told (opt.Plain operation (Some r) args d ∷ ops) env s
    → ((x : Value) (w : World) → done ≡ Gave (Some x) w → Reach p xs s more (Performed c.table (c.at r.number) (Some x) env.world.objects w.objects n m s))
    → ((w : World) → done ≡ Waited w → ⊥) → ((w : World) → done ≡ Misfitted w → ⊥)
    → FollowsBy (Counts n m s) c k (opt.Plain operation (Some r) args d) ops xs more p s (opt_plain (Some r) env done)
gives_on c k told operation form r args d ops env n m p xs more s (Gave (Some x) w) may apart e h go no_wait no_misfit =
    weaker p xs more s (λ t f. result_on c told operation form r args d ops env x w n m s t may apart e h f) (go x w refl)
gives_on c k told operation form r args d ops env n m p xs more s (Gave None w) may apart e h go no_wait no_misfit = tt
gives_on c k told operation form r args d ops env n m p xs more s Bad may apart e h go no_wait no_misfit = tt
gives_on c k told operation form r args d ops env n m p xs more s (Waited w) may apart e h go no_wait no_misfit = absurd (no_wait w refl)
gives_on c k told operation form r args d ops env n m p xs more s (Misfitted w) may apart e h go no_wait no_misfit = absurd (no_misfit w refl)

no_result : (t : Table) (x : Option Value) (old new : List Object) (n m : ℕ) (s u : State) → Performed t r11 x old new n m s u → Performed t r11 None old new n m s u
no_result t x old new n m s u f = record { stands = f.stands; result = λ y q. absurd (cc); part = λ y q. absurd (cc); more = f.more; kept = f.kept; others = f.others; loads = f.loads; stores = f.stores; fit = f.fit }

stores_on : (c : Setting) (k : ℕ) (told : Told) (operation : OpCode) (form : Access) (args : List Arg) (d : Descr) (ops : List OptOp) (env : Opt) (n m p : ℕ) (xs more : List Slot) (s : State) (done : Done)
    → ((b : ℕ) → MayHold (c.at b)) → access_form operation ≡ Some form → Holds c told (opt.Plain operation None args d ∷ ops) env s
    → ((x : Option Value) (w : World) → done ≡ Gave x w → Reach p xs s more (Performed c.table r11 x env.world.objects w.objects n m s))
    → ((w : World) → done ≡ Waited w → ⊥) → ((w : World) → done ≡ Misfitted w → ⊥)
    → FollowsBy (Counts n m s) c k (opt.Plain operation None args d) ops xs more p s (opt_plain None env done)
stores_on c k told operation form args d ops env n m p xs more s (Gave x w) may e h go no_wait no_misfit =
    weaker p xs more s (λ t f. store_on c told operation form args d ops env w n m s t may e h (no_result c.table x env.world.objects w.objects n m s t f)) (go x w refl)
stores_on c k told operation form args d ops env n m p xs more s Bad may e h go no_wait no_misfit = tt
stores_on c k told operation form args d ops env n m p xs more s (Waited w) may e h go no_wait no_misfit = absurd (no_wait w refl)
stores_on c k told operation form args d ops env n m p xs more s (Misfitted w) may e h go no_wait no_misfit = absurd (no_misfit w refl)

-- ---- operands

pub can_be_read : (a : Operand) → CanRead a → CanBeRead a
can_be_read (At p) m = m
can_be_read (Imm w) m = m

pub reads_arg : (c : Setting) (a : Arg) → ((b : ℕ) → MayHold (c.at b)) → IsWordArg c.table a → CanBeRead (operand_of c a)
reads_arg c a may w = can_be_read (operand_of c a) (arg_reads c a may w)

pub is_before : (c : Setting) (told : Told) (ops : List OptOp) (env : Opt) (p : ℕ) (s : State) → TableServes c.table → Holds c told ops env s → s.at ≡ 0x40000000 + p → IsBefore c.table env.world p s
is_before c told ops env p s t h at = record { lists = t.lists; stands = h.arena; fit = h.fit; at = at }

-- ---- values of arguments

pub by_one : (env : Opt) (a : Arg) → has_value a ≡ true → (P : Option (List Value) → Type 0) → P None → ((y : Value) → arg_value (value_in env.boxes) a ≡ Some y → P (Some (y ∷ []))) → P (opt_values env (a ∷ []))
by_one env a va P none some = which (one_value (arg_value (value_in env.boxes)) a va)
  where
    which : (all_values (arg_value (value_in env.boxes)) (a ∷ []) ≡ None) ⊎ ((y : Value) × (arg_value (value_in env.boxes) a ≡ Some y) × (all_values (arg_value (value_in env.boxes)) (a ∷ []) ≡ Some (y ∷ []))) → P (opt_values env (a ∷ []))
    which (inl e) = subst P (sym e) none
    which (inr (y, fy, e)) = subst P (sym e) (some y fy)

by_two : (env : Opt) (a b : Arg) → has_value a ≡ true → has_value b ≡ true → (P : Option (List Value) → Type 0) → P None → ((y z : Value) → arg_value (value_in env.boxes) a ≡ Some y → arg_value (value_in env.boxes) b ≡ Some z → P (Some (y ∷ z ∷ []))) → P (opt_values env (a ∷ b ∷ []))
by_two env a b va vb P none some = which (two_values (arg_value (value_in env.boxes)) a b va vb)
  where
    which : (all_values (arg_value (value_in env.boxes)) (a ∷ b ∷ []) ≡ None) ⊎ ((y : Value) × (z : Value) × (arg_value (value_in env.boxes) a ≡ Some y) × (arg_value (value_in env.boxes) b ≡ Some z) × (all_values (arg_value (value_in env.boxes)) (a ∷ b ∷ []) ≡ Some (y ∷ z ∷ []))) → P (opt_values env (a ∷ b ∷ []))
    which (inl e) = subst P (sym e) none
    which (inr (y, z, fy, fz, e)) = subst P (sym e) (some y z fy fz)

by_three : (env : Opt) (a b d : Arg) → has_value a ≡ true → has_value b ≡ true → has_value d ≡ true → (P : Option (List Value) → Type 0) → P None → ((x y z : Value) → arg_value (value_in env.boxes) a ≡ Some x → arg_value (value_in env.boxes) b ≡ Some y → arg_value (value_in env.boxes) d ≡ Some z → P (Some (x ∷ y ∷ z ∷ []))) → P (opt_values env (a ∷ b ∷ d ∷ []))
by_three env a b d va vb vd P none some = which (opt_values env (a ∷ b ∷ d ∷ [])) refl
  where
    two : (x : Value) (xs : List Value) → arg_value (value_in env.boxes) a ≡ Some x → opt_values env (b ∷ d ∷ []) ≡ Some xs → P (Some (x ∷ xs))
    two x xs fx e =
        let f = first_is (arg_value (value_in env.boxes) b) (opt_values env (d ∷ [])) xs (sym (first_value (arg_value (value_in env.boxes)) b (d ∷ []) vb) ∙ e) in
        let g = first_is (arg_value (value_in env.boxes) d) (opt_values env []) f.1 (sym (first_value (arg_value (value_in env.boxes)) d [] vd) ∙ f.3) in
        let none_more : [] ≡ g.1 = (let q : Some [] ≡ Some g.1 = g.3 in cc) in
        subst (λ (l : List Value). P (Some (x ∷ l))) f.4 (subst (λ (l : List Value). P (Some (x ∷ f.0 ∷ l))) g.4 (subst (λ (l : List Value). P (Some (x ∷ f.0 ∷ g.0 ∷ l))) none_more (some x f.0 g.0 fx f.2 g.2)))

    which : (o : Option (List Value)) → opt_values env (a ∷ b ∷ d ∷ []) ≡ o → P o
    which None e = none
    which (Some vs) e =
        let f = first_is (arg_value (value_in env.boxes) a) (opt_values env (b ∷ d ∷ [])) vs (sym (first_value (arg_value (value_in env.boxes)) a (b ∷ d ∷ []) va) ∙ e) in
        subst (λ (l : List Value). P (Some l)) f.4 (two f.0 f.1 f.2 f.3)

-- a load gives a value or is bad, and a store is done or is bad
no_value_wait : (w u : World) (o : Option Value) → value_done w o ≡ Waited u → ⊥
no_value_wait w u None e = cc
no_value_wait w u (Some x) e = cc

no_value_misfit : (w u : World) (o : Option Value) → value_done w o ≡ Misfitted u → ⊥
no_value_misfit w u None e = cc
no_value_misfit w u (Some x) e = cc

no_write_wait : (u : World) (o : Option World) → write_done o ≡ Waited u → ⊥
no_write_wait u None e = cc
no_write_wait u (Some x) e = cc

no_write_misfit : (u : World) (o : Option World) → write_done o ≡ Misfitted u → ⊥
no_write_misfit u None e = cc
no_write_misfit u (Some x) e = cc

-- an index that is no word is bad
no_item_wait : (t : Table) (x : ℕ) (y z : Value) (w u : World) → get_item t (descr.Array x) (y ∷ z ∷ []) w ≡ Waited u → ⊥
no_item_wait t x y (v.Int i) w u e = no_value_wait w u (objects.read t (spot.Item x i) y w) e
no_item_wait t x y v.Null w u e = cc
no_item_wait t x y (v.Obj n) w u e = cc

no_item_misfit : (t : Table) (x : ℕ) (y z : Value) (w u : World) → get_item t (descr.Array x) (y ∷ z ∷ []) w ≡ Misfitted u → ⊥
no_item_misfit t x y (v.Int i) w u e = no_value_misfit w u (objects.read t (spot.Item x i) y w) e
no_item_misfit t x y v.Null w u e = cc
no_item_misfit t x y (v.Obj n) w u e = cc

no_set_wait : (t : Table) (x : ℕ) (y z n : Value) (w u : World) → set_item t (descr.Array x) (y ∷ z ∷ n ∷ []) w ≡ Waited u → ⊥
no_set_wait t x y (v.Int i) n w u e = no_write_wait u (write t (spot.Item x i) y n w) e
no_set_wait t x y v.Null n w u e = cc
no_set_wait t x y (v.Obj k) n w u e = cc

no_set_misfit : (t : Table) (x : ℕ) (y z n : Value) (w u : World) → set_item t (descr.Array x) (y ∷ z ∷ n ∷ []) w ≡ Misfitted u → ⊥
no_set_misfit t x y (v.Int i) n w u e = no_write_misfit u (write t (spot.Item x i) y n w) e
no_set_misfit t x y v.Null n w u e = cc
no_set_misfit t x y (v.Obj k) n w u e = cc

-- ---- items

int_index : (i : ℤ) (j : ℤ) → v.Int i ≡ v.Int j → i ≡ j
int_index i j e = cc

gets_any_item : Relied → (t : Table) (x p : ℕ) (d : Place) (a i : Operand) (base index g : Value) (w u : World) (ys : List Slot) (s : State) → get_item t (descr.Array x) (base ∷ index ∷ []) w ≡ Gave (Some g) u → IsBefore t w p s → MayHold d → CanBeRead a → CanBeRead i → IsHeld w.objects s a base → IsHeld w.objects s i index → Reach p (puts (item_code t x d a i) ++ ys) s ys (Performed t d (Some g) w.objects u.objects 1 0 s)
gets_any_item relied t x p d a i base v.Null g w u ys s e before md ra ri ha hi = absurd (cc)
gets_any_item relied t x p d a i base (v.Obj n) g w u ys s e before md ra ri ha hi = absurd (cc)
gets_any_item relied t x p d a (At q) base (v.Int j) g w u ys s e before md ra ri ha hi = gets_item relied t x j base (Some g) w u p d a (At q) ys s e before md ra ri ha hi
gets_any_item relied t x p d a (Imm i) base (v.Int j) g w u ys s e before md ra ri ha hi =
    elim (is_near i) as (λ b. Reach p (puts (cond b (read_code d a (spot_offset t (spot.Item x i))) (read_item_code d a (Imm i))) ++ ys) s ys (Performed t d (Some g) w.objects u.objects 1 0 s)) [
      | true ↦ gets_known_item relied t x i base (Some g) w u p d a ys s (ap (λ (z : ℤ). get_item t (descr.Array x) (base ∷ v.Int z ∷ []) w) hi ∙ e) before md ra ha
      | false ↦ gets_item relied t x j base (Some g) w u p d a (Imm i) ys s e before md ra ri ha hi
    ]

sets_any_item : Relied → (t : Table) (x p : ℕ) (a i b : Operand) (base index z : Value) (given : Option Value) (w u : World) (ys : List Slot) (s : State) → set_item t (descr.Array x) (base ∷ index ∷ z ∷ []) w ≡ Gave given u → IsBefore t w p s → CanBeRead a → CanBeRead i → CanBeRead b → IsHeld w.objects s a base → IsHeld w.objects s i index → IsHeld w.objects s b z → IsPart (length w.objects) z → Reach p (puts (set_item_code t x a i b) ++ ys) s ys (Performed t r11 given w.objects u.objects 0 1 s)
sets_any_item relied t x p a i b base v.Null z given w u ys s e before ra ri rb ha hi hb part = absurd (cc)
sets_any_item relied t x p a i b base (v.Obj n) z given w u ys s e before ra ri rb ha hi hb part = absurd (cc)
sets_any_item relied t x p a (At q) b base (v.Int j) z given w u ys s e before ra ri rb ha hi hb part = sets_item relied t x j base z given w u p a (At q) b ys s e before ra ri rb ha hi hb part
sets_any_item relied t x p a (Imm i) b base (v.Int j) z given w u ys s e before ra ri rb ha hi hb part =
    elim (is_near i) as (λ y. Reach p (puts (cond y (write_code a (spot_offset t (spot.Item x i)) b) (write_item_code a (Imm i) b)) ++ ys) s ys (Performed t r11 given w.objects u.objects 0 1 s)) [
      | true ↦ sets_known_item relied t x i base z given w u p a b ys s (ap (λ (y : ℤ). set_item t (descr.Array x) (base ∷ v.Int y ∷ z ∷ []) w) hi ∙ e) before ra rb ha hb part
      | false ↦ sets_item relied t x j base z given w u p a (Imm i) b ys s e before ra ri rb ha hi hb part
    ]

-- ---- the operations

abbrev Does : Access → Setting → ℕ → OpCode → Option BoxId → List Arg → Descr → List OptOp → Opt → List Slot → ℕ → State → Option (List Value) → Type 0
Does form c k operation r args d ops env more p s vs =
    FollowsBy (Counts (loads_by form) (stores_by form) s) c k (opt.Plain operation r args d) ops (puts (access_code c k form r args d) ++ more) more p s (opt_perform c.table operation r args d env vs)

-- what is performed is what the form does
done_as : (form : Access) (c : Setting) (k : ℕ) (operation : OpCode) (r : Option BoxId) (args : List Arg) (d : Descr) (ops : List OptOp) (env : Opt) (more : List Slot) (p : ℕ) (s : State) (vs : List Value) → access_form operation ≡ Some form
    → FollowsBy (Counts (loads_by form) (stores_by form) s) c k (opt.Plain operation r args d) ops (puts (access_code c k form r args d) ++ more) more p s (opt_plain r env (done_of form c.table d args vs env.world))
    → Does form c k operation r args d ops env more p s (Some vs)
done_as form c k operation r args d ops env more p s vs e g =
    subst (λ (done : Done). FollowsBy (Counts (loads_by form) (stores_by form) s) c k (opt.Plain operation r args d) ops (puts (access_code c k form r args d) ++ more) more p s (opt_plain r env done)) (sym (performs_as operation form c.table d args vs env.world e)) g

pub access_follows : Relied → (c : Setting) (k : ℕ) (told : Told) (operation : OpCode) (form : Access) (r : Option BoxId) (args : List Arg) (d : Descr) (ops : List OptOp) (env : Opt) (more : List Slot) (p : ℕ) (s : State)
    → TableServes c.table → ((b : ℕ) → MayHold (c.at b)) → IsApart c.at (opt.Plain operation r args d) ops → HasWords c.table (opt.Plain operation r args d) → access_form operation ≡ Some form → IsAccess c.table form r args d → AreValued args
    → Holds c told (opt.Plain operation r args d ∷ ops) env s → s.at ≡ 0x40000000 + p → Does form c k operation r args d ops env more p s (opt_values env args)
access_follows relied c k told operation access.GetField (Some r) (a ∷ []) (descr.Field f) ops env more p s table may apart words e here va h at =
    let wa = words 0 a (omega arith) in
    by_one env a va.0 (Does access.GetField c k operation (Some r) (a ∷ []) (descr.Field f) ops env more p s) tt (λ y fy.
    done_as access.GetField c k operation (Some r) (a ∷ []) (descr.Field f) ops env more p s (y ∷ []) e
    (gives_on c k told operation access.GetField r (a ∷ []) (descr.Field f) ops env 1 0 p _ more s (get_field c.table (descr.Field f) (y ∷ []) env.world) may apart e h (λ x w g.
    gets_field relied c.table f y (Some x) env.world w p (c.at r.number) (operand_of c a) more s g (is_before c told (opt.Plain operation (Some r) (a ∷ []) (descr.Field f) ∷ ops) env p s table h at) (may r.number) (reads_arg c a may wa)
    (arg_is c env s a y h.prebuilts wa (λ q i u j. h.boxes q i (inl (inl (inl u))) j) fy)) (λ u q. no_value_wait env.world u (objects.read c.table (spot.Field f) y env.world) q) (λ u q. no_value_misfit env.world u (objects.read c.table (spot.Field f) y env.world) q)))
access_follows relied c k told operation access.SetField None (a ∷ b ∷ []) (descr.Field f) ops env more p s table may apart words e here va h at =
    let wa = words 0 a (omega arith) in
    let wb = words 1 b (omega arith) in
    by_two env a b va.0 va.1.0 (Does access.SetField c k operation None (a ∷ b ∷ []) (descr.Field f) ops env more p s) tt (λ y z fy fz.
    done_as access.SetField c k operation None (a ∷ b ∷ []) (descr.Field f) ops env more p s (y ∷ z ∷ []) e
    (stores_on c k told operation access.SetField (a ∷ b ∷ []) (descr.Field f) ops env 0 1 p _ more s (set_field c.table (descr.Field f) (y ∷ z ∷ []) env.world) may e h (λ x w g.
    sets_field relied c.table f y z x env.world w p (operand_of c a) (operand_of c b) more s g (is_before c told (opt.Plain operation None (a ∷ b ∷ []) (descr.Field f) ∷ ops) env p s table h at) (reads_arg c a may wa) (reads_arg c b may wb)
    (arg_is c env s a y h.prebuilts wa (λ q i u j. h.boxes q i (inl (inl (inl u))) j) fy)
    (arg_is c env s b z h.prebuilts wb (λ q i u j. h.boxes q i (inl (inl (inr (inl u)))) j) fz)
    (arg_part c.table env b z h.prebuilts wb h.values fz)) (λ u q. no_write_wait u (write c.table (spot.Field f) y z env.world) q) (λ u q. no_write_misfit u (write c.table (spot.Field f) y z env.world) q)))
access_follows relied c k told operation access.GetItem (Some r) (a ∷ b ∷ []) (descr.Array x) ops env more p s table may apart words e here va h at =
    let wa = words 0 a (omega arith) in
    let wb = words 1 b (omega arith) in
    by_two env a b va.0 va.1.0 (Does access.GetItem c k operation (Some r) (a ∷ b ∷ []) (descr.Array x) ops env more p s) tt (λ y z fy fz.
    done_as access.GetItem c k operation (Some r) (a ∷ b ∷ []) (descr.Array x) ops env more p s (y ∷ z ∷ []) e
    (gives_on c k told operation access.GetItem r (a ∷ b ∷ []) (descr.Array x) ops env 1 0 p _ more s (get_item c.table (descr.Array x) (y ∷ z ∷ []) env.world) may apart e h (λ i w g.
    gets_any_item relied c.table x p (c.at r.number) (operand_of c a) (operand_of c b) y z i env.world w more s g (is_before c told (opt.Plain operation (Some r) (a ∷ b ∷ []) (descr.Array x) ∷ ops) env p s table h at) (may r.number) (reads_arg c a may wa) (reads_arg c b may wb)
    (arg_is c env s a y h.prebuilts wa (λ q i u j. h.boxes q i (inl (inl (inl u))) j) fy)
    (arg_is c env s b z h.prebuilts wb (λ q i u j. h.boxes q i (inl (inl (inr (inl u)))) j) fz)) (λ u q. no_item_wait c.table x y z env.world u q) (λ u q. no_item_misfit c.table x y z env.world u q)))
access_follows relied c k told operation access.SetItem None (a ∷ b ∷ m ∷ []) (descr.Array x) ops env more p s table may apart words e here va h at =
    let wa = words 0 a (omega arith) in
    let wb = words 1 b (omega arith) in
    let wm = words 2 m (omega arith) in
    by_three env a b m va.0 va.1.0 va.1.1.0 (Does access.SetItem c k operation None (a ∷ b ∷ m ∷ []) (descr.Array x) ops env more p s) tt (λ y z n fy fz fn.
    done_as access.SetItem c k operation None (a ∷ b ∷ m ∷ []) (descr.Array x) ops env more p s (y ∷ z ∷ n ∷ []) e
    (stores_on c k told operation access.SetItem (a ∷ b ∷ m ∷ []) (descr.Array x) ops env 0 1 p _ more s (set_item c.table (descr.Array x) (y ∷ z ∷ n ∷ []) env.world) may e h (λ i w g.
    sets_any_item relied c.table x p (operand_of c a) (operand_of c b) (operand_of c m) y z n i env.world w more s g (is_before c told (opt.Plain operation None (a ∷ b ∷ m ∷ []) (descr.Array x) ∷ ops) env p s table h at) (reads_arg c a may wa) (reads_arg c b may wb) (reads_arg c m may wm)
    (arg_is c env s a y h.prebuilts wa (λ q i u j. h.boxes q i (inl (inl (inl u))) j) fy)
    (arg_is c env s b z h.prebuilts wb (λ q i u j. h.boxes q i (inl (inl (inr (inl u)))) j) fz)
    (arg_is c env s m n h.prebuilts wm (λ q i u j. h.boxes q i (inl (inl (inr (inr (inl u))))) j) fn)
    (arg_part c.table env m n h.prebuilts wm h.values fn)) (λ u q. no_set_wait c.table x y z n env.world u q) (λ u q. no_set_misfit c.table x y z n env.world u q)))
access_follows relied c k told operation access.Length (Some r) (a ∷ []) (descr.Array f) ops env more p s table may apart words e here va h at =
    let wa = words 0 a (omega arith) in
    by_one env a va.0 (Does access.Length c k operation (Some r) (a ∷ []) (descr.Array f) ops env more p s) tt (λ y fy.
    done_as access.Length c k operation (Some r) (a ∷ []) (descr.Array f) ops env more p s (y ∷ []) e
    (gives_on c k told operation access.Length r (a ∷ []) (descr.Array f) ops env 1 0 p _ more s (get_length (descr.Array f) (y ∷ []) env.world) may apart e h (λ x w g.
    gets_length relied c.table f y (Some x) env.world w p (c.at r.number) (operand_of c a) more s g (is_before c told (opt.Plain operation (Some r) (a ∷ []) (descr.Array f) ∷ ops) env p s table h at) (may r.number) (reads_arg c a may wa)
    (arg_is c env s a y h.prebuilts wa (λ q i u j. h.boxes q i (inl (inl (inl u))) j) fy)) (λ u q. no_value_wait env.world u (option_map (λ i. v.Int (pos i)) (length_at f y env.world)) q) (λ u q. no_value_misfit env.world u (option_map (λ i. v.Int (pos i)) (length_at f y env.world)) q)))
access_follows relied c k told operation _ r args d ops env more p s table may apart words e here va h at = absurd here
