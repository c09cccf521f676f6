-- Each operation that asks the host is served.
use Rattle.std.proofs.Common.{◌≡◌, ℕ, ◌+◌, ◌-◌, ◌<◌, Bool, true, false, cond, List, [], ◌∷◌, length, map, Option, Some, None, refl, sym, ap, ◌∙◌, subst, arith, ℤ, pos, negsuc}
use Rattle.std.specs.Prelude.{◌==◌, ◌&&◌, nat_le, nat_lt, slice_get}
use Rattle.std.specs.List.{Contains}
use Rattle.std.proofs.lemmas.Bool.{lt-ltb, le-leb}
use Rattle.std.proofs.lemmas.Bool.Decides.{nat_tests}
use Rattle.lists.proofs.Options.{some_same, none_some}
use Rattle.trace_ops.specs.InRange.{IsTableInRange}
use Rattle.trace_ops.specs.declared.table.Table.{Table}
use Rattle.trace_ops.specs.declared.table.CallRow.{CallRow}
use Rattle.trace_ops.specs.declared.table.ShapeOf.{ShapeOf}
use Rattle.trace_ops.specs.declared.table.ShapeOf.TheVariants.{Size, Array}
use Rattle.trace_ops.specs.declared.code.OpCode.{OpCode}
use Rattle.trace_ops.specs.declared.code.OpCode.TheVariants as code
use Rattle.trace_ops.specs.declared.trace.BoxId.{BoxId}
use Rattle.trace_ops.specs.declared.trace.Kind.{Kind}
use Rattle.trace_ops.specs.declared.trace.Arg.{Arg}
use Rattle.trace_ops.specs.declared.trace.Arg.TheVariants as arg
use Rattle.trace_ops.specs.declared.trace.Descr.{Descr}
use Rattle.trace_ops.specs.declared.trace.Descr.TheVariants as descr
use Rattle.trace_ops.specs.declared.piece.OptOp.{OptOp}
use Rattle.trace_ops.specs.declared.piece.OptOp.TheVariants as opt
use Rattle.trace_meaning.specs.declared.value.Value.{Value}
use Rattle.trace_meaning.specs.declared.value.Value.TheVariants as v
use Rattle.trace_meaning.specs.declared.value.Object.{Object}
use Rattle.trace_meaning.specs.Boxes.{BindingLaws, bind}
use Rattle.trace_meaning.specs.Kinds.{ObjectsHold}
use Rattle.trace_meaning.specs.Legs.{Turn, On}
use Rattle.trace_meaning.specs.Objects.{with_new, zeroed, cleared}
use Rattle.trace_meaning.specs.Performing.{Done, make_structure, make_array, call, call_row, perform}
use Rattle.trace_meaning.specs.Values.{kind_of_value, references}
use Rattle.trace_meaning.specs.World.{World}
use Rattle.opt_meaning.specs.Step.{Opt, opt_step, opt_values, opt_perform, opt_plain, opt_result}
use Rattle.guard_exit.specs.Codes.{register}
use Rattle.target_base.specs.declared.place.Place.TheVariants.{In}
use Rattle.arena_objects.specs.Layout.{header_of, address_of, word_of}
use Rattle.arena_objects.specs.Standing.{Stands}
use Rattle.arena_objects.specs.Making.{zeroed_of}
use Rattle.arena_objects.specs.ReadBack.{objects_in}
use Rattle.arena_objects.specs.Walk.{shape_of}
use Rattle.arena_objects.specs.Laws.{ReferencesAreRead, ObjectsAreReadBack, KindsInRange}
use Rattle.x64_machine.specs.Words.{unsigned}
use Rattle.x64_machine.specs.State.{State, reg}
use Rattle.asm_select.specs.Valued.{value}
use Rattle.asm_select.specs.declared.form.Access.{Access}
use Rattle.asm_select.specs.declared.form.Access.TheVariants as access
use Rattle.asm_select.specs.Chosen.{access_form}
use Rattle.asm_select.specs.Reached.{PrebuiltsStand}
use Rattle.asm_select.specs.Answering.{reference_words, values_read}
use Rattle.asm_select.specs.Asked.{Asks, AsksIf, AsksAs, given_in, entry_by, entry_if, in_host}
use Rattle.image_runs.specs.Session.{Calls}
use Rattle.image_model.specs.Ready.{IsReady, AsksRightlyIf, PassesKinds}
use Rattle.image_model.specs.Modelled.{SameCalls}
use Rattle.image_model.specs.Laws.{ServedSo}
use Rattle.session_host.specs.Entries.{Entered, Structure, Items, Function, function_if, entered, arg_registers, words_in, stray_in}
use Rattle.session_host.specs.Answering.{FirstHasWords, passed_to, structure_of, items_of, made, row_of, function_by, unless_stray, answer_at, answer_of}
use Rattle.session_host.specs.Laws.{HostsServe}
use Rattle.session_host.proofs.Registers.{same_register}
use Rattle.session_host.proofs.Shapes.{header_leads}
use Rattle.session_host.proofs.Passing.{words_stand, values_back, no_stray, refs_back, are_references}
use Rattle.session_host.proofs.Making.{StandsThere, MakingLaws, made_serves}
use Rattle.session_host.proofs.Functions.{FunctionLaws, call_serves}

pub record ServingLaws : Type 0 where
  pub making : MakingLaws
  pub functions : FunctionLaws
  pub reads : ReferencesAreRead
  pub back : ObjectsAreReadBack
  pub kinds : KindsInRange

-- ---- what operations perform

makes_structure : (t : Table) (operation : OpCode) (d : Descr) (args : List Arg) (vs : List Value) (w : World) → access_form operation ≡ Some access.Structure → perform t operation d args vs w ≡ make_structure t d w
makes_structure t code.New d args vs w h = refl
makes_structure t code.NewWithVtable d args vs w h = refl
makes_structure t _ d args vs w h = absurd (cc)

makes_array : (t : Table) (operation : OpCode) (d : Descr) (args : List Arg) (vs : List Value) (w : World) → access_form operation ≡ Some access.Array → perform t operation d args vs w ≡ make_array t d vs w
makes_array t code.NewArrayClear d args vs w h = refl
makes_array t _ d args vs w h = absurd (cc)

calls_function : (t : Table) (operation : OpCode) (d : Descr) (args : List Arg) (vs : List Value) (w : World) → access_form operation ≡ Some access.Call → perform t operation d args vs w ≡ call t d args vs w
calls_function t code.CallI d args vs w h = refl
calls_function t code.CallR d args vs w h = refl
calls_function t code.CallN d args vs w h = refl
calls_function t _ d args vs w h = absurd (cc)

-- ---- new objects

record Made (r : Option BoxId) (env after : Opt) (o : Object) : Type 0 where
  is : opt_result r env (Some (v.Obj (length env.world.objects))) (with_new o env.world) ≡ On after
  world : after.world ≡ with_new o env.world
  given : (x : Value) → given_in r after ≡ Some x → x ≡ v.Obj (length env.world.objects)

made_is : BindingLaws → (r : Option BoxId) (env : Opt) (o : Object) → (after : Opt) × Made r env after o
made_is binds (Some b) env o =
    let x = v.Obj (length env.world.objects) in
    (record { boxes = bind b x env.boxes; world = with_new o env.world }, record { is = refl; world = refl; given = λ y h. some_same (sym h ∙ binds.same b x env.boxes) })
made_is binds None env o = (record env { world = with_new o env.world }, record { is = refl; world = refl; given = λ y h. absurd (none_some h) })

entered_function : (t : Table) (f : ℕ) → f < length t.functions → entered t (16 + f) ≡ Function f
entered_function t f lt =
    let a : (16 + f == 1) ≡ false = grind (arith, nat_tests) in
    let b : (16 + f == 2) ≡ false = grind (arith, nat_tests) in
    let g : nat_le 16 (16 + f) ≡ true = le-leb 16 (16 + f) (omega arith) in
    let e : 16 + f - 16 ≡ f = omega arith in
    let h : nat_lt (16 + f - 16) (length t.functions) ≡ true = lt-ltb (16 + f - 16) (length t.functions) (omega (arith, lt)) in
    ap (λ (x : Bool). cond x Structure (cond (16 + f == 2) Items (function_if (nat_le 16 (16 + f) && nat_lt (16 + f - 16) (length t.functions)) (16 + f - 16)))) a
    ∙ ap (λ (x : Bool). cond x Items (function_if (nat_le 16 (16 + f) && nat_lt (16 + f - 16) (length t.functions)) (16 + f - 16))) b
    ∙ ap (λ (x : Bool). function_if (x && nat_lt (16 + f - 16) (length t.functions)) (16 + f - 16)) g
    ∙ ap (λ (x : Bool). function_if x (16 + f - 16)) h
    ∙ ap Function e

module _ (l : ServingLaws) (t : Table) (range : IsTableInRange t) (env : Opt) (q : ℕ) (u : State) (c : Calls) (at : StandsThere t env u) (same : SameCalls env.world c) (holds : ObjectsHold t env.world.objects) (words : FirstHasWords c.answers) where
  abbrev w : World
  w = env.world

  -- an operation that makes an object of a shape of the table
  makes : (operation : OpCode) (r : Option BoxId) (args : List Arg) (d : Descr) (shape : ShapeOf) (n : ℕ) → Contains t.shapes shape
      → ServedSo t (opt.Plain operation r args d) env q u (opt_result r env (Some (v.Obj (length w.objects))) (with_new (zeroed_of t shape n) w)) (made t shape n c (in_host (opt.Plain operation r args d) q u))
  makes operation r args d shape n there =
      let op = opt.Plain operation r args d in
      let x = made_is l.functions.binds r env (zeroed_of t shape n) in
      subst (λ (turn : Turn Opt). ServedSo t op env q u turn (made t shape n c (in_host op q u))) (sym x.1.is)
      (made_serves l.making t op env x.0 q u c shape n at same there x.1.world x.1.given)

  module _ (operation : OpCode) (r : Option BoxId) (args : List Arg) (d : Descr) where
    abbrev op : OptOp
    op = opt.Plain operation r args d

    abbrev host : State
    host = in_host op q u

    entry_is : (form : Access) (e : ℕ) → access_form operation ≡ Some form → entry_if (Some form) args ≡ e → answer_of t (entry_by op) c host ≡ answer_of t e c host
    entry_is form e is named = ap (λ (x : Option Access). answer_of t (entry_if x args) c host) is ∙ ap (λ (n : ℕ). answer_of t n c host) named

  -- ---- a structure

  structure_serves : (operation : OpCode) (r : Option BoxId) (args : List Arg) (n : ℕ) (vs : List Value) → access_form operation ≡ Some access.Structure → Contains t.shapes (Size n) → value u (In (register 7)) ≡ pos (header_of t (Size n))
      → ServedSo t (opt.Plain operation r args (descr.Size n)) env q u (opt_perform t operation r args (descr.Size n) env (Some vs)) (answer_of t (entry_by (opt.Plain operation r args (descr.Size n))) c (in_host (opt.Plain operation r args (descr.Size n)) q u))
  structure_serves operation r args n vs is there asked =
      let op = opt.Plain operation r args (descr.Size n) in
      let host = in_host op q u in
      let word : reg host (register 7) ≡ pos (header_of t (Size n)) = same_register op q u 7 (omega arith) ∙ asked in
      let answer : answer_of t (entry_by op) c host ≡ made t (Size n) 0 c host =
      entry_is operation r args (descr.Size n) access.Structure 1 is refl
      ∙ ap (λ (z : ℤ). structure_of t c host (shape_of t (Some z))) word
      ∙ ap (structure_of t c host) (header_leads t (Size n) there) in
      let turn : opt_perform t operation r args (descr.Size n) env (Some vs) ≡ opt_result r env (Some (v.Obj (length w.objects))) (with_new (zeroed t n) w) = ap (opt_plain r env) (makes_structure t operation (descr.Size n) args vs w is) in
      subst (ServedSo t op env q u (opt_perform t operation r args (descr.Size n) env (Some vs))) (sym answer)
      (subst (λ (x : Turn Opt). ServedSo t op env q u x (made t (Size n) 0 c host)) (sym turn) (makes operation r args (descr.Size n) (Size n) 0 there))

  -- ---- an array

  array_serves : (operation : OpCode) (r : Option BoxId) (args : List Arg) (a : ℕ) (vs : List Value) → access_form operation ≡ Some access.Array → Contains t.shapes (Array a) → AsksAs t access.Array args (descr.Array a) (Some vs) w u
      → ServedSo t (opt.Plain operation r args (descr.Array a)) env q u (opt_perform t operation r args (descr.Array a) env (Some vs)) (answer_of t (entry_by (opt.Plain operation r args (descr.Array a))) c (in_host (opt.Plain operation r args (descr.Array a)) q u))
  array_serves operation r args a [] is there asked = absurd asked
  array_serves operation r args a (v.Null ∷ xs) is there asked = absurd asked
  array_serves operation r args a (v.Obj n ∷ xs) is there asked = absurd asked
  array_serves operation r args a (v.Int z ∷ x ∷ xs) is there asked = absurd asked
  array_serves operation r args a (v.Int (negsuc n) ∷ []) is there asked =
      subst (λ (x : Done). ServedSo t (opt.Plain operation r args (descr.Array a)) env q u (opt_plain r env x) (answer_of t (entry_by (opt.Plain operation r args (descr.Array a))) c (in_host (opt.Plain operation r args (descr.Array a)) q u)))
      (sym (makes_array t operation (descr.Array a) args (v.Int (negsuc n) ∷ []) w is)) tt
  array_serves operation r args a (v.Int (pos n) ∷ []) is there asked =
      let op = opt.Plain operation r args (descr.Array a) in
      let host = in_host op q u in
      let vs = v.Int (pos n) ∷ [] in
      let word : reg host (register 7) ≡ pos (header_of t (Array a)) = same_register op q u 7 (omega arith) ∙ asked.0 in
      let many : reg host (register 6) ≡ pos n = same_register op q u 6 (omega arith) ∙ asked.1 in
      let answer : answer_of t (entry_by op) c host ≡ made t (Array a) n c host =
      entry_is operation r args (descr.Array a) access.Array 2 is refl
      ∙ ap (λ (z : ℤ). items_of t c host (shape_of t (Some z))) word
      ∙ ap (items_of t c host) (header_leads t (Array a) there)
      ∙ ap (λ (z : ℤ). made t (Array a) (unsigned z) c host) many in
      let turn : opt_perform t operation r args (descr.Array a) env (Some vs) ≡ opt_result r env (Some (v.Obj (length w.objects))) (with_new (cleared t a n) w) = ap (opt_plain r env) (makes_array t operation (descr.Array a) args vs w is) in
      subst (ServedSo t op env q u (opt_perform t operation r args (descr.Array a) env (Some vs))) (sym answer)
      (subst (λ (x : Turn Opt). ServedSo t op env q u x (made t (Array a) n c host)) (sym turn) (makes operation r args (descr.Array a) (Array a) n there))

  -- ---- a call of a function

  module _ (operation : OpCode) (r : Option BoxId) (f : ℕ) (args : List Arg) (k : ℕ) (vs : List Value) (is : access_form operation ≡ Some access.Call) (ready : PassesKinds t f k vs) (asked : AsksAs t access.Call (arg.Func f ∷ args) (descr.Call k) (Some vs) w u) where
    abbrev called : OptOp
    called = opt.Plain operation r (arg.Func f ∷ args) (descr.Call k)

    abbrev callee : State
    callee = in_host called q u

    abbrev addresses : ℕ → ℕ
    addresses n = address_of w.objects n

    turn : opt_perform t operation r (arg.Func f ∷ args) (descr.Call k) env (Some vs) ≡ opt_plain r env (call_row t (slice_get t.calls k) f vs w)
    turn = ap (opt_plain r env) (calls_function t operation (descr.Call k) (arg.Func f ∷ args) vs w is)

    number : reg callee (register 10) ≡ pos k
    number = same_register called q u 10 (omega arith) ∙ asked.0

    answer : answer_of t (entry_by called) c callee ≡ function_by t f c callee (slice_get t.calls k)
    answer =
        entry_is operation r (arg.Func f ∷ args) (descr.Call k) access.Call (16 + f) is refl
        ∙ ap (λ (e : Entered). answer_at t e (16 + f) c callee) (entered_function t f ready.function)
        ∙ ap (λ (z : ℤ). function_by t f c callee (row_of t z)) number

    read : words_in callee (map kind_of_value vs) arg_registers ≡ map (word_of addresses) vs
    read =
        words_stand addresses callee u arg_registers args vs
        (same_register called q u 7 (omega arith), (same_register called q u 6 (omega arith), (same_register called q u 2 (omega arith), (same_register called q u 1 (omega arith), (same_register called q u 8 (omega arith), (same_register called q u 9 (omega arith), tt)))))) asked.1

    by_row : (x : Option CallRow) → slice_get t.calls k ≡ x → ServedSo t called env q u (opt_plain r env (call_row t x f vs w)) (function_by t f c callee x)
    by_row None e = tt
    by_row (Some row) e =
        let told = l.functions.told in
        let p = passed_to f row callee in
        let kinds : map kind_of_value vs ≡ row.args = ready.kinds row e in
        let ws : words_in callee row.args arg_registers ≡ map (word_of addresses) vs = subst (λ (ks : List Kind). words_in callee ks arg_registers ≡ map (word_of addresses) vs) kinds read in
        let values : values_read t u.arena row.args p.words ≡ vs =
        subst (λ (ks : List Kind). values_read t u.arena ks p.words ≡ vs) kinds (ap (values_read t u.arena (map kind_of_value vs)) ws ∙ values_back l.reads told t w.objects u.arena at.arena vs asked.2) in
        let refs : reference_words row.args p.words ≡ map (word_of addresses) (references vs) =
        subst (λ (ks : List Kind). reference_words ks p.words ≡ map (word_of addresses) (references vs)) kinds (ap (reference_words (map kind_of_value vs)) ws ∙ refs_back addresses vs) in
        let none : stray_in t u.arena row.args p.words ≡ None =
        subst (λ (ks : List Kind). stray_in t u.arena ks p.words ≡ None) kinds (ap (stray_in t u.arena (map kind_of_value vs)) ws ∙ no_stray l.reads told t w.objects u.arena at.arena vs asked.2) in
        let objects : objects_in t u.arena ≡ w.objects = l.back t w.objects u.arena at.arena holds (l.kinds t w.objects u.arena range at.arena) in
        subst (λ (o : Option ℤ). ServedSo t called env q u (opt_plain r env (call_row t (Some row) f vs w)) (unless_stray t p c callee o)) (sym none)
        (call_serves l.functions t range operation r (arg.Func f ∷ args) (descr.Call k) env q u c f row vs p at same refl refl objects values refs (are_references (length w.objects) vs asked.2) words)

    function_serves : ServedSo t called env q u (opt_perform t operation r (arg.Func f ∷ args) (descr.Call k) env (Some vs)) (answer_of t (entry_by called) c callee)
    function_serves =
        subst (ServedSo t called env q u (opt_perform t operation r (arg.Func f ∷ args) (descr.Call k) env (Some vs))) (sym answer)
        (subst (λ (x : Turn Opt). ServedSo t called env q u x (function_by t f c callee (slice_get t.calls k))) (sym turn) (by_row (slice_get t.calls k) refl))

  -- ---- any operation that asks

  asked_serves : (operation : OpCode) (r : Option BoxId) (args : List Arg) (d : Descr) (vs : List Value) (form : Option Access) → access_form operation ≡ form → AsksRightlyIf t form args d vs → AsksIf t form args d (Some vs) w u
      → ServedSo t (opt.Plain operation r args d) env q u (opt_perform t operation r args d env (Some vs)) (answer_of t (entry_by (opt.Plain operation r args d)) c (in_host (opt.Plain operation r args d) q u))
  asked_serves operation r args d vs None is ready asked = absurd asked
  asked_serves operation r args d vs (Some access.GetField) is ready asked = absurd asked
  asked_serves operation r args d vs (Some access.SetField) is ready asked = absurd asked
  asked_serves operation r args d vs (Some access.GetItem) is ready asked = absurd asked
  asked_serves operation r args d vs (Some access.SetItem) is ready asked = absurd asked
  asked_serves operation r args d vs (Some access.Length) is ready asked = absurd asked
  asked_serves operation r args (descr.Size n) vs (Some access.Structure) is ready asked = structure_serves operation r args n vs is ready asked
  asked_serves operation r args descr.No vs (Some access.Structure) is ready asked = absurd asked
  asked_serves operation r args (descr.Field k) vs (Some access.Structure) is ready asked = absurd asked
  asked_serves operation r args (descr.Array k) vs (Some access.Structure) is ready asked = absurd asked
  asked_serves operation r args (descr.Call k) vs (Some access.Structure) is ready asked = absurd asked
  asked_serves operation r args (descr.Target k) vs (Some access.Structure) is ready asked = absurd asked
  asked_serves operation r args (descr.Array a) vs (Some access.Array) is ready asked = array_serves operation r args a vs is ready asked
  asked_serves operation r args descr.No vs (Some access.Array) is ready asked = absurd asked
  asked_serves operation r args (descr.Size k) vs (Some access.Array) is ready asked = absurd asked
  asked_serves operation r args (descr.Field k) vs (Some access.Array) is ready asked = absurd asked
  asked_serves operation r args (descr.Call k) vs (Some access.Array) is ready asked = absurd asked
  asked_serves operation r args (descr.Target k) vs (Some access.Array) is ready asked = absurd asked
  asked_serves operation r (arg.Func f ∷ args) (descr.Call k) vs (Some access.Call) is ready asked = function_serves operation r f args k vs is ready asked
  asked_serves operation r [] d vs (Some access.Call) is ready asked = absurd asked
  asked_serves operation r (arg.Of b ∷ args) d vs (Some access.Call) is ready asked = absurd asked
  asked_serves operation r (arg.Const z ∷ args) d vs (Some access.Call) is ready asked = absurd asked
  asked_serves operation r (arg.Null ∷ args) d vs (Some access.Call) is ready asked = absurd asked
  asked_serves operation r (arg.Class k ∷ args) d vs (Some access.Call) is ready asked = absurd asked
  asked_serves operation r (arg.Ptr k ∷ args) d vs (Some access.Call) is ready asked = absurd asked
  asked_serves operation r (arg.Func f ∷ args) descr.No vs (Some access.Call) is ready asked = absurd asked
  asked_serves operation r (arg.Func f ∷ args) (descr.Size k) vs (Some access.Call) is ready asked = absurd asked
  asked_serves operation r (arg.Func f ∷ args) (descr.Field k) vs (Some access.Call) is ready asked = absurd asked
  asked_serves operation r (arg.Func f ∷ args) (descr.Array k) vs (Some access.Call) is ready asked = absurd asked
  asked_serves operation r (arg.Func f ∷ args) (descr.Target k) vs (Some access.Call) is ready asked = absurd asked

  plain_serves : (operation : OpCode) (r : Option BoxId) (args : List Arg) (d : Descr) (o : Option (List Value)) → ((vs : List Value) → o ≡ Some vs → AsksRightlyIf t (access_form operation) args d vs) → AsksIf t (access_form operation) args d o w u
      → ServedSo t (opt.Plain operation r args d) env q u (opt_perform t operation r args d env o) (answer_of t (entry_by (opt.Plain operation r args d)) c (in_host (opt.Plain operation r args d) q u))
  plain_serves operation r args d None ready asked = tt
  plain_serves operation r args d (Some vs) ready asked = asked_serves operation r args d vs (access_form operation) refl (ready vs refl) asked

  pub operation_serves : (op : OptOp) → IsReady t op env → Asks t op env u → ServedSo t op env q u (opt_step t op env) (answer_of t (entry_by op) c (in_host op q u))
  operation_serves (opt.Plain operation r args d) ready asked = plain_serves operation r args d (opt_values env args) ready.asks asked
  operation_serves (opt.Guard operation args n snap) ready asked = absurd asked
  operation_serves (opt.Exit n snap) ready asked = absurd asked
  operation_serves (opt.Jump to args) ready asked = absurd asked
  operation_serves (opt.Finish value) ready asked = absurd asked

pub hosts_serve : ServingLaws → HostsServe
hosts_serve l set ps arena_bytes range st asking env q u c o table ready at same answered =
    let t = set.table in
    let asks = subst (λ (x : Table). Asks x asking env u) table at.asks in
    let there : StandsThere t env u = record { fit = at.fit; arena = subst (λ (x : Table). Stands x env.world.objects u.arena) table at.arena; prebuilts = subst (λ (x : Table). PrebuiltsStand x env.world.objects) table at.prebuilts } in
    subst (ServedSo t asking env q u (opt_step t asking env)) (sym answered.answer) (operation_serves l t range env q u c there same ready.objects answered.words asking ready asks)
