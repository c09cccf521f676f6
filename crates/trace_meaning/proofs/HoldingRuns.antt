-- A run keeps values of their kinds.
use Rattle.std.proofs.Common.{◌≡◌, ℕ, zero, suc, ◌+◌, ◌-◌, Bool, true, false, cond, Option, Some, None, List, [], ◌∷◌, ◌++◌, length, map, slice_get, refl, ap, sym, ◌∙◌, subst, append_assoc, arith}
use Rattle.std.specs.Prelude.{◌==◌, IsSomeAnd, option_and_then, filter}
use Rattle.std.specs.List.{All, flat_map}
use Rattle.std.specs.Option.{unwrap_or, option_to_list}
use Rattle.std.proofs.lemmas.Bool.{eqb-true, and_parts}
use Rattle.std.proofs.lemmas.Option.{same_Some}
use Rattle.std.proofs.lemmas.List.{append-nil, length-append, length-map}
use Rattle.std.proofs.lemmas.List.Elements.{filter-append}
use Rattle.trace_ops.specs.declared.facts.Part.{Part}
use Rattle.trace_ops.specs.declared.facts.Part.TheVariants as part
use Rattle.trace_ops.specs.declared.trace.Kind.{Kind}
use Rattle.trace_ops.specs.declared.trace.BoxId.{BoxId}
use Rattle.trace_ops.specs.declared.trace.Frame.{Frame}
use Rattle.trace_ops.specs.declared.trace.Op.{Op}
use Rattle.trace_ops.specs.declared.trace.Origin.{Origin}
use Rattle.trace_ops.specs.declared.trace.Origin.TheVariants.{Loop, Bridge}
use Rattle.trace_ops.specs.declared.trace.Trace.{Trace}
use Rattle.trace_ops.specs.declared.trace.TraceSet.{TraceSet}
use Rattle.trace_ops.specs.Facts.{part_of}
use Rattle.trace_ops.specs.Classes.{is_guard}
use Rattle.trace_ops.specs.Kinds.{kind_of_arg}
use Rattle.trace_ops.specs.Weights.{place_of}
use Rattle.trace_ops.specs.Rules.{ends, target_of, IsLoopOf, JumpsRightly, guard_op, guard_named, Receives, slots_of_guard}
use Rattle.trace_ops.specs.InRange.{IsInRange, IsSlot, NamesOperation}
use Rattle.trace_ops.specs.WellFormed.{IsWellFormed}
use Rattle.trace_meaning.specs.declared.value.Value.{Value}
use Rattle.trace_meaning.specs.declared.call.Answer.{Answer}
use Rattle.trace_meaning.specs.Values.{kind_of_value}
use Rattle.trace_meaning.specs.World.{World, failed}
use Rattle.trace_meaning.specs.Cuts.{Cuts, is_at, leaves_from, trace_leaves_from, seen_bridge}
use Rattle.trace_meaning.specs.Legs.{Leave, Fails, Jumps, Finishes, Waits, Misfits, Wrong, Turn, On, Off, In, Over, into, enter, settle, next, run}
use Rattle.trace_meaning.specs.Recorded.{Rec, RecordedNow, recorded, recorded_step, slots_of, ops_of, inputs_of, ops_at, begin_at, last_of, jump_target, prebuilt_object, first_world, started, recorded_run}
use Rattle.trace_meaning.specs.Observed.{guard_in, world_of, world_left}
use Rattle.trace_meaning.specs.Starting.{Starts, StartsLoop}
use Rattle.trace_meaning.specs.Kinds.{BoxesHold, ObjectsHold, RunHolds, LeftRightly}
use Rattle.trace_meaning.proofs.Bridges.{seen-is_bridge}
use Rattle.trace_meaning.specs.Kinds.{AreOfKinds}
use Rattle.trace_meaning.proofs.OfKind.{BoxesHold-bound_to, AreOfKinds-there, AreOfKinds-slots}
use Rattle.trace_meaning.specs.Holding.{Holds}
use Rattle.trace_meaning.proofs.HoldingSteps.{IsLawful, one_if, GoesOn, FailsIn, JumpsOut, LeaveHolds, TurnHolds, slots_named, TurnHolds-recorded_step}
use Rattle.lists.proofs.Alls.{all_at}
use Rattle.trace_meaning.specs.Boxes.{BoxesDecide, HasValue, bound_to}
use Rattle.trace_meaning.proofs.Valued.{inputs-valued}
use Rattle.trace_meaning.proofs.HoldingStarts.{AreOfKinds-inputs, Holds-first_world}

abbrev pub guards_in : List Op → List Op
guards_in ops = filter (λ (op : Op). is_guard op.code) ops

-- the boxes that are known behind these operations
abbrev pub known_behind : TraceSet → ℕ → List Op → List BoxId
known_behind set p before = inputs_of (slice_get set.traces p) ++ flat_map (λ (op : Op). option_to_list op.result) before

-- a run inside a trace: behind these operations, among them as many guards as were counted, with boxes and objects that
-- hold values of their kinds
pub record IsInside (set : TraceSet) (p : ℕ) (rest : List Op) (s : Rec) : Type 0 where
  pub before : List Op
  pub place : ops_at set p ≡ before ++ rest
  pub guards : s.guards ≡ length (guards_in before)
  pub boxes : BoxesHold (length s.world.objects) s.boxes
  pub world : Holds set.table s.world
  -- the inputs and the results of these operations have values
  pub known : All (HasValue s.boxes) (known_behind set p before)
  -- there are more to come, where there were any
  pub more : length rest ≡ 0 → length before ≡ 0

-- wherever it stands
abbrev pub NowHolds : TraceSet → RecordedNow → Type 0
NowHolds set (In p rest s) = IsInside set p rest s
NowHolds set (Over p l) = Holds set.table (world_left l) × LeftRightly set (Over p l)

pub seam : {X : Type 0} (xs ys : List X) (y : X) → slice_get (xs ++ y ∷ ys) (length xs) ≡ Some y
seam [] ys y = refl
seam (x ∷ xs) ys y = seam xs ys y

pub not_empty : {X : Type 0} (xs ys : List X) (y : X) → [] ≡ xs ++ y ∷ ys → ⊥
not_empty [] ys y h = cc
not_empty (x ∷ xs) ys y h = cc

one_guard : (b : Bool) (op : Op) → length (cond b (op ∷ []) []) ≡ one_if b
one_guard true op = refl
one_guard false op = refl

guards_more : (before : List Op) (op : Op) → length (guards_in (before ++ op ∷ [])) ≡ length (guards_in before) + one_if (is_guard op.code)
guards_more before op =
    let test : Op → Bool = λ o. is_guard o.code in
    let apart : guards_in (before ++ op ∷ []) ≡ guards_in before ++ guards_in (op ∷ []) = filter-append test before (op ∷ []) in
    let counted : length (guards_in before ++ guards_in (op ∷ [])) ≡ length (guards_in before) + length (guards_in (op ∷ [])) = length-append (guards_in before) (guards_in (op ∷ [])) in
    ap length apart ∙ counted ∙ ap (λ m. length (guards_in before) + m) (one_guard (is_guard op.code) op)

first_guard : (b : Bool) (op : Op) (rest : List Op) → b ≡ true → cond b (op ∷ rest) rest ≡ op ∷ rest
first_guard true op rest h = refl
first_guard false op rest h = absurd (cc)

-- the guard behind these operations
pub guard_there : (before rest : List Op) (op : Op) → is_guard op.code ≡ true → slice_get (guards_in (before ++ op ∷ rest)) (length (guards_in before)) ≡ Some op
guard_there before rest op one =
    let test : Op → Bool = λ o. is_guard o.code in
    ap (λ (l : List Op). slice_get l (length (guards_in before))) (filter-append test before (op ∷ rest) ∙ ap (λ (l : List Op). guards_in before ++ l) (first_guard (is_guard op.code) op (guards_in rest) one))
    ∙ seam (guards_in before) (guards_in rest) op

pub known_more : (set : TraceSet) (p : ℕ) (before : List Op) (op : Op) → known_behind set p (before ++ op ∷ []) ≡ known_behind set p before ++ option_to_list op.result
known_more set p before op =
    let res : Op → List BoxId = λ o. option_to_list o.result in
    ap (λ l. inputs_of (slice_get set.traces p) ++ l) (results before ∙ ap (λ l. flat_map res before ++ l) (append-nil (option_to_list op.result)))
    ∙ sym (append_assoc (inputs_of (slice_get set.traces p)) (flat_map res before) (option_to_list op.result))
  where
    results : (xs : List Op) → flat_map (λ (o : Op). option_to_list o.result) (xs ++ op ∷ []) ≡ flat_map (λ (o : Op). option_to_list o.result) xs ++ flat_map (λ (o : Op). option_to_list o.result) (op ∷ [])
    results [] = refl
    results (x ∷ xs) = ap (λ l. option_to_list x.result ++ l) (results xs) ∙ sym (append_assoc (option_to_list x.result) (flat_map (λ (o : Op). option_to_list o.result) xs) (flat_map (λ (o : Op). option_to_list o.result) (op ∷ [])))

pub begins_known : (decides : BoxesDecide) (set : TraceSet) (q : ℕ) (vs : List Value) (n : ℕ) → AreOfKinds n (map (λ (b : BoxId). Some b.kind) (inputs_of (slice_get set.traces q))) vs → All (HasValue (bound_to (inputs_of (slice_get set.traces q)) vs)) (known_behind set q [])
begins_known decides set q vs n hv =
    let bs = inputs_of (slice_get set.traces q) in
    subst (λ l. All (HasValue (bound_to bs vs)) l) (sym (append-nil bs)) (inputs-valued decides n bs vs hv)

module _ (decides : BoxesDecide) (set : TraceSet) (cuts : Cuts) (range : IsInRange set) (well : IsWellFormed set) where
  -- a run at the head of a trace
  pub begins_inside : (q : ℕ) (vs : List Value) (w : World) → Holds set.table w → AreOfKinds (length w.objects) (map (λ (b : BoxId). Some b.kind) (inputs_of (slice_get set.traces q))) vs → IsInside set q (ops_at set q) (begin_at set q vs w)
  begins_inside q vs w h hv = record {
    before = [];
    place = refl;
    guards = refl;
    boxes = BoxesHold-bound_to decides (length w.objects) (inputs_of (slice_get set.traces q)) vs hv;
    world = h;
    known = begins_known decides set q vs (length w.objects) hv;
    more = λ e. refl;
  }

  -- Bridges

  is_at_same : (p : ℕ) (x : Option ℕ) → is_at p x ≡ true → x ≡ Some p
  is_at_same p None h = absurd (cc)
  is_at_same p (Some q) h = ap (λ k. Some k) (eqb-true q p h)

  received : (inputs : List BoxId) (op : Op) (x : Option Op) → x ≡ Some op → Receives inputs x → map kind_of_arg (slots_of_guard op) ≡ map (λ (b : BoxId). Some b.kind) inputs
  received inputs op None e h = absurd (cc)
  received inputs op (Some o) e h = ap (λ (g : Op). map kind_of_arg (slots_of_guard g)) (sym (same_Some o op e)) ∙ h

  origin_receives : (p n : ℕ) (tr : Trace) (op : Op) (q : ℕ) (b : Trace) (origin : Origin) → slice_get set.traces p ≡ Some tr → guard_op tr n ≡ Some op → b.origin ≡ origin → leaves_from set.traces p n origin ≡ true → Receives b.inputs (guard_named set origin) → map kind_of_arg (slots_of_guard op) ≡ map (λ (i : BoxId). Some i.kind) b.inputs
  origin_receives p n tr op q b Loop et eg eo h r = absurd (cc)
  origin_receives p n tr op q b (Bridge parent guard) et eg eo h r =
      let parts = and_parts (guard == n) (is_at p (place_of parent set.traces)) h in
      let named : guard_named set (Bridge parent guard) ≡ Some op =
      ap (λ (x : Option ℕ). option_and_then (λ (t : Trace). guard_op t guard) (option_and_then (slice_get set.traces) x)) (is_at_same p (place_of parent set.traces) parts.1)
      ∙ ap (option_and_then (λ (t : Trace). guard_op t guard)) et
      ∙ ap (guard_op tr) (eqb-true guard n parts.0)
      ∙ eg in
      received b.inputs op (guard_named set (Bridge parent guard)) named r

  pub bridge_receives : (p n : ℕ) (tr : Trace) (op : Op) (q : ℕ) (b : Option Trace) → slice_get set.traces p ≡ Some tr → guard_op tr n ≡ Some op → slice_get set.traces q ≡ b → trace_leaves_from set.traces p n b ≡ true → map kind_of_arg (slots_of_guard op) ≡ map (λ (i : BoxId). Some i.kind) (inputs_of b)
  bridge_receives p n tr op q None et eg eb h = absurd (cc)
  bridge_receives p n tr op q (Some b) et eg eb h = origin_receives p n tr op q b b.origin et eg refl h (well.inputs_fit q b eb).0

  bridge_inside : (p n : ℕ) (tr : Trace) (op : Op) (vs : List Value) (w : World) (seen : Option ℕ) → Holds set.table w → slice_get set.traces p ≡ Some tr → guard_op tr n ≡ Some op → All IsSlot (slots_of_guard op) → AreOfKinds (length w.objects) (map kind_of_arg (slots_of_guard op)) vs → seen_bridge set.traces cuts p n w.failures ≡ seen → NowHolds set (into (recorded set cuts) p n vs w seen)
  bridge_inside p n tr op vs w None h et eg slots hv es =
      let P : Option Op → Type 0 = λ x. IsSomeAnd x (λ (o : Op). map kind_of_arg (slots_of o.snapshot) ≡ map (λ x. Some (kind_of_value x)) vs) in
      let found : guard_in (ops_at set p) n ≡ Some op = ap (λ (x : Option Trace). guard_in (ops_of x) n) et ∙ eg in (
        record { prebuilts = h.prebuilts; objects = h.objects },
        (subst P (sym found) (AreOfKinds-slots (length w.objects) (slots_of_guard op) vs slots hv), AreOfKinds-there (length w.objects) (map kind_of_arg (slots_of_guard op)) vs hv),
      )
  bridge_inside p n tr op vs w (Some q) h et eg slots hv es =
      let fit : map kind_of_arg (slots_of_guard op) ≡ map (λ (b : BoxId). Some b.kind) (inputs_of (slice_get set.traces q)) = bridge_receives p n tr op q (slice_get set.traces q) et eg refl (seen-is_bridge set.traces cuts p n w.failures q es).0 in
      begins_inside q vs (failed w) (record { prebuilts = h.prebuilts; objects = h.objects }) (subst (λ ks. AreOfKinds (length w.objects) ks vs) fit hv)

  -- Jumps

  loop_fits : (x : Option Trace) (kinds : List (Option Kind)) → IsSomeAnd x (IsLoopOf kinds) → kinds ≡ map (λ (b : BoxId). Some b.kind) (inputs_of x)
  loop_fits None kinds h = absurd h
  loop_fits (Some t) kinds h = h.1

  target_fits : (kinds : List (Option Kind)) (p : ℕ) (x : Option ℕ) → IsSomeAnd (option_and_then (slice_get set.traces) x) (IsLoopOf kinds) → kinds ≡ map (λ (b : BoxId). Some b.kind) (inputs_of (slice_get set.traces (unwrap_or x p)))
  target_fits kinds p None h = absurd h
  target_fits kinds p (Some q) h = loop_fits (slice_get set.traces q) kinds h

  pub jump_fits : (p : ℕ) (op : Op) → last_of (ops_at set p) ≡ Some op → JumpsRightly part.Jump set p op → map kind_of_arg op.args ≡ map (λ (b : BoxId). Some b.kind) (inputs_of (slice_get set.traces (jump_target set p)))
  jump_fits p op el h =
      target_fits (map kind_of_arg op.args) p (target_of set p op.descr) h
      ∙ ap (λ (x : Option Op). map (λ (b : BoxId). Some b.kind) (inputs_of (slice_get set.traces (unwrap_or (option_and_then (λ (o : Op). target_of set p o.descr) x) p)))) (sym el)

  -- One operation

  module _ (p : ℕ) (before rest : List Op) (op : Op) (tr : Trace) (et : slice_get set.traces p ≡ Some tr) (place : tr.ops ≡ before ++ op ∷ rest) where
    pub there : slice_get tr.ops (length before) ≡ Some op
    there = ap (λ (l : List Op). slice_get l (length before)) place ∙ seam before rest op

    pub lawful : IsLawful set.table op
    lawful = record {
      names = all_at (NamesOperation set.table) tr.ops (length before) op (all_at (λ (t : Trace). All (NamesOperation set.table) t.ops) set.traces p tr range.operations_name_rows et) there;
      takes = well.arguments_fit p tr et (length before) op there;
      gives = well.results_fit p tr et (length before) op there;
      cites = well.descrs_fit p tr et (length before) op there;
    }

    pub slots : All IsSlot (slots_of_guard op)
    slots = slots_named IsSlot op.snapshot (all_at (λ (o : Op). All (λ (f : Frame). All IsSlot f.slots) o.snapshot) tr.ops (length before) op (all_at (λ (t : Trace). All (λ (o : Op). All (λ (f : Frame). All IsSlot f.slots) o.snapshot) t.ops) set.traces p tr range.slots_hold_values et) there)

    pub is_last : part_of op.code ≡ part.Jump → last_of (ops_at set p) ≡ Some op
    is_last e =
        let end : length before + 1 ≡ length tr.ops = (well.ends_at_end p tr et (length before) op there).0 (ap ends e) in
        let at : length tr.ops - 1 ≡ length before = omega arith in
        ap (λ (x : Option Trace). last_of (ops_of x)) et ∙ ap (slice_get tr.ops) at ∙ there

    -- an operation that is no end isn't the last
    ended : (rest : List Op) → length rest ≡ 0 → ends (part_of op.code) ≡ false → tr.ops ≡ before ++ op ∷ rest → ⊥
    ended [] none no_end place =
        let long : length tr.ops ≡ length (before ++ op ∷ []) = ap length place in
        let two : length (before ++ op ∷ []) ≡ length before + 1 = length-append before (op ∷ []) in
        let last : length before + 1 ≡ length tr.ops = omega arith in
        let is : ends (part_of op.code) ≡ true = (well.ends_at_end p tr et (length before) op there).1 last in
        let wrong : false ≡ true = sym no_end ∙ is in cc
    ended (x ∷ xs) none no_end place = absurd (omega arith)

    pub goes_on : (s u : Rec) → s.guards ≡ length (guards_in before) → All (HasValue s.boxes) (known_behind set p before) → GoesOn set.table op s u → IsInside set p rest u
    goes_on s u count known h = record {
      before = before ++ op ∷ [];
      place = ap (λ (x : Option Trace). ops_of x) et ∙ place ∙ sym (append_assoc before (op ∷ []) rest);
      guards = h.guards ∙ ap (λ m. m + one_if (is_guard op.code)) count ∙ sym (guards_more before op);
      boxes = h.boxes;
      world = h.world;
      known = subst (λ l. All (HasValue u.boxes) l) (sym (known_more set p before op)) (h.known (known_behind set p before) known);
      more = λ e. absurd (ended rest e h.no_end place);
    }

    fails : (s : Rec) (n : ℕ) (vs : List Value) (w : World) → s.guards ≡ length (guards_in before) → FailsIn set.table op s n vs w → NowHolds set (enter (recorded set cuts) p (Fails n vs w))
    fails s n vs w count h =
        let found : guard_op tr n ≡ Some op =
        ap (guard_op tr) (h.number ∙ count) ∙ ap (λ (l : List Op). slice_get (guards_in l) (length (guards_in before))) place ∙ guard_there before rest op h.guard in
        bridge_inside p n tr op vs w (seen_bridge set.traces cuts p n w.failures) h.world et found slots h.values refl

    jumps : (vs : List Value) (w : World) → JumpsOut set.table op vs w → NowHolds set (enter (recorded set cuts) p (Jumps vs w))
    jumps vs w h =
        let right : JumpsRightly part.Jump set p op = subst (λ (x : Part). JumpsRightly x set p op) h.jump (well.jumps_fit p tr et (length before) op there) in
        begins_inside (jump_target set p) vs w h.world (subst (λ ks. AreOfKinds (length w.objects) ks vs) (jump_fits p op (is_last h.jump) right) h.values)

    leaves : (s : Rec) (l : Leave) → s.guards ≡ length (guards_in before) → LeaveHolds set.table op s l → NowHolds set (enter (recorded set cuts) p l)
    leaves s (Fails n vs w) count h = fails s n vs w count h
    leaves s (Jumps vs w) count h = jumps vs w h
    leaves s (Finishes vs w) count h = h
    leaves s (Waits w) count h = (h, tt)
    leaves s (Misfits w) count h = (h, tt)
    leaves s (Wrong w) count h = (h, tt)

    settles : (s : Rec) (turn : Turn Rec) → s.guards ≡ length (guards_in before) → All (HasValue s.boxes) (known_behind set p before) → TurnHolds set.table op s turn → NowHolds set (settle (recorded set cuts) p rest turn)
    settles s (On u) count known h = goes_on s u count known h
    settles s (Off l) count known h = leaves s l count h

  op_next : (p : ℕ) (op : Op) (rest : List Op) (s : Rec) (x : Option Trace) → slice_get set.traces p ≡ x → IsInside set p (op ∷ rest) s → NowHolds set (settle (recorded set cuts) p rest (recorded_step set.table op s))
  op_next p op rest s None et h = absurd (not_empty h.before rest op (sym (ap (λ (x : Option Trace). ops_of x) et) ∙ h.place))
  op_next p op rest s (Some tr) et h =
      let place : tr.ops ≡ h.before ++ op ∷ rest = sym (ap (λ (x : Option Trace). ops_of x) et) ∙ h.place in
      settles p h.before rest op tr et place s (recorded_step set.table op s) h.guards h.known (TurnHolds-recorded_step decides set.table op s (lawful p h.before rest op tr et place) h.world h.boxes)

  pub next_holds : (x : RecordedNow) → NowHolds set x → NowHolds set (next (recorded set cuts) x)
  next_holds (In p [] s) h = (h.world, tt)
  next_holds (In p (op ∷ rest) s) h = op_next p op rest s (slice_get set.traces p) refl h
  next_holds (Over p l) h = h

  pub NowHolds-run : (n : ℕ) (x : RecordedNow) → NowHolds set x → NowHolds set (run (recorded set cuts) n x)
  NowHolds-run zero x h = h
  NowHolds-run (suc n) x h = NowHolds-run n (next (recorded set cuts) x) (next_holds x h)

  loop_inputs : (start : ℕ) (inputs : List Value) (x : Option Trace) → IsSomeAnd x (StartsLoop set.table inputs) → AreOfKinds (length (first_world set.table []).objects) (map (λ (b : BoxId). Some b.kind) (inputs_of x)) inputs
  loop_inputs start inputs None h = absurd h
  loop_inputs start inputs (Some tr) h = AreOfKinds-inputs set.table (length (first_world set.table []).objects) tr.inputs inputs (sym (length-map set.table.prebuilts prebuilt_object)) h.1 h.2

  pub NowHolds-recorded_run : (start : ℕ) (inputs : List Value) (answers : List Answer) (n : ℕ) → Starts set start inputs → NowHolds set (recorded_run set start inputs answers cuts n)
  NowHolds-recorded_run start inputs answers n h = NowHolds-run n (started set start inputs answers cuts) (begins_inside start inputs (first_world set.table answers) (Holds-first_world set.table answers range.table) (loop_inputs start inputs (slice_get set.traces start) h))

pub RunHolds-from_now : (set : TraceSet) (x : RecordedNow) → NowHolds set x → RunHolds x
RunHolds-from_now set (In p rest s) h = h.boxes
RunHolds-from_now set (Over p l) h = tt

pub ObjectsHold-from_now : (set : TraceSet) (x : RecordedNow) → NowHolds set x → ObjectsHold set.table (world_of x).objects
ObjectsHold-from_now set (In p rest s) h = h.world.objects
ObjectsHold-from_now set (Over p l) h = h.0.objects

pub LeftRightly-from_now : (set : TraceSet) (x : RecordedNow) → NowHolds set x → LeftRightly set x
LeftRightly-from_now set (In p rest s) h = tt
LeftRightly-from_now set (Over p l) h = h.1
