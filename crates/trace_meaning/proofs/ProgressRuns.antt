-- Recorded runs make progress.
use Rattle.std.proofs.Common.{◌≡◌, ℕ, zero, suc, ◌+◌, ◌-◌, ◌<◌, Bool, true, false, Option, Some, None, List, [], ◌∷◌, ◌++◌, length, map, take, slice_get, refl, ap, sym, ◌∙◌, subst, arith}
use Rattle.std.specs.Prelude.{IsSome, IsSomeAnd, position, option_and_then}
use Rattle.std.specs.Option.{option_map, option_to_list, unwrap_or}
use Rattle.std.specs.List.{All, Contains, flat_map}
use Rattle.std.specs.Str.{bytes_eq}
use Rattle.std.proofs.lemmas.List.{length-append}
use Rattle.std.proofs.lemmas.List.Quantifiers.{position-Some}
use Rattle.lists.proofs.Alls.{all_weaker, all_left, all_right}
use Rattle.lists.proofs.Options.{some_same}
use Rattle.lists.proofs.Places.{get_some}
use Rattle.trace_ops.specs.declared.facts.Part.{Part}
use Rattle.trace_ops.specs.declared.facts.Part.TheVariants as part
use Rattle.trace_ops.specs.declared.trace.BoxId.{BoxId}
use Rattle.trace_ops.specs.declared.trace.Descr.{Descr}
use Rattle.trace_ops.specs.declared.trace.Descr.TheVariants as descr
use Rattle.trace_ops.specs.declared.trace.Frame.{Frame}
use Rattle.trace_ops.specs.declared.trace.Op.{Op}
use Rattle.trace_ops.specs.declared.trace.Trace.{Trace}
use Rattle.trace_ops.specs.declared.trace.TraceSet.{TraceSet}
use Rattle.trace_ops.specs.declared.table.Table.{Table}
use Rattle.trace_ops.specs.Facts.{part_of, gives_of}
use Rattle.trace_ops.specs.Classes.{guarding, plain}
use Rattle.trace_ops.specs.Kinds.{kind_of_arg}
use Rattle.trace_ops.specs.Parts.{boxes_of_arg}
use Rattle.trace_ops.specs.Rules.{known_before, boxes_in, target_of}
use Rattle.trace_ops.specs.InRange.{IsInRange, IsTableInRange}
use Rattle.trace_ops.specs.WellFormed.{IsWellFormed}
use Rattle.trace_meaning.specs.declared.value.Value.{Value}
use Rattle.trace_meaning.specs.declared.call.Answer.{Answer}
use Rattle.trace_meaning.specs.World.{World}
use Rattle.trace_meaning.specs.Boxes.{BoxesDecide, HasValue}
use Rattle.trace_meaning.specs.Cuts.{Cuts, trace_leaves_from, seen_bridge}
use Rattle.trace_meaning.specs.Passing.{passes}
use Rattle.trace_meaning.specs.Performing.{Done, Gave, Bad, Waited, Misfitted, perform}
use Rattle.trace_meaning.specs.Legs.{Leave, Fails, Jumps, Finishes, Waits, Misfits, Wrong, Turn, On, Off, In, Over, into, enter, settle, next, run}
use Rattle.trace_meaning.specs.Recorded.{Rec, RecordedNow, recorded, recorded_step, recorded_result, recorded_plain, recorded_failure, recorded_guard, recorded_part, recorded_with, values_of, slots_of, ops_of, inputs_of, ops_at, last_of, jump_target, started, recorded_run}
use Rattle.trace_meaning.specs.Observed.{world_of}
use Rattle.trace_meaning.specs.Starting.{Starts, StartsLoop}
use Rattle.trace_meaning.specs.Kinds.{AreOfKinds}
use Rattle.trace_meaning.specs.There.{AllIsThere, HasItsParts}
use Rattle.trace_meaning.specs.Undefined.{IsUndefined, IsLawfulHere, GivesIf, GoesRight, Progresses, MakesProgress}
use Rattle.trace_meaning.proofs.Bridges.{seen-is_bridge}
use Rattle.trace_meaning.proofs.OfKind.{AreOfKinds-all_values}
use Rattle.trace_meaning.proofs.HoldingSteps.{IsLawful}
use Rattle.trace_meaning.proofs.HoldingRuns.{IsInside, NowHolds, known_behind, not_empty, there, lawful, NowHolds-recorded_run}
use Rattle.trace_meaning.proofs.ProgressGuards.{only-undefined}
use Rattle.trace_meaning.proofs.ThereRuns.{runs-there}
use Rattle.trace_meaning.proofs.Valued.{some_is, values-there, slots_boxes}

-- A step that goes wrong

module _ (t : Table) (op : Op) (s : Rec) (range : IsTableInRange t) (whole : All (HasItsParts t) s.world.objects) (law : IsLawful t op) (vs : List Value) (kinds : AreOfKinds (length s.world.objects) (map kind_of_arg op.args) vs) (slots : IsSome (values_of s (slots_of op.snapshot))) where
  abbrev Cause : Type 0
  Cause = IsUndefined t op.code op.descr vs s.world

  here : IsLawfulHere t op.code op.descr op.args vs s.world
  here = record { range = range; whole = whole; takes = law.takes; cites = law.cites; kinds = kinds }

  result_wrong : (to : Option BoxId) (x : Option Value) (u w : World) → option_map (λ (b : BoxId). b.kind) to ≡ gives_of op.code → GivesIf (gives_of op.code) x → ◌≡◌ {A = Turn Rec} (recorded_result to s x u) (Off (Wrong w)) → ⊥
  result_wrong (Some b) (Some x) u w ek g e = cc
  result_wrong (Some b) None u w ek g e = subst (λ k. GivesIf k None) (sym ek) g
  result_wrong None x u w ek g e = cc

  plain_wrong : (d : Done) (w : World) → GoesRight (gives_of op.code) Cause d → ◌≡◌ {A = Turn Rec} (recorded_plain op.result s d) (Off (Wrong w)) → Cause
  plain_wrong (Gave x u) w g e = absurd (result_wrong op.result x u w law.gives g e)
  plain_wrong Bad w g e = g
  plain_wrong (Waited u) w g e = absurd (cc)
  plain_wrong (Misfitted u) w g e = absurd (cc)

  failure_wrong : (xs : Option (List Value)) (w : World) → IsSome xs → ◌≡◌ {A = Turn Rec} (recorded_failure s xs) (Off (Wrong w)) → ⊥
  failure_wrong None w h e = cc
  failure_wrong (Some xs) w h e = cc

  guard_wrong : (x : Option Bool) (w : World) → (x ≡ None → Cause) → ◌≡◌ {A = Turn Rec} (recorded_guard op s x) (Off (Wrong w)) → Cause
  guard_wrong None w h e = h refl
  guard_wrong (Some true) w h e = absurd (cc)
  guard_wrong (Some false) w h e = absurd (failure_wrong (values_of s (slots_of op.snapshot)) w slots e)

  part_wrong : (p : Part) (w : World) → part_of op.code ≡ p → ◌≡◌ {A = Turn Rec} (recorded_part p t op s vs) (Off (Wrong w)) → Cause
  part_wrong part.Jump w ep e = absurd (cc)
  part_wrong part.Finish w ep e = absurd (cc)
  part_wrong part.Guard w ep e = guard_wrong (passes op.code op.args vs s.world) w (only-undefined.tests t op.code op.descr op.args vs s.world (ap guarding ep) here) e
  part_wrong part.OverflowGuard w ep e = guard_wrong (passes op.code op.args vs s.world) w (only-undefined.tests t op.code op.descr op.args vs s.world (ap guarding ep) here) e
  part_wrong part.Plain w ep e = plain_wrong (perform t op.code op.descr op.args vs s.world) w (only-undefined.performs t op.code op.descr op.args vs s.world (ap plain ep) here) e
  part_wrong part.Overflowing w ep e = plain_wrong (perform t op.code op.descr op.args vs s.world) w (only-undefined.performs t op.code op.descr op.args vs s.world (ap plain ep) here) e

  pub step-wrong : (w : World) → values_of s op.args ≡ Some vs → recorded_step t op s ≡ Off (Wrong w) → Cause
  step-wrong w ev e = part_wrong (part_of op.code) w refl (sym (ap (recorded_with t op s) ev) ∙ e)

-- Known boxes

taken_front : {X : Type 0} (xs ys : List X) → take (length xs) (xs ++ ys) ≡ xs
taken_front [] ys = refl
taken_front (x ∷ xs) ys = ap (λ l. x ∷ l) (taken_front xs ys)

holds_known : (P : BoxId → Type 0) (bs : List BoxId) (b : BoxId) → All P bs → Contains bs b → P b
holds_known P bs b h c = subst P c.2 (h c.0 b c.1)

module _ (decides : BoxesDecide) (set : TraceSet) (cuts : Cuts) (range : IsInRange set) (well : IsWellFormed set) where
  module _ (p : ℕ) (op : Op) (rest : List Op) (s : Rec) (h : IsInside set p (op ∷ rest) s) (tr : Trace) (et : slice_get set.traces p ≡ Some tr) where
    place : tr.ops ≡ h.before ++ op ∷ rest
    place = sym (ap (λ (x : Option Trace). ops_of x) et) ∙ h.place

    behind : length tr.ops - length (op ∷ rest) ≡ length h.before
    behind =
        let long : length tr.ops ≡ length (h.before ++ op ∷ rest) = ap length place in
        let two : length (h.before ++ op ∷ rest) ≡ length h.before + length (op ∷ rest) = length-append h.before (op ∷ rest) in
        omega arith

    known_same : known_before tr (length h.before) ≡ known_behind set p h.before
    known_same =
        ap (λ l. tr.inputs ++ flat_map (λ (o : Op). option_to_list o.result) l) (ap (take (length h.before)) place ∙ taken_front h.before (op ∷ rest))
        ∙ ap (λ (x : Option Trace). inputs_of x ++ flat_map (λ (o : Op). option_to_list o.result) h.before) (sym et)

    known_valued : All (HasValue s.boxes) (known_before tr (length h.before))
    known_valued = subst (λ l. All (HasValue s.boxes) l) (sym known_same) h.known

    used_valued : All (HasValue s.boxes) (boxes_in op)
    used_valued =
        all_weaker (Contains (known_before tr (length h.before))) (HasValue s.boxes) (boxes_in op) (λ b c. holds_known (HasValue s.boxes) (known_before tr (length h.before)) b known_valued c)
        (well.boxes_known p tr et (length h.before) op (there decides set cuts range well p h.before rest op tr et place))

    abbrev arg_boxes : List BoxId
    arg_boxes = flat_map boxes_of_arg op.args

    abbrev slot_boxes : List BoxId
    slot_boxes = flat_map (λ (f : Frame). flat_map boxes_of_arg f.slots) op.snapshot

    slots_there : IsSome (values_of s (slots_of op.snapshot))
    slots_there = values-there s.boxes (slots_of op.snapshot) (slots_boxes op.snapshot s.boxes (all_right (HasValue s.boxes) arg_boxes slot_boxes used_valued))

    args_there : (vs : List Value) × (values_of s op.args ≡ Some vs)
    args_there = some_is (values_of s op.args) (values-there s.boxes op.args (all_left (HasValue s.boxes) arg_boxes slot_boxes used_valued))

    pub progresses : All (HasItsParts set.table) s.world.objects → Progresses set.table op s
    progresses whole =
        let law = lawful decides set cuts range well p h.before rest op tr et place in
        let vs = args_there in
        let kinds = AreOfKinds-all_values set.table (length s.world.objects) s.boxes h.world.prebuilts h.boxes op.args vs.0 law.names.0 vs.1 in
        record {
          values = vs.0;
          args = vs.1;
          slots = slots_there;
          only_undefined = λ w e. step-wrong set.table op s range.table whole law vs.0 kinds slots_there w vs.1 e;
        }

    pub known-there : All (HasValue s.boxes) (known_before tr (length tr.ops - length (op ∷ rest)))
    known-there = subst (λ k. All (HasValue s.boxes) (known_before tr k)) (sym behind) known_valued

  -- Traces that are there

  abbrev IsInTrace : RecordedNow → Type 0
  IsInTrace (In p rest s) = IsSome (slice_get set.traces p)
  IsInTrace (Over p l) = Unit {0}

  bridge_there : (p n q : ℕ) (t : Option Trace) → trace_leaves_from set.traces p n t ≡ true → IsSome t
  bridge_there p n q None h = absurd (cc)
  bridge_there p n q (Some t) h = refl

  into_there : (p n : ℕ) (vs : List Value) (w : World) (q : Option ℕ) → seen_bridge set.traces cuts p n w.failures ≡ q → IsInTrace (into (recorded set cuts) p n vs w q)
  into_there p n vs w None e = tt
  into_there p n vs w (Some q) e = bridge_there p n q (slice_get set.traces q) (seen-is_bridge set.traces cuts p n w.failures q e).0

  named_there : (test : Trace → Bool) (q : ℕ) (d : Trace) → position test set.traces ≡ Some q → IsSome (slice_get set.traces q)
  named_there test q d e =
      let less : q < length set.traces = (position-Some test set.traces q d e).0 in
      let x = get_some set.traces q less in
      subst (λ (y : Option Trace). IsSome y) (sym x.1) refl

  target_there : (p q : ℕ) (tr : Trace) (d : Descr) → IsSome (slice_get set.traces p) → target_of set p d ≡ Some q → IsSome (slice_get set.traces q)
  target_there p q tr (descr.Target name) h e = named_there (λ (t : Trace). bytes_eq t.name name) q tr e
  target_there p q tr descr.No h e = subst (λ k. IsSome (slice_get set.traces k)) (some_same e) h
  target_there p q tr (descr.Size k) h e = absurd (cc)
  target_there p q tr (descr.Field k) h e = absurd (cc)
  target_there p q tr (descr.Array k) h e = absurd (cc)
  target_there p q tr (descr.Call k) h e = absurd (cc)

  chosen_there : (p : ℕ) (x : Option ℕ) → IsSome (slice_get set.traces p) → ((q : ℕ) → x ≡ Some q → IsSome (slice_get set.traces q)) → IsSome (slice_get set.traces (unwrap_or x p))
  chosen_there p None h f = h
  chosen_there p (Some q) h f = f q refl

  last_target : (p : ℕ) (tr : Trace) (op : Option Op) (q : ℕ) → IsSome (slice_get set.traces p) → option_and_then (λ (o : Op). target_of set p o.descr) op ≡ Some q → IsSome (slice_get set.traces q)
  last_target p tr None q h e = absurd (cc)
  last_target p tr (Some op) q h e = target_there p q tr op.descr h e

  jump_there : (p : ℕ) → IsSome (slice_get set.traces p) → IsSome (slice_get set.traces (jump_target set p))
  jump_there p h =
      let tr = some_is (slice_get set.traces p) h in
      chosen_there p (option_and_then (λ (o : Op). target_of set p o.descr) (last_of (ops_at set p))) h (λ q e. last_target p tr.0 (last_of (ops_at set p)) q h e)

  enter_there : (p : ℕ) (l : Leave) → IsSome (slice_get set.traces p) → IsInTrace (enter (recorded set cuts) p l)
  enter_there p (Fails n vs w) h = into_there p n vs w (seen_bridge set.traces cuts p n w.failures) refl
  enter_there p (Jumps vs w) h = jump_there p h
  enter_there p (Finishes vs w) h = tt
  enter_there p (Waits w) h = tt
  enter_there p (Misfits w) h = tt
  enter_there p (Wrong w) h = tt

  settle_there : (p : ℕ) (rest : List Op) (x : Turn Rec) → IsSome (slice_get set.traces p) → IsInTrace (settle (recorded set cuts) p rest x)
  settle_there p rest (On s) h = h
  settle_there p rest (Off l) h = enter_there p l h

  next_there : (x : RecordedNow) → IsInTrace x → IsInTrace (next (recorded set cuts) x)
  next_there (In p [] s) h = tt
  next_there (In p (op ∷ rest) s) h = settle_there p rest (recorded_step set.table op s) h
  next_there (Over p l) h = tt

  run_there : (n : ℕ) (x : RecordedNow) → IsInTrace x → IsInTrace (run (recorded set cuts) n x)
  run_there zero x h = h
  run_there (suc n) x h = run_there n (next (recorded set cuts) x) (next_there x h)

  -- Whole runs

  inside_progress : (p : ℕ) (op : Op) (rest : List Op) (s : Rec) (x : Option Trace) → slice_get set.traces p ≡ x → IsInside set p (op ∷ rest) s → All (HasItsParts set.table) s.world.objects → Progresses set.table op s
  inside_progress p op rest s None et h whole = absurd (not_empty h.before rest op (sym (ap (λ (x : Option Trace). ops_of x) et) ∙ h.place))
  inside_progress p op rest s (Some tr) et h whole = progresses p op rest s h tr et whole

  no_items : {X : Type 0} (xs : List X) → length xs ≡ 0 → xs ≡ []
  no_items [] h = refl
  no_items (x ∷ xs) h = absurd (omega arith)

  not_past : (p : ℕ) (s : Rec) (x : Option Trace) → slice_get set.traces p ≡ x → IsSome x → IsInside set p [] s → ⊥
  not_past p s None et some h = cc
  not_past p s (Some tr) et some h =
      let none : h.before ≡ [] = no_items h.before (h.more refl) in
      let empty : tr.ops ≡ [] = sym (ap (λ (x : Option Trace). ops_of x) et) ∙ h.place ∙ ap (λ (l : List Op). l ++ []) none in
      let some_ops : 0 < length tr.ops = well.has_operations p tr et in
      let long : length tr.ops ≡ 0 = ap length empty in
      omega arith

  makes_progress : (x : RecordedNow) → NowHolds set x → IsInTrace x → AllIsThere set.table (world_of x) → MakesProgress set x
  makes_progress (In p [] s) h i a = absurd (not_past p s (slice_get set.traces p) refl i h)
  makes_progress (In p (op ∷ rest) s) h i a = (inside_progress p op rest s (slice_get set.traces p) refl h a.whole, (λ t e. known-there p op rest s h t e))
  makes_progress (Over p l) h i a = tt

  start_there : (start : ℕ) (inputs : List Value) (t : Option Trace) → IsSomeAnd t (StartsLoop set.table inputs) → IsSome t
  start_there start inputs None h = absurd h
  start_there start inputs (Some t) h = refl

  pub runs-make_progress : (start : ℕ) (inputs : List Value) (answers : List Answer) (n : ℕ) → Starts set start inputs → MakesProgress set (recorded_run set start inputs answers cuts n)
  runs-make_progress start inputs answers n starts =
      makes_progress (recorded_run set start inputs answers cuts n) (NowHolds-recorded_run decides set cuts range well start inputs answers n starts)
      (run_there n (started set start inputs answers cuts) (start_there start inputs (slice_get set.traces start) starts))
      (runs-there decides set start inputs answers cuts n range well starts)
