-- What recorded runs name is there.
use Rattle.std.proofs.Common.{◌≡◌, ℕ, zero, suc, ◌<◌, ◌≤◌, Bool, true, false, Option, Some, None, List, [], ◌∷◌, length, map, slice_get, refl, ap, sym, ◌∙◌, arith}
use Rattle.std.specs.Prelude.{IsSomeAnd}
use Rattle.std.specs.List.{All}
use Rattle.std.proofs.lemmas.List.{length-map}
use Rattle.std.proofs.lemmas.List.Elements.{All-nil, All-cons, All-head, All-tail}
use Rattle.trace_ops.specs.declared.facts.Part.{Part}
use Rattle.trace_ops.specs.declared.facts.Part.TheVariants as part
use Rattle.trace_ops.specs.declared.trace.BoxId.{BoxId}
use Rattle.trace_ops.specs.declared.trace.Op.{Op}
use Rattle.trace_ops.specs.declared.trace.Trace.{Trace}
use Rattle.trace_ops.specs.declared.trace.TraceSet.{TraceSet}
use Rattle.trace_ops.specs.declared.table.Initial.{Initial}
use Rattle.trace_ops.specs.declared.table.Initial.TheVariants as initial
use Rattle.trace_ops.specs.declared.table.PrebuiltRow.{PrebuiltRow}
use Rattle.trace_ops.specs.declared.table.ShapeOf.{ShapeOf}
use Rattle.trace_ops.specs.declared.table.ShapeOf.TheVariants as shape
use Rattle.trace_ops.specs.declared.table.SizeRow.{SizeRow}
use Rattle.trace_ops.specs.declared.table.Table.{Table}
use Rattle.trace_ops.specs.Facts.{part_of}
use Rattle.trace_ops.specs.Kinds.{kind_of_arg, kind_of_initial, kind_of_field, HasParts}
use Rattle.trace_ops.specs.InRange.{IsInRange, IsTableInRange, IsPrebuilt, NamesInitial}
use Rattle.trace_ops.specs.WellFormed.{IsWellFormed}
use Rattle.trace_meaning.specs.declared.value.Value.{Value}
use Rattle.trace_meaning.specs.declared.value.Object.{Object}
use Rattle.trace_meaning.specs.declared.call.Answer.{Answer}
use Rattle.trace_meaning.specs.World.{World, Logged, failed}
use Rattle.trace_meaning.specs.Boxes.{BoxesDecide}
use Rattle.trace_meaning.specs.Objects.{listed}
use Rattle.trace_meaning.specs.Cuts.{Cuts, seen_bridge}
use Rattle.trace_meaning.specs.Passing.{passes}
use Rattle.trace_meaning.specs.Performing.{Done, Gave, Bad, Waited, Misfitted, perform}
use Rattle.trace_meaning.specs.Legs.{Leave, Fails, Jumps, Finishes, Waits, Misfits, Wrong, Turn, On, Off, In, Over, into, enter, settle, next, run}
use Rattle.trace_meaning.specs.Recorded.{Rec, RecordedNow, recorded, recorded_step, recorded_result, recorded_plain, recorded_failure, recorded_guard, recorded_part, recorded_with, values_of, slots_of, ops_of, initial_value, prebuilt_object, first_world, started, recorded_run}
use Rattle.trace_meaning.specs.Observed.{world_of, world_left}
use Rattle.trace_meaning.specs.Starting.{Starts}
use Rattle.trace_meaning.specs.Kinds.{IsThere}
use Rattle.trace_meaning.specs.There.{HasRoomFor, HasItsParts, CallIsThere, AllIsThere}
use Rattle.trace_meaning.proofs.OfKind.{AreOfKinds-there, AreOfKinds-all_values}
use Rattle.trace_meaning.proofs.HoldingRuns.{IsInside, NowHolds, not_empty, lawful, next_holds, NowHolds-recorded_run}
use Rattle.trace_meaning.proofs.ThereOperations.{DoneThere, perform-there}

module _ (t : Table) where
  abbrev TurnThere : Turn Rec → Type 0
  TurnThere (On s) = AllIsThere t s.world
  TurnThere (Off l) = AllIsThere t (world_left l)

  result_there : (to : Option BoxId) (s : Rec) (x : Option Value) (w : World) → AllIsThere t w → TurnThere (recorded_result to s x w)
  result_there (Some b) s (Some x) w h = h
  result_there (Some b) s None w h = h
  result_there None s x w h = h

  plain_there : (to : Option BoxId) (s : Rec) (d : Done) → AllIsThere t s.world → DoneThere t s.world d → TurnThere (recorded_plain to s d)
  plain_there to s (Gave x w) h k = result_there to s x w k.1
  plain_there to s Bad h k = h
  plain_there to s (Waited w) h k = k
  plain_there to s (Misfitted w) h k = k

  failure_there : (s : Rec) (vs : Option (List Value)) → AllIsThere t s.world → TurnThere (recorded_failure s vs)
  failure_there s None h = h
  failure_there s (Some vs) h = h

  guard_there : (op : Op) (s : Rec) (x : Option Bool) → AllIsThere t s.world → TurnThere (recorded_guard op s x)
  guard_there op s None h = h
  guard_there op s (Some true) h = h
  guard_there op s (Some false) h = failure_there s (values_of s (slots_of op.snapshot)) h

  part_there : (p : Part) (op : Op) (s : Rec) (vs : List Value) → length t.prebuilts ≤ length s.world.objects → AllIsThere t s.world → All (IsThere (length s.world.objects)) vs → TurnThere (recorded_part p t op s vs)
  part_there part.Jump op s vs pre h k = h
  part_there part.Finish op s vs pre h k = h
  part_there part.Guard op s vs pre h k = guard_there op s (passes op.code op.args vs s.world) h
  part_there part.OverflowGuard op s vs pre h k = guard_there op s (passes op.code op.args vs s.world) h
  part_there part.Plain op s vs pre h k = plain_there op.result s (perform t op.code op.descr op.args vs s.world) h (perform-there t op.code op.descr op.args vs s.world pre h k)
  part_there part.Overflowing op s vs pre h k = plain_there op.result s (perform t op.code op.descr op.args vs s.world) h (perform-there t op.code op.descr op.args vs s.world pre h k)

  with_there : (op : Op) (s : Rec) (vs : Option (List Value)) → length t.prebuilts ≤ length s.world.objects → AllIsThere t s.world → ((xs : List Value) → vs ≡ Some xs → All (IsThere (length s.world.objects)) xs) → TurnThere (recorded_with t op s vs)
  with_there op s None pre h k = h
  with_there op s (Some vs) pre h k = part_there (part_of op.code) op s vs pre h (k vs refl)

module _ (decides : BoxesDecide) (set : TraceSet) (cuts : Cuts) (range : IsInRange set) (well : IsWellFormed set) where
  failed_there : (w : World) → AllIsThere set.table w → AllIsThere set.table (failed w)
  failed_there w h = record { whole = h.whole; parts = h.parts; calls = h.calls }

  into_there : (p n : ℕ) (vs : List Value) (w : World) (q : Option ℕ) → AllIsThere set.table w → AllIsThere set.table (world_of (into (recorded set cuts) p n vs w q))
  into_there p n vs w None h = failed_there w h
  into_there p n vs w (Some q) h = failed_there w h

  enter_there : (p : ℕ) (l : Leave) → AllIsThere set.table (world_left l) → AllIsThere set.table (world_of (enter (recorded set cuts) p l))
  enter_there p (Fails n vs w) h = into_there p n vs w (seen_bridge set.traces cuts p n w.failures) h
  enter_there p (Jumps vs w) h = h
  enter_there p (Finishes vs w) h = h
  enter_there p (Waits w) h = h
  enter_there p (Misfits w) h = h
  enter_there p (Wrong w) h = h

  settle_there : (p : ℕ) (rest : List Op) (x : Turn Rec) → TurnThere set.table x → AllIsThere set.table (world_of (settle (recorded set cuts) p rest x))
  settle_there p rest (On s) h = h
  settle_there p rest (Off l) h = enter_there p l h

  op_there : (p : ℕ) (op : Op) (rest : List Op) (s : Rec) (x : Option Trace) → slice_get set.traces p ≡ x → IsInside set p (op ∷ rest) s → AllIsThere set.table s.world → AllIsThere set.table (world_of (settle (recorded set cuts) p rest (recorded_step set.table op s)))
  op_there p op rest s None et h there = absurd (not_empty h.before rest op (sym (ap (λ (x : Option Trace). ops_of x) et) ∙ h.place))
  op_there p op rest s (Some tr) et h there =
      let place = sym (ap (λ (x : Option Trace). ops_of x) et) ∙ h.place in
      let law = lawful decides set cuts range well p h.before rest op tr et place in
      settle_there p rest (recorded_step set.table op s)
      (with_there set.table op s (values_of s op.args) h.world.prebuilts there (λ xs e. AreOfKinds-there (length s.world.objects) (map kind_of_arg op.args) xs (AreOfKinds-all_values set.table (length s.world.objects) s.boxes h.world.prebuilts h.boxes op.args xs law.names.0 e)))

  next_there : (x : RecordedNow) → NowHolds set x → AllIsThere set.table (world_of x) → AllIsThere set.table (world_of (next (recorded set cuts) x))
  next_there (In p [] s) h there = there
  next_there (In p (op ∷ rest) s) h there = op_there p op rest s (slice_get set.traces p) refl h there
  next_there (Over p l) h there = there

  run_there : (n : ℕ) (x : RecordedNow) → NowHolds set x → AllIsThere set.table (world_of x) → AllIsThere set.table (world_of (run (recorded set cuts) n x))
  run_there zero x h there = there
  run_there (suc n) x h there = run_there n (next (recorded set cuts) x) (next_holds decides set cuts range well x h) (next_there x h there)

-- Prebuilt objects

module _ (t : Table) (n : ℕ) (count : n ≡ length t.prebuilts) where
  initial_there : (p : Initial) → NamesInitial t p → IsThere n (initial_value p)
  initial_there (initial.Int z) h = tt
  initial_there initial.Null h = tt
  initial_there (initial.Ptr k) h = let less : k < length t.prebuilts = h in omega arith

  initials_there : (ps : List Initial) → All (NamesInitial t) ps → All (IsThere n) (map initial_value ps)
  initials_there [] h = All-nil (IsThere n)
  initials_there (p ∷ ps) h = All-cons (IsThere n) (initial_value p) (map initial_value ps) (initial_there p (All-head (NamesInitial t) p ps h)) (initials_there ps (All-tail (NamesInitial t) p ps h))

  sized : (ps : List Initial) (row : Option SizeRow) → IsSomeAnd row (λ (r : SizeRow). map kind_of_initial ps ≡ map (kind_of_field t) r.fields) → length ps ≡ length (listed row)
  sized ps None h = absurd h
  sized ps (Some r) h = sym (length-map ps kind_of_initial) ∙ ap length h ∙ length-map r.fields (kind_of_field t)

  row_whole : (of : ShapeOf) (ps : List Initial) → HasParts t of (map kind_of_initial ps) → HasRoomFor t of (length (map initial_value ps))
  row_whole (shape.Size s) ps h = length-map ps initial_value ∙ sized ps (slice_get t.sizes s) h
  row_whole (shape.Array a) ps h = tt

  rows_whole : (rows : List PrebuiltRow) → All (IsPrebuilt t) rows → All (HasItsParts t) (map prebuilt_object rows)
  rows_whole [] h = All-nil (HasItsParts t)
  rows_whole (r ∷ rs) h = All-cons (HasItsParts t) (prebuilt_object r) (map prebuilt_object rs) (row_whole r.of r.parts (All-head (IsPrebuilt t) r rs h).0) (rows_whole rs (All-tail (IsPrebuilt t) r rs h))

  abbrev PartsOf : Object → Type 0
  PartsOf o = All (IsThere n) o.parts

  rows_there : (rows : List PrebuiltRow) → All (IsPrebuilt t) rows → All PartsOf (map prebuilt_object rows)
  rows_there [] h = All-nil PartsOf
  rows_there (r ∷ rs) h = All-cons PartsOf (prebuilt_object r) (map prebuilt_object rs) (initials_there r.parts (All-head (IsPrebuilt t) r rs h).1) (rows_there rs (All-tail (IsPrebuilt t) r rs h))

pub first-there : (t : Table) (answers : List Answer) → IsTableInRange t → AllIsThere t (first_world t answers)
first-there t answers range =
    let count : length (map prebuilt_object t.prebuilts) ≡ length t.prebuilts = length-map t.prebuilts prebuilt_object in
    let n = length (map prebuilt_object t.prebuilts) in
    record { whole = rows_whole t n count t.prebuilts range.prebuilts_fit; parts = rows_there t n count t.prebuilts range.prebuilts_fit; calls = All-nil (λ (x : Logged). CallIsThere n x.event) }

pub runs-there : (decides : BoxesDecide) (set : TraceSet) (start : ℕ) (inputs : List Value) (answers : List Answer) (cuts : Cuts) (n : ℕ) → IsInRange set → IsWellFormed set → Starts set start inputs → AllIsThere set.table (world_of (recorded_run set start inputs answers cuts n))
runs-there decides set start inputs answers cuts n range well starts =
    run_there decides set cuts range well n (started set start inputs answers cuts) (NowHolds-recorded_run decides set cuts range well start inputs answers 0 starts) (first-there set.table answers range.table)
