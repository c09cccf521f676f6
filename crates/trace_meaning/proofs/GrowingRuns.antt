-- What a run leaves of a world.
use Rattle.std.proofs.Common.{◌≡◌, ℕ, ◌+◌, ◌≤◌, Bool, true, false, Option, Some, None, List, length, map, refl, ap, sym, ◌∙◌, arith}
use Rattle.std.proofs.lemmas.List.{length-append, length-map}
use Rattle.trace_ops.specs.declared.facts.Part.{Part}
use Rattle.trace_ops.specs.declared.facts.Part.TheVariants as part
use Rattle.trace_ops.specs.declared.trace.BoxId.{BoxId}
use Rattle.trace_ops.specs.declared.trace.Op.{Op}
use Rattle.trace_ops.specs.declared.trace.TraceSet.{TraceSet}
use Rattle.trace_ops.specs.declared.table.Table.{Table}
use Rattle.trace_ops.specs.Facts.{part_of}
use Rattle.trace_meaning.specs.declared.value.Value.{Value}
use Rattle.trace_meaning.specs.declared.call.Answer.{Answer}
use Rattle.trace_meaning.specs.World.{World}
use Rattle.trace_meaning.specs.Cuts.{Cuts}
use Rattle.trace_meaning.specs.Legs.{Fails, Jumps, Finishes, Waits, Misfits, Wrong, Turn, On, Off, In, Over, run}
use Rattle.trace_meaning.specs.Passing.{passes}
use Rattle.trace_meaning.specs.Performing.{Done, Gave, Bad, Waited, Misfitted, perform}
use Rattle.trace_meaning.specs.Recorded.{Rec, RecordedNow, recorded, recorded_result, recorded_plain, recorded_failure, recorded_guard, recorded_part, recorded_with, recorded_step, values_of, slots_of, ops_at, begin_at, recorded_run, first_world}
use Rattle.trace_meaning.specs.Observed.{world_of, world_left}
use Rattle.trace_meaning.specs.Growing.{IsLonger, extents, Grown, GrowsTo, GrowsIn, waiting_left, waiting, world_now, StepsGrow, OnlyAdds}
use Rattle.trace_meaning.specs.Laws.{calls_answered}
use Rattle.trace_meaning.proofs.GrowingPrograms.{all-grow}
use Rattle.trace_meaning.proofs.Growing.{grown-same, perform-grows}

abbrev TurnGrows : World → Turn Rec → Type 0
TurnGrows w (On s) = Grown w s.world 0
TurnGrows w (Off l) = Grown w (world_left l) (waiting_left l)

abbrev grown : (w : World) → Grown w w 0
grown w = grown-same w w refl refl refl

result_grows : (to : Option BoxId) (s : Rec) (x : Option Value) (w : World) → Grown s.world w 0 → TurnGrows s.world (recorded_result to s x w)
result_grows (Some b) s (Some x) w h = h
result_grows (Some b) s None w h = h
result_grows None s x w h = h

plain_grows : (to : Option BoxId) (s : Rec) (d : Done) → GrowsTo s.world d → TurnGrows s.world (recorded_plain to s d)
plain_grows to s (Gave x w) h = result_grows to s x w h
plain_grows to s Bad h = grown s.world
plain_grows to s (Waited w) h = h
plain_grows to s (Misfitted w) h = h

failure_grows : (s : Rec) (vs : Option (List Value)) → TurnGrows s.world (recorded_failure s vs)
failure_grows s None = grown s.world
failure_grows s (Some vs) = grown s.world

guard_grows : (op : Op) (s : Rec) (x : Option Bool) → TurnGrows s.world (recorded_guard op s x)
guard_grows op s None = grown s.world
guard_grows op s (Some true) = grown s.world
guard_grows op s (Some false) = failure_grows s (values_of s (slots_of op.snapshot))

part_grows : (p : Part) (t : Table) (op : Op) (s : Rec) (vs : List Value) → TurnGrows s.world (recorded_part p t op s vs)
part_grows part.Jump t op s vs = grown s.world
part_grows part.Finish t op s vs = grown s.world
part_grows part.Guard t op s vs = guard_grows op s (passes op.code op.args vs s.world)
part_grows part.OverflowGuard t op s vs = guard_grows op s (passes op.code op.args vs s.world)
part_grows part.Plain t op s vs = plain_grows op.result s (perform t op.code op.descr op.args vs s.world) (perform-grows t op.code op.descr op.args vs s.world)
part_grows part.Overflowing t op s vs = plain_grows op.result s (perform t op.code op.descr op.args vs s.world) (perform-grows t op.code op.descr op.args vs s.world)

with_grows : (t : Table) (op : Op) (s : Rec) (vs : Option (List Value)) → TurnGrows s.world (recorded_with t op s vs)
with_grows t op s None = grown s.world
with_grows t op s (Some vs) = part_grows (part_of op.code) t op s vs

module _ (set : TraceSet) (cuts : Cuts) where
  turned : (s : Rec) (turn : Turn Rec) → TurnGrows s.world turn → GrowsIn (recorded set cuts) s.world turn
  turned s (On u) h = h
  turned s (Off l) h = h

  pub recorded-steps_grow : StepsGrow (recorded set cuts)
  recorded-steps_grow = record { steps = λ op s. turned s (recorded_step set.table op s) (with_grows set.table op s (values_of s op.args)); begins = λ p vs w. refl }

  same_world : (x : RecordedNow) → world_now (recorded set cuts) x ≡ world_of x
  same_world (In p rest s) = refl
  same_world (Over p l) = refl

  adds : (x : RecordedNow) (n : ℕ) → OnlyAdds (world_of x) (world_of (run (recorded set cuts) n x))
  adds x n = rw (sym (same_world x), sym (same_world (run (recorded set cuts) n x))) ((all-grow (recorded set cuts) recorded-steps_grow).runs n x)

  pub calls-kept : (x : RecordedNow) (n : ℕ) → IsLonger (world_of x).log (world_of (run (recorded set cuts) n x)).log
  calls-kept x n = (adds x n).0

  pub objects-kept : (x : RecordedNow) (n : ℕ) → IsLonger (extents (world_of x)) (extents (world_of (run (recorded set cuts) n x)))
  objects-kept x n = (adds x n).1

-- where a list of what objects map to is longer, there are at least as many objects
pub no_fewer : {X Y : Type 0} (f : X → Y) (xs ys : List X) → IsLonger (map f xs) (map f ys) → length xs ≤ length ys
no_fewer f xs ys h =
    let whole : length (map f ys) ≡ length (map f xs) + length h.0 = ap length h.1 ∙ length-append (map f xs) h.0 in
    let before : length (map f xs) ≡ length xs = length-map xs f in
    let after : length (map f ys) ≡ length ys = length-map ys f in
    omega arith

-- all calls, but the one without an answer, took one
pub answered-count : (x : RecordedNow) (k : ℕ) → length (world_of x).log ≡ k + waiting x → k ≡ calls_answered x
answered-count (In p ops s) k h = omega arith
answered-count (Over p (Fails n vs w)) k h = omega arith
answered-count (Over p (Jumps vs w)) k h = omega arith
answered-count (Over p (Finishes vs w)) k h = omega arith
answered-count (Over p (Waits w)) k h = omega arith
answered-count (Over p (Misfits w)) k h = omega arith
answered-count (Over p (Wrong w)) k h = omega arith

-- what holds of a run from its start
pub start-grows : (set : TraceSet) (start : ℕ) (inputs : List Value) (answers : List Answer) (cuts : Cuts) (n : ℕ) → Grown (first_world set.table answers) (world_of (recorded_run set start inputs answers cuts n)) (waiting (recorded_run set start inputs answers cuts n))
start-grows set start inputs answers cuts n = (all-grow (recorded set cuts) (recorded-steps_grow set cuts)).inside n start (ops_at set start) (begin_at set start inputs (first_world set.table answers))
