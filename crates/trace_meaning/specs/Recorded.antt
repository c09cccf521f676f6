-- What recorded traces do: one operation, and the run after at most n operations.
use Rattle.std.specs.Prelude.{ℕ, ◌+◌, ◌-◌, Bool, true, false, List, [], Option, Some, None, length, slice_get, option_and_then, map}
use Rattle.std.specs.Option.{unwrap_or}
use Rattle.std.specs.List.{flat_map}
use Rattle.trace_ops.specs.declared.facts.Part.{Part}
use Rattle.trace_ops.specs.declared.facts.Part.TheVariants as part
use Rattle.trace_ops.specs.declared.trace.BoxId.{BoxId}
use Rattle.trace_ops.specs.declared.trace.Arg.{Arg}
use Rattle.trace_ops.specs.declared.trace.Frame.{Frame}
use Rattle.trace_ops.specs.declared.trace.Op.{Op}
use Rattle.trace_ops.specs.declared.trace.Trace.{Trace}
use Rattle.trace_ops.specs.declared.trace.TraceSet.{TraceSet}
use Rattle.trace_ops.specs.declared.table.Table.{Table}
use Rattle.trace_ops.specs.declared.table.Initial.{Initial}
use Rattle.trace_ops.specs.declared.table.Initial.TheVariants as initial
use Rattle.trace_ops.specs.declared.table.PrebuiltRow.{PrebuiltRow}
use Rattle.trace_ops.specs.Facts.{part_of}
use Rattle.trace_ops.specs.Rules.{target_of}
use Rattle.trace_meaning.specs.declared.value.Value.{Value}
use Rattle.trace_meaning.specs.declared.value.Value.TheVariants as v
use Rattle.trace_meaning.specs.declared.value.Object.{Object}
use Rattle.trace_meaning.specs.declared.call.Answer.{Answer}
use Rattle.trace_meaning.specs.World.{World}
use Rattle.trace_meaning.specs.Boxes.{Boxes, value_in, bind, bound_to, arg_value, all_values}
use Rattle.trace_meaning.specs.Performing.{Done, Gave, Bad, Waited, Misfitted, perform}
use Rattle.trace_meaning.specs.Passing.{passes}
use Rattle.trace_meaning.specs.Legs.{Fails, Jumps, Finishes, Waits, Misfits, Wrong, Turn, On, Off, Program, Now, begins, run}
use Rattle.trace_meaning.specs.Cuts.{Cuts, seen_bridge}

-- inside a trace: the boxes that have values, the guards so far, passed ones too, and all that operations share
pub record Rec : Type 0 where
  pub boxes : Boxes
  pub guards : ℕ
  pub world : World

-- One operation

-- the slots of a guard, outermost frame first
abbrev pub slots_of : List Frame → List Arg
slots_of frames = flat_map (λ (f : Frame). f.slots) frames

abbrev pub values_of : Rec → List Arg → Option (List Value)
values_of s args = all_values (arg_value (value_in s.boxes)) args

-- the result gets the value
abbrev pub recorded_result : Option BoxId → Rec → Option Value → World → Turn Rec
recorded_result (Some b) s (Some x) w = On (record s { boxes = bind b x s.boxes; world = w })
recorded_result (Some b) s None w = Off (Wrong w)
recorded_result None s x w = On (record s { world = w })

abbrev pub recorded_plain : Option BoxId → Rec → Done → Turn Rec
recorded_plain result s (Gave x w) = recorded_result result s x w
recorded_plain result s Bad = Off (Wrong s.world)
recorded_plain result s (Waited w) = Off (Waits w)
recorded_plain result s (Misfitted w) = Off (Misfits w)

-- a guard fails with the values of its slots, flattened
abbrev pub recorded_failure : Rec → Option (List Value) → Turn Rec
recorded_failure s None = Off (Wrong s.world)
recorded_failure s (Some vs) = Off (Fails s.guards vs s.world)

abbrev pub recorded_guard : Op → Rec → Option Bool → Turn Rec
recorded_guard op s None = Off (Wrong s.world)
recorded_guard op s (Some true) = On (record s { guards = s.guards + 1 })
recorded_guard op s (Some false) = recorded_failure s (values_of s (slots_of op.snapshot))

abbrev pub recorded_part : Part → Table → Op → Rec → List Value → Turn Rec
recorded_part part.Jump t op s vs = Off (Jumps vs s.world)
recorded_part part.Finish t op s vs = Off (Finishes vs s.world)
recorded_part part.Guard t op s vs = recorded_guard op s (passes op.code op.args vs s.world)
recorded_part part.OverflowGuard t op s vs = recorded_guard op s (passes op.code op.args vs s.world)
recorded_part part.Plain t op s vs = recorded_plain op.result s (perform t op.code op.descr op.args vs s.world)
recorded_part part.Overflowing t op s vs = recorded_plain op.result s (perform t op.code op.descr op.args vs s.world)

abbrev pub recorded_with : Table → Op → Rec → Option (List Value) → Turn Rec
recorded_with t op s None = Off (Wrong s.world)
recorded_with t op s (Some vs) = recorded_part (part_of op.code) t op s vs

-- one recorded operation
abbrev pub recorded_step : Table → Op → Rec → Turn Rec
recorded_step t op s = recorded_with t op s (values_of s op.args)

-- Traces that lead on

abbrev pub ops_of : Option Trace → List Op
ops_of None = []
ops_of (Some t) = t.ops

abbrev pub inputs_of : Option Trace → List BoxId
inputs_of None = []
inputs_of (Some t) = t.inputs

abbrev pub ops_at : TraceSet → ℕ → List Op
ops_at set p = ops_of (slice_get set.traces p)

abbrev pub begin_at : TraceSet → ℕ → List Value → World → Rec
begin_at set p vs w = record { boxes = bound_to (inputs_of (slice_get set.traces p)) vs; guards = 0; world = w }

abbrev pub last_of : List Op → Option Op
last_of ops = slice_get ops (length ops - 1)

-- where a trace jumps to at its end; a trace that doesn't jump to a trace is its own target
abbrev pub jump_target : TraceSet → ℕ → ℕ
jump_target set p = unwrap_or (option_and_then (λ (op : Op). target_of set p op.descr) (last_of (ops_at set p))) p

-- the recorded traces of a set under these cuts
abbrev pub recorded : TraceSet → Cuts → Program ℕ Op Rec
recorded set cuts = record {
  ops = ops_at set;
  begin = begin_at set;
  step = recorded_step set.table;
  world = λ s. s.world;
  target = jump_target set;
  sees = seen_bridge set.traces cuts;
}

abbrev pub RecordedNow : Type 0
RecordedNow = Now ℕ Op Rec

-- The start

abbrev pub initial_value : Initial → Value
initial_value (initial.Int z) = v.Int z
initial_value initial.Null = v.Null
initial_value (initial.Ptr k) = v.Obj k

abbrev pub prebuilt_object : PrebuiltRow → Object
prebuilt_object row = record { of = row.of; parts = map initial_value row.parts }

-- the prebuilt objects, in the order of the table, and nothing done
abbrev pub first_world : Table → List Answer → World
first_world t answers = record { objects = map prebuilt_object t.prebuilts; answers = answers; log = []; failures = 0; overflow = false }

-- a loop begins with these inputs
abbrev pub started : TraceSet → ℕ → List Value → List Answer → Cuts → RecordedNow
started set start inputs answers cuts = begins (recorded set cuts) start inputs (first_world set.table answers)

-- the run after at most n operations from its start
abbrev pub recorded_run : TraceSet → ℕ → List Value → List Answer → Cuts → ℕ → RecordedNow
recorded_run set start inputs answers cuts n = run (recorded set cuts) n (started set start inputs answers cuts)
