-- Runs whose integers are words.
use Rattle.std.specs.Prelude.{◌≡◌, ℕ, ◌<◌, ◌^◌, List, [], Option, Some, None, length}
use Rattle.std.specs.List.{All}
use Rattle.trace_ops.specs.declared.code.OpCode.{OpCode}
use Rattle.trace_ops.specs.declared.trace.BoxId.{BoxId}
use Rattle.trace_ops.specs.declared.trace.Arg.{Arg}
use Rattle.trace_ops.specs.declared.trace.Descr.{Descr}
use Rattle.trace_ops.specs.declared.trace.TraceSet.{TraceSet}
use Rattle.trace_ops.specs.declared.table.Table.{Table}
use Rattle.trace_ops.specs.Constants.{ArgHasWord, HasWords}
use Rattle.trace_ops.specs.InRange.{IsInRange}
use Rattle.trace_meaning.specs.declared.value.Value.{Value}
use Rattle.trace_meaning.specs.declared.call.Answer.{Answer}
use Rattle.trace_meaning.specs.World.{World}
use Rattle.trace_meaning.specs.Boxes.{Boxes, value_in, bind, bind_all, arg_value, all_values}
use Rattle.trace_meaning.specs.Objects.{fields_of}
use Rattle.trace_meaning.specs.Performing.{Done, Gave, Bad, Waited, Misfitted, perform}
use Rattle.trace_meaning.specs.Cuts.{Cuts}
use Rattle.trace_meaning.specs.Legs.{Leave, Fails, Jumps, Finishes, Waits, Misfits, Wrong, In, Over}
use Rattle.trace_meaning.specs.Recorded.{RecordedNow, recorded_run}
use Rattle.trace_meaning.specs.Observed.{world_left}
use Rattle.trace_meaning.specs.Sound.{HasWord, MayHaveWord, AnswersWords, HoldsWords}

-- lengths of structures are words
abbrev pub FieldsAreFew : Table → Type 0
FieldsAreFew t = (size : ℕ) → length (fields_of t size) < 2 ^ 63

abbrev pub BoxesHaveWords : Boxes → Type 0
BoxesHaveWords boxes = (b : BoxId) (x : Value) → value_in boxes b ≡ Some x → HasWord x

-- the values with which code is left
abbrev pub values_left : Leave → List Value
values_left (Fails n vs w) = vs
values_left (Jumps vs w) = vs
values_left (Finishes vs w) = vs
values_left (Waits w) = []
values_left (Misfits w) = []
values_left (Wrong w) = []

abbrev pub LeaveHasWords : Leave → Type 0
LeaveHasWords l = All HasWord (values_left l) × HoldsWords (world_left l)

-- in boxes, in objects, in answers to come and in calls
abbrev pub RunHasWords : RecordedNow → Type 0
RunHasWords (In p rest s) = BoxesHaveWords s.boxes × HoldsWords s.world
RunHasWords (Over p l) = LeaveHasWords l

-- from words in a set, in inputs and in answers there come words alone
abbrev pub RunsKeepWords : Type 0
RunsKeepWords =
    (set : TraceSet) (start : ℕ) (inputs : List Value) (answers : List Answer) (cuts : Cuts) (n : ℕ)
    → IsInRange set → HasWords set → All HasWord inputs → All AnswersWords answers → RunHasWords (recorded_run set start inputs answers cuts n)

-- Of single operations

abbrev pub AllMayHaveWords : Option (List Value) → Type 0
AllMayHaveWords None = Unit {0}
AllMayHaveWords (Some vs) = All HasWord vs

abbrev pub DoneHasWords : Done → Type 0
DoneHasWords (Gave x u) = MayHaveWord x × HoldsWords u
DoneHasWords Bad = Unit {0}
DoneHasWords (Waited u) = HoldsWords u
DoneHasWords (Misfitted u) = HoldsWords u

-- what gives, takes and binds words
pub record WordLaws : Type 0 where
  pub operations : (t : Table) (operation : OpCode) (d : Descr) (args : List Arg) (vs : List Value) (w : World) → FieldsAreFew t → HoldsWords w → All HasWord vs → DoneHasWords (perform t operation d args vs w)
  pub values : (boxes : Boxes) (args : List Arg) → BoxesHaveWords boxes → All ArgHasWord args → AllMayHaveWords (all_values (arg_value (value_in boxes)) args)
  pub binds : (b : BoxId) (x : Value) (boxes : Boxes) → HasWord x → BoxesHaveWords boxes → BoxesHaveWords (bind b x boxes)
  pub binds_all : (boxes : Boxes) (bs : List BoxId) (vs : List Value) → BoxesHaveWords boxes → All HasWord vs → BoxesHaveWords (bind_all boxes bs vs)
