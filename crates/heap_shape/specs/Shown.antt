-- What an end shows, up to addresses.
use Rattle.std.specs.Prelude.{◌≡◌, ℕ, List, [], length, map}
use Rattle.std.specs.Option.{option_to_list}
use Rattle.std.specs.List.{flat_map}
use Rattle.trace_ops.specs.declared.trace.TraceSet.{TraceSet}
use Rattle.trace_ops.specs.declared.table.Table.{Table}
use Rattle.trace_meaning.specs.declared.value.Value.{Value}
use Rattle.trace_meaning.specs.declared.value.Object.{Object}
use Rattle.trace_meaning.specs.declared.call.CallEvent.{CallEvent}
use Rattle.trace_meaning.specs.declared.state.RecFrame.{RecFrame}
use Rattle.trace_meaning.specs.declared.state.RecState.{RecState}
use Rattle.trace_meaning.specs.declared.state.RecState.TheVariants as state
use Rattle.trace_meaning.specs.Recorded.{RecordedNow}
use Rattle.trace_meaning.specs.Observed.{state_of, world_of, calls_of}
use Rattle.heap_shape.specs.declared.cell.Cell.{Cell}
use Rattle.heap_shape.specs.declared.cell.Ref.{Ref}
use Rattle.heap_shape.specs.Listing.{listing}
use Rattle.heap_shape.specs.Roots.{roots}

-- a call without its values: the function, how many arguments and seen values there are, and whether it gave one
abbrev pub CallShown : Type 0
CallShown = ℕ × ℕ × ℕ × ℕ

abbrev pub call_shown : CallEvent → CallShown
call_shown c = (c.function, length c.args, length c.seen, length (option_to_list c.gives))

abbrev pub FrameShown : Type 0
FrameShown = List ℕ × ℕ × ℕ

-- a frame without its values: its name, its place, and how many slots it has
abbrev pub frame_shown : RecFrame → FrameShown
frame_shown f = (f.name, f.pc, length f.slots)

-- the values of frames, outermost frame first
abbrev pub values_in : List RecFrame → List Value
values_in frames = flat_map (λ (f : RecFrame). f.slots) frames

-- what an end shows; the values are among the roots, each object by its number
pub data Shown : Type 0 where
  Going : Shown
  Finished : (calls : List CallShown) (cells : List Cell) (roots : List Ref) → Shown
  Exited : (trace guard : ℕ) (frames : List FrameShown) (calls : List CallShown) (cells : List Cell) (roots : List Ref) → Shown
  Waits : (calls : List CallShown) (roots : List Ref) → Shown
  Misfit : (call : ℕ) (calls : List CallShown) (roots : List Ref) → Shown
  Wrong : Shown

abbrev pub shown : Table → RecState → List Object → List CallEvent → Shown
shown t state.Going objects calls = Going
shown t (state.Finished x) objects calls = let l = listing objects (roots (length t.prebuilts) calls (option_to_list x)) in Finished (map call_shown calls) l.0 l.1
shown t (state.Exited trace guard frames) objects calls = let l = listing objects (roots (length t.prebuilts) calls (values_in frames)) in Exited trace guard (map frame_shown frames) (map call_shown calls) l.0 l.1
shown t state.Waits objects calls = Waits (map call_shown calls) (listing objects (roots (length t.prebuilts) calls [])).1
shown t (state.Misfit call) objects calls = Misfit call (map call_shown calls) (listing objects (roots (length t.prebuilts) calls [])).1
shown t state.Wrong objects calls = Wrong

abbrev pub recorded_shown : TraceSet → RecordedNow → Shown
recorded_shown set now = shown set.table (state_of set now) (world_of now).objects (calls_of now)

-- how a run has ended, its objects and its calls
pub record End : Type 0 where
  pub state : RecState
  pub objects : List Object
  pub calls : List CallEvent

-- two ends show the same
abbrev pub ShowTheSame : Table → End → End → Type 0
ShowTheSame t a b = shown t a.state a.objects a.calls ≡ shown t b.state b.objects b.calls
