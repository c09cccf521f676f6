-- What is seen of an activation: its state, its frames, its calls and its cells.
use Rattle.std.specs.Prelude.{ℕ, Bool, true, false, Option, Some, None, List, [], ◌∷◌, ◌++◌, codes, length, take, drop}
use Rattle.std.specs.Option.{option_to_list}
use Rattle.std.specs.List.{flat_map}
use Rattle.std.specs.Fmt.{decimal}
use Rattle.trace_ops.specs.declared.table.Table.{Table}
use Rattle.trace_ops.specs.declared.trace.TraceSet.{TraceSet}
use Rattle.trace_meaning.specs.declared.value.Value.{Value}
use Rattle.trace_meaning.specs.declared.value.Object.{Object}
use Rattle.trace_meaning.specs.declared.call.CallEvent.{CallEvent}
use Rattle.trace_meaning.specs.declared.state.RecFrame.{RecFrame}
use Rattle.heap_shape.specs.declared.cell.Ref.{Ref}
use Rattle.heap_shape.specs.declared.cell.Cell.{Cell}
use Rattle.heap_shape.specs.Roots.{roots}
use Rattle.heap_shape.specs.Listing.{listing}
use Rattle.trace_text.specs.PieceWriting.{trace_name}
use Rattle.seen_text.specs.declared.seen.Seen.{Seen}
use Rattle.seen_text.specs.declared.seen.Seen.TheVariants as seen
use Rattle.seen_text.specs.Values.{told_text, value_text, values_text, count_text}
use Rattle.seen_text.specs.Calls.{behind_calls, calls_text}
use Rattle.seen_text.specs.Cells.{cells_text}

-- ---- the state line and the frames; the last values are the finish value, or the slots of the frames, outermost first

abbrev pub last_text : List Ref → List ℕ
last_text [] = codes "none"
last_text (x ∷ xs) = value_text x

unfoldable pub finish_text : List Ref → List ℕ
finish_text last = (codes " finished " ++ last_text last) ++ 10 ∷ []

unfoldable pub guard_text : List ℕ → ℕ → List ℕ
guard_text name guard = (((codes " exited " ++ name) ++ 47 ∷ []) ++ decimal guard) ++ 10 ∷ []

-- frame NAME:PC [v, v]
unfoldable pub frame_line : RecFrame → List Ref → List ℕ
frame_line f values = (((((codes "frame " ++ f.name) ++ 58 ∷ []) ++ decimal f.pc) ++ codes " [") ++ values_text values) ++ codes "]\n"

-- outermost first
abbrev pub frame_lines : List RecFrame → List Ref → List ℕ
frame_lines [] last = []
frame_lines (f ∷ fs) last = frame_line f (take (length f.slots) last) ++ frame_lines fs (drop (length f.slots) last)

unfoldable pub exit_text : List ℕ → ℕ → List RecFrame → List Ref → List ℕ
exit_text name guard frames last = guard_text name guard ++ frame_lines frames last

unfoldable pub misfit_text : ℕ → List ℕ
misfit_text call = (codes " misfit " ++ decimal call) ++ 10 ∷ []

-- an allocation of so many bytes was asked for where fewer were left
unfoldable pub full_text : ℕ → ℕ → List ℕ
full_text asked left = (told_text (codes " full asked ") asked ++ told_text (codes " left ") left) ++ 10 ∷ []

-- at the instruction of this address, where one is told
unfoldable pub wrong_text : Option ℕ → List ℕ
wrong_text None = codes " wrong\n"
wrong_text (Some at) = (codes " wrong " ++ decimal at) ++ 10 ∷ []

unfoldable pub state_text : TraceSet → Seen → List RecFrame → List Ref → List ℕ
state_text set seen.Going frames last = codes " going\n"
state_text set (seen.Finished x) frames last = finish_text last
state_text set (seen.Exited p n) frames last = exit_text (trace_name set p) n frames last
state_text set seen.Waits frames last = codes " waits\n"
state_text set (seen.Misfit call) frames last = misfit_text call
state_text set (seen.Full asked left) frames last = full_text asked left
state_text set (seen.Wrong at) frames last = wrong_text at

-- ---- the blocks

unfoldable pub end_text : Table → List CallEvent → List Cell → List Ref → List ℕ
end_text t calls cells refs = calls_text t calls refs ++ cells_text t cells

-- The calls, and at a finish or an exit the cells. An activation that goes on shows how many calls there are, and one that is full or
-- went wrong shows nothing.
abbrev pub blocks_text : Table → Seen → List CallEvent → List Cell → List Ref → List ℕ
blocks_text t seen.Going calls cells refs = count_text (codes "calls ") (length calls)
blocks_text t (seen.Finished x) calls cells refs = end_text t calls cells refs
blocks_text t (seen.Exited p n) calls cells refs = end_text t calls cells refs
blocks_text t seen.Waits calls cells refs = calls_text t calls refs
blocks_text t (seen.Misfit call) calls cells refs = calls_text t calls refs
blocks_text t (seen.Full asked left) calls cells refs = []
blocks_text t (seen.Wrong at) calls cells refs = []

-- ---- the whole

-- what is seen, where the roots behind the prebuilt objects have these numbers
unfoldable pub listed_text : List ℕ → TraceSet → Seen → List RecFrame → List CallEvent → List Cell → List Ref → List ℕ
listed_text name set s frames calls cells refs = (name ++ state_text set s frames (behind_calls calls refs)) ++ blocks_text set.table s calls cells refs

-- whether values are shown
abbrev pub shows_values : Seen → Bool
shows_values seen.Going = false
shows_values (seen.Finished x) = true
shows_values (seen.Exited p n) = true
shows_values seen.Waits = true
shows_values (seen.Misfit call) = true
shows_values (seen.Full asked left) = false
shows_values (seen.Wrong at) = false

abbrev pub slots_in : List RecFrame → List Value
slots_in frames = flat_map (λ (f : RecFrame). f.slots) frames

-- the finish value, or the slots of the frames, outermost first
abbrev pub last_values : Seen → List RecFrame → List Value
last_values seen.Going frames = []
last_values (seen.Finished x) frames = option_to_list x
last_values (seen.Exited p n) frames = slots_in frames
last_values seen.Waits frames = []
last_values (seen.Misfit call) frames = []
last_values (seen.Full asked left) frames = []
last_values (seen.Wrong at) frames = []

-- what the roots of an activation reach, and the numbers of the roots
abbrev pub listed : TraceSet → Seen → List RecFrame → List CallEvent → List Object → List Cell × List Ref
listed set s frames calls objects = listing objects (roots (length set.table.prebuilts) calls (last_values s frames))

-- The state line behind the activation's name, the frames of an exit, the calls and the cells. Objects have the numbers of their
-- listing from the roots.
unfoldable pub seen_text : List ℕ → TraceSet → Seen → List RecFrame → List CallEvent → List Object → List ℕ
seen_text name set s frames calls objects =
    listed_text name set s frames calls (listed set s frames calls objects).0 (drop (length set.table.prebuilts) (listed set s frames calls objects).1)
