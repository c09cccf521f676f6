-- Calls whose values are written with their own numbers, and objects that are not shown.
use Rattle.std.specs.Prelude.{◌≡◌, ℕ, false, List, [], ◌∷◌, ◌++◌, codes, map}
use Rattle.trace_ops.specs.declared.table.Table.{Table}
use Rattle.trace_ops.specs.declared.trace.TraceSet.{TraceSet}
use Rattle.trace_meaning.specs.declared.value.Value.{Value}
use Rattle.trace_meaning.specs.declared.call.CallEvent.{CallEvent}
use Rattle.trace_meaning.specs.declared.value.Object.{Object}
use Rattle.trace_meaning.specs.declared.state.RecFrame.{RecFrame}
use Rattle.heap_shape.specs.declared.cell.Ref.{Ref}
use Rattle.heap_shape.specs.Roots.{roots_of_calls}
use Rattle.descr_table.specs.Names.{function_name}
use Rattle.seen_text.specs.Values.{values_text}
use Rattle.seen_text.specs.Calls.{behind_calls, call_lines}
use Rattle.seen_text.specs.declared.seen.Seen.{Seen}
use Rattle.seen_text.specs.States.{shows_values, seen_text}

-- a call by a numbering of values
abbrev pub shown_call : Table → (Value → Ref) → CallEvent → List ℕ
shown_call t f c = ((((function_name t c.function ++ 40 ∷ []) ++ values_text (map f c.args)) ++ codes ") sees [") ++ values_text (map f c.seen)) ++ codes "]\n"

abbrev pub shown_calls : Table → (Value → Ref) → List CallEvent → List ℕ
shown_calls t f [] = []
shown_calls t f (c ∷ cs) = shown_call t f c ++ shown_calls t f cs

-- where the numbers of the roots of calls stand in front, each value is written with its own, and those behind are left
abbrev pub CallsShowTheirValues : Type 0
CallsShowTheirValues =
    (t : Table) (f : Value → Ref) (calls : List CallEvent) (more : List Ref)
    → (call_lines t calls (map f (roots_of_calls calls) ++ more) ≡ shown_calls t f calls) × (behind_calls calls (map f (roots_of_calls calls) ++ more) ≡ more)

-- where no values are shown, the objects don't count
abbrev pub HiddenObjectsAreFree : Type 0
HiddenObjectsAreFree =
    (name : List ℕ) (set : TraceSet) (s : Seen) (frames : List RecFrame) (calls : List CallEvent) (objects others : List Object)
    → shows_values s ≡ false → seen_text name set s frames calls objects ≡ seen_text name set s frames calls others
