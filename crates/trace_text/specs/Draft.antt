-- Traces as far as they are read, and what a line makes of them.
use Rattle.std.specs.Prelude.{◌≡◌, ℕ, ◌+◌, ◌-◌, ◌^◌, min, Bool, true, false, ◌&&◌, not, Option, Some, None, Result, Ok, Err, List, [], ◌∷◌, ◌++◌, map, length, codes, slice_index, nat_lt, nat_le, ◌==◌, if◌then◌else◌}
use Rattle.std.specs.Str.{bytes_eq}
use Rattle.std.specs.List.{list_any}
use Rattle.text_lines.specs.Words.{words, is_plain}
use Rattle.text_lines.specs.Lines.{lines}
use Rattle.lists.specs.Refused.{read_lines}
use Rattle.text_lines.specs.Reading.{first_of, is_skipped}
use Rattle.text_lines.specs.declared.number.Letter.{Letter}
use Rattle.text_lines.specs.declared.number.Letter.TheVariants as letter
use Rattle.trace_ops.specs.declared.code.OpCode.{OpCode}
use Rattle.trace_ops.specs.declared.trace.Kind.{Kind}
use Rattle.trace_ops.specs.declared.trace.Kind.TheVariants as kind
use Rattle.trace_ops.specs.declared.trace.BoxId.{BoxId}
use Rattle.trace_ops.specs.declared.trace.Op.{Op}
use Rattle.trace_ops.specs.declared.trace.Origin.{Origin}
use Rattle.trace_ops.specs.declared.trace.Origin.TheVariants as origin
use Rattle.trace_ops.specs.declared.trace.Trace.{Trace}
use Rattle.trace_ops.specs.declared.table.What.TheVariants as what
use Rattle.trace_ops.specs.OpNames.{code_of}
use Rattle.trace_ops.specs.Classes.{is_guard}
use Rattle.trace_ops.specs.Parts.{with_boxes}
use Rattle.trace_ops.specs.InRange.{most_inputs}
use Rattle.trace_text.specs.declared.line.Line.{Line}
use Rattle.trace_text.specs.declared.line.Slots.{Slots}
use Rattle.trace_text.specs.declared.line.Place.{Place}
use Rattle.trace_text.specs.declared.line.Place.TheVariants as place
use Rattle.trace_text.specs.declared.value.Value.{Value}
use Rattle.trace_text.specs.declared.value.Value.TheVariants as value
use Rattle.trace_text.specs.declared.heading.Heading.{Heading}
use Rattle.trace_text.specs.declared.fault.Refusal.{Refusal}
use Rattle.trace_text.specs.declared.fault.Refusal.TheVariants.{Syntax, Float, Limit}
use Rattle.trace_text.specs.declared.fault.TextFault.{TextFault}
use Rattle.trace_text.specs.declared.fault.TextFault.TheVariants as fault
use Rattle.trace_text.specs.declared.draft.Draft.{Draft}
use Rattle.trace_text.specs.declared.draft.Phase.{Phase}
use Rattle.trace_text.specs.declared.draft.Phase.TheVariants as phase
use Rattle.trace_text.specs.Faults.{fault_at, Fails}
use Rattle.trace_text.specs.Names.{Names}
use Rattle.trace_text.specs.Boxes.{noted}
use Rattle.trace_text.specs.Line.{op_at, inputs_at}
use Rattle.trace_text.specs.Heading.{heading_at, is_merge}
use Rattle.trace_text.specs.Meaning.{refusal, op_of, box_id, is_float}

-- no trace, and no heading
abbrev pub nothing : Draft
nothing = record { phase = phase.Before; name = []; origin = origin.Loop; label = false; inputs = []; ops = []; seen = []; guards = 0; done = [] }

-- a draft that is refused stays out
abbrev pub unless : ℕ → Draft → Option Refusal → Result Draft TextFault
unless n d None = Ok d
unless n d (Some why) = Err (fault_at n why)

-- ---- an operation

abbrev pub counted : ℕ → OpCode → ℕ
counted n c = if is_guard c then min (n + 1) (2 ^ 32 - 1) else n

abbrev pub with_op : OpCode → Op → Draft → Draft
with_op c o d = record d { phase = phase.Ops; ops = d.ops ++ o ∷ []; seen = noted d.seen o.result; guards = counted d.guards c }

abbrev pub put_code : Names → Line → Draft → Option OpCode → Draft
put_code names l d None = d
put_code names l d (Some c) = with_op c (op_of names d.name d.guards c l) d

abbrev pub put_line : Names → Line → Draft → Draft
put_line names l d = put_code names l d (code_of l.name)

-- ---- a label

abbrev pub is_kind : Letter → Kind → Bool
is_kind letter.Int kind.Int = true
is_kind letter.Int kind.Ref = false
is_kind letter.Ref kind.Int = false
is_kind letter.Ref kind.Ref = true
is_kind letter.Float k = false

abbrev pub is_input : Value → BoxId → Bool
is_input (value.Of b n) input = is_kind b input.kind && n == input.number
is_input (value.Const z) input = false
is_input value.Null input = false
is_input (value.Named a) input = false
is_input value.Unknown input = false

-- the same boxes in the same order
unfoldable pub repeats : List Value → List BoxId → Bool
repeats [] [] = true
repeats [] (b ∷ bs) = false
repeats (v ∷ vs) [] = false
repeats (v ∷ vs) (b ∷ bs) = is_input v b && repeats vs bs

abbrev pub is_behind_inputs : Phase → Bool
is_behind_inputs phase.Label = true
is_behind_inputs phase.Before = false
is_behind_inputs phase.Inputs = false
is_behind_inputs phase.Ops = false

abbrev pub makes_none : Option (Letter × ℕ) → Bool
makes_none None = true
makes_none (Some b) = false

-- it stands directly behind the inputs, repeats them, and has no result and no fail arguments
abbrev pub is_label : Draft → Line → Bool
is_label d l = (is_behind_inputs d.phase && makes_none l.made) && (length l.frames == 0 && repeats l.args d.inputs)

abbrev pub labelled : Draft → Draft
labelled d = record d { phase = phase.Ops; label = true }

abbrev pub read_label : ℕ → Draft → Line → Result Draft TextFault
read_label n d l = if is_label d l then Ok (labelled d) else Err (fault.Syntax n)

abbrev pub read_op : Names → ℕ → Draft → Option Line → Result Draft TextFault
read_op names n d None = Err (fault.Syntax n)
read_op names n d (Some l) = if bytes_eq l.name (codes "label") then read_label n d l else unless n (put_line names l d) (refusal names d.seen (length d.ops) l)

-- ---- headings

abbrev pub is_open : Phase → Bool
is_open phase.Before = false
is_open phase.Inputs = false
is_open phase.Label = true
is_open phase.Ops = true

abbrev pub lacks_inputs : Phase → Bool
lacks_inputs phase.Inputs = true
lacks_inputs phase.Before = false
lacks_inputs phase.Label = false
lacks_inputs phase.Ops = false

-- the open trace is done
abbrev pub closed : Draft → Draft
closed d = record d { done = d.done ++ record { name = d.name; origin = d.origin; label = d.label; inputs = d.inputs; ops = d.ops } ∷ [] }

abbrev pub closed_if : Draft → Draft
closed_if d = if is_open d.phase then closed d else d

abbrev pub trace_count : Draft → ℕ
trace_count d = if is_open d.phase then length d.done + 1 else length d.done

abbrev pub begun : Heading → Draft → Draft
begun h d = record d { phase = phase.Inputs; name = h.name; origin = h.origin; label = false; inputs = []; ops = []; seen = []; guards = 0 }

-- the trace before it has its inputs, and there are few enough traces
abbrev pub heading_refusal : Draft → Option Refusal
heading_refusal d = first_of ((lacks_inputs d.phase, Syntax) ∷ (not (nat_lt (trace_count d) 256), Limit what.Traces 257) ∷ [])

abbrev pub read_heading : ℕ → Draft → Option Heading → Result Draft TextFault
read_heading n d None = Err (fault.Syntax n)
read_heading n d (Some h) = unless n (begun h (closed_if d)) (heading_refusal d)

-- ---- inputs

abbrev pub is_box : Value → Bool
is_box (value.Of b n) = true
is_box (value.Const z) = false
is_box value.Null = false
is_box (value.Named a) = false
is_box value.Unknown = false

abbrev pub input_of : Value → BoxId
input_of (value.Of b n) = box_id b n
input_of (value.Const z) = box_id letter.Int 0
input_of value.Null = box_id letter.Int 0
input_of (value.Named a) = box_id letter.Int 0
input_of value.Unknown = box_id letter.Int 0

abbrev pub slots_of : List Slots → List Value
slots_of [] = []
slots_of (f ∷ fs) = f.slots

abbrev pub put_inputs : List BoxId → Draft → Draft
put_inputs bs d = record d { phase = phase.Label; inputs = bs; seen = with_boxes d.seen bs }

abbrev pub inputs_refusal : Origin → List Value → Option Refusal
inputs_refusal o vs = first_of (
    (list_any (λ v. not (is_box v)) vs, Syntax)
    ∷ (list_any is_float vs, Float)
    ∷ (not (nat_le (length vs) (most_inputs o)), Limit what.Inputs (most_inputs o + 1))
    ∷ [])

abbrev pub read_values : ℕ → Draft → List Value → Result Draft TextFault
read_values n d vs = unless n (put_inputs (map input_of vs) d) (inputs_refusal d.origin vs)

-- brackets alone, with no head of a frame
abbrev pub is_ended : Place → Bool
is_ended place.Ended = true
is_ended p = false

abbrev pub read_inputs : ℕ → Draft → Option Line → Result Draft TextFault
read_inputs n d None = Err (fault.Syntax n)
read_inputs n d (Some l) = if is_ended l.place then read_values n d (slots_of l.frames) else Err (fault.Syntax n)

-- ---- a line

abbrev pub has_key : List ℕ → List (List ℕ) → Bool
has_key key [] = false
has_key key (w ∷ ws) = bytes_eq w key

-- it begins with %
abbrev pub is_section : List (List ℕ) → Bool
is_section [] = false
is_section (w ∷ ws) = slice_index w 0 == 37

abbrev pub read_body : Names → ℕ → Draft → List (List ℕ) → Result Draft TextFault
read_body names n d ws = if has_key (codes "debug_merge_point") ws then (if is_merge ws then Ok d else Err (fault.Syntax n)) else read_op names n d (op_at names ws)

abbrev pub read_in : Names → ℕ → Phase → Draft → List (List ℕ) → Result Draft TextFault
read_in names n phase.Before d ws = Err (fault.Syntax n)
read_in names n phase.Inputs d ws = read_inputs n d (inputs_at names ws)
read_in names n phase.Label d ws = read_body names n d ws
read_in names n phase.Ops d ws = read_body names n d ws

unfoldable pub read_line : Names → ℕ → List ℕ → Draft → Result Draft TextFault
read_line names n line d =
    if is_plain line then (if is_skipped (words line) then Ok d else if is_section (words line) then read_heading n d (heading_at (words line)) else read_in names n d.phase d (words line)) else Err (fault.Syntax n)

-- the lines in their order, behind no line
unfoldable pub lines_at : Names → ℕ → List ℕ → Result Draft TextFault
lines_at names first text = read_lines (read_line names) first (lines text) nothing

-- the traces behind the last line, before the line of number `end`
abbrev pub finished : ℕ → Draft → Result (List Trace) TextFault
finished end d = if lacks_inputs d.phase then Err (fault.Syntax end) else Ok (closed_if d).done

-- what was answered and left is what reading gives, unless memory ran out
abbrev pub Leaves : {X : Type 0} → Result X TextFault → Draft → Result Draft TextFault → Type 0
Leaves (Ok x) d read = read ≡ Ok d
Leaves (Err e) d read = Fails e read
