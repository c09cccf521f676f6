-- The session that lines stand for.
use Rattle.std.specs.Prelude.{◌≡◌, ℕ, Bool, true, false, ◌&&◌, ◌+◌, Option, Some, None, Result, Ok, Err, List, [], ◌∷◌, ◌++◌, length, nat_lt, nat_le, slice_get, if◌then◌else◌}
use Rattle.text_lines.specs.Lines.{lines}
use Rattle.text_lines.specs.Names.{number_of, has_name}
use Rattle.lists.specs.Refused.{read_lines}
use Rattle.text_lines.specs.Reading.{said}
use Rattle.trace_ops.specs.declared.trace.BoxId.{BoxId}
use Rattle.trace_ops.specs.declared.trace.Kind.{Kind}
use Rattle.trace_ops.specs.declared.trace.Kind.TheVariants as kind
use Rattle.trace_ops.specs.declared.trace.Trace.{Trace}
use Rattle.trace_ops.specs.declared.trace.TraceSet.{TraceSet}
use Rattle.trace_ops.specs.declared.table.What.{What}
use Rattle.trace_ops.specs.declared.table.What.TheVariants as what
use Rattle.trace_meaning.specs.declared.value.Value.{Value}
use Rattle.trace_meaning.specs.declared.value.Value.TheVariants as value
use Rattle.session_text.specs.declared.fault.Reason.TheVariants.{Shape, Twice, Name, Inputs}
use Rattle.session_text.specs.declared.fault.SessionFault.{SessionFault}
use Rattle.session_text.specs.declared.fault.SessionFault.TheVariants as fault
use Rattle.session_text.specs.declared.form.Activation.{Activation}
use Rattle.session_text.specs.declared.form.Form.{Form}
use Rattle.session_text.specs.declared.form.Form.TheVariants as form
use Rattle.session_text.specs.declared.session.Line.{Line}
use Rattle.session_text.specs.declared.session.Line.TheVariants as line
use Rattle.session_text.specs.declared.session.SessionText.{SessionText}
use Rattle.session_text.specs.Faults.{Fails, bad}
use Rattle.session_text.specs.Form.{form_at}
use Rattle.session_text.specs.Names.{Names, look, names_of}

-- ---- inputs

-- an integer for an integer; NULL or a prebuilt object for a reference
abbrev pub is_of : Value → Kind → Bool
is_of (value.Int z) kind.Int = true
is_of (value.Int z) kind.Ref = false
is_of value.Null kind.Int = false
is_of value.Null kind.Ref = true
is_of (value.Obj k) kind.Int = false
is_of (value.Obj k) kind.Ref = true

-- as many values as boxes, each of its kind
unfoldable pub fits_inputs : List Value → List BoxId → Bool
fits_inputs [] [] = true
fits_inputs [] (b ∷ bs) = false
fits_inputs (v ∷ vs) [] = false
fits_inputs (v ∷ vs) (b ∷ bs) = is_of v b.kind && fits_inputs vs bs

abbrev pub boxes_of : Option Trace → List BoxId
boxes_of None = []
boxes_of (Some t) = t.inputs

abbrev pub inputs_of : TraceSet → ℕ → List BoxId
inputs_of set k = boxes_of (slice_get set.traces k)

-- ---- a line that is read, over those before it

abbrev pub over : What → ℕ → SessionFault
over w limit = fault.Limit w (limit + 1)

abbrev pub with_line : SessionText → Line → SessionText
with_line s l = record s { lines = s.lines ++ l ∷ [] }

abbrev pub with_start : SessionText → ℕ → Activation → SessionText
with_start s k a = record { lines = s.lines ++ line.Start (length s.names) k a.inputs a.answers ∷ []; names = s.names ++ a.name ∷ [] }

-- at most 4,096 lines
abbrev pub add_line : SessionText → Line → Result SessionText SessionFault
add_line s l = if nat_lt (length s.lines) 4096 then Ok (with_line s l) else Err (over what.Session 4096)

-- at most 16 activations, and 4,096 answers of each
abbrev pub add_start : SessionText → ℕ → Activation → Result SessionText SessionFault
add_start s k a = if nat_lt (length s.lines) 4096 then (if nat_lt (length s.names) 16 then (if nat_le (length a.answers) 4096 then Ok (with_start s k a) else Err (over what.Answers 4096)) else Err (over what.Activations 16)) else Err (over what.Session 4096)

abbrev pub start_in : TraceSet → ℕ → SessionText → Activation → Option ℕ → Result SessionText SessionFault
start_in set n s a None = Err (bad n Name)
start_in set n s a (Some k) = if fits_inputs a.inputs (inputs_of set k) then add_start s k a else Err (bad n Inputs)

abbrev pub read_start : Names → TraceSet → ℕ → SessionText → Activation → Result SessionText SessionFault
read_start names set n s a = if has_name a.name s.names then Err (bad n Twice) else if a.lacks then Err (bad n Name) else start_in set n s a (look a.of names.loops)

abbrev pub step_in : ℕ → SessionText → ℕ → Option ℕ → Result SessionText SessionFault
step_in n s count None = Err (bad n Name)
step_in n s count (Some a) = add_line s (line.Step a count)

abbrev pub run_in : ℕ → SessionText → ℕ → Option ℕ → Result SessionText SessionFault
run_in n s m None = Err (bad n Name)
run_in n s m (Some a) = add_line s (line.Run a m)

abbrev pub attach_in : ℕ → SessionText → Option ℕ → Result SessionText SessionFault
attach_in n s None = Err (bad n Name)
attach_in n s (Some b) = add_line s (line.Attach b)

-- a form at its line
abbrev pub read_form : Names → TraceSet → ℕ → SessionText → Form → Result SessionText SessionFault
read_form names set n s (form.Start a) = read_start names set n s a
read_form names set n s (form.Step name count) = step_in n s count (number_of name s.names)
read_form names set n s (form.Run name m) = run_in n s m (number_of name s.names)
read_form names set n s (form.Attach name) = attach_in n s (look name names.bridges)

abbrev pub read_said : Names → TraceSet → ℕ → SessionText → Option (Option Form) → Result SessionText SessionFault
read_said names set n s None = Err (bad n Shape)
read_said names set n s (Some None) = Ok s
read_said names set n s (Some (Some f)) = read_form names set n s f

unfoldable pub read_line : Names → TraceSet → ℕ → List ℕ → SessionText → Result SessionText SessionFault
read_line names set n line s = read_said names set n s (said (form_at names) line)

-- ---- all lines

abbrev pub nothing : SessionText
nothing = record { lines = []; names = [] }

unfoldable pub lines_at : Names → TraceSet → ℕ → List ℕ → Result SessionText SessionFault
lines_at names set first text = read_lines (read_line names set) first (lines text) nothing

-- the session that the lines stand for, or the first refusal
abbrev pub session_at : TraceSet → ℕ → List ℕ → Result SessionText SessionFault
session_at set first text = lines_at (names_of set) set first text

abbrev pub only_lines : Result SessionText SessionFault → Result (List Line) SessionFault
only_lines (Ok s) = Ok s.lines
only_lines (Err e) = Err e

-- what a step answered and left is what reading gives, unless memory ran out
abbrev pub Leaves : {X : Type 0} → Result X SessionFault → SessionText → Result SessionText SessionFault → Type 0
Leaves (Ok x) s read = read ≡ Ok s
Leaves (Err e) s read = Fails e read
