-- What the line of an operation means, and what refuses it.
use Rattle.std.specs.Prelude.{ℕ, Bool, true, false, ◌||◌, not, Option, Some, None, List, [], ◌∷◌, map, codes, is_some, unwrap_or, length, nat_lt, nat_le, nat_eq}
use Rattle.std.specs.List.{list_any, starts_with, ends_with}
use Rattle.std.specs.Str.{bytes_eq}
use Rattle.text_lines.specs.Reading.{first_of}
use Rattle.text_lines.specs.declared.number.Letter.{Letter}
use Rattle.text_lines.specs.declared.number.Letter.TheVariants as letter
use Rattle.trace_ops.specs.declared.code.OpCode.{OpCode}
use Rattle.trace_ops.specs.declared.trace.Kind.TheVariants as kind
use Rattle.trace_ops.specs.declared.trace.BoxId.{BoxId}
use Rattle.trace_ops.specs.declared.trace.Arg.{Arg}
use Rattle.trace_ops.specs.declared.trace.Arg.TheVariants as arg
use Rattle.trace_ops.specs.declared.trace.Descr.{Descr}
use Rattle.trace_ops.specs.declared.trace.Descr.TheVariants as descr
use Rattle.trace_ops.specs.declared.trace.Frame.{Frame}
use Rattle.trace_ops.specs.declared.trace.Op.{Op}
use Rattle.trace_ops.specs.declared.facts.Part.{Part}
use Rattle.trace_ops.specs.declared.facts.Part.TheVariants as part
use Rattle.trace_ops.specs.declared.table.What.TheVariants as what
use Rattle.trace_ops.specs.Facts.{part_of}
use Rattle.trace_ops.specs.OpNames.{code_of}
use Rattle.trace_ops.specs.Classes.{is_guard}
use Rattle.trace_text.specs.declared.value.Value.{Value}
use Rattle.trace_text.specs.declared.value.Value.TheVariants as value
use Rattle.trace_text.specs.declared.value.Head.{Head}
use Rattle.trace_text.specs.declared.value.Head.TheVariants as head
use Rattle.trace_text.specs.declared.line.Line.{Line}
use Rattle.trace_text.specs.declared.line.Slots.{Slots}
use Rattle.trace_text.specs.declared.fault.Refusal.{Refusal}
use Rattle.trace_text.specs.declared.fault.Refusal.TheVariants.{Syntax, Float, UnknownOp, UnknownDescr, UnknownBox, Limit}
use Rattle.trace_text.specs.Names.{Names, look}
use Rattle.trace_text.specs.Boxes.{knows}

-- ---- floats

abbrev pub is_float_letter : Letter → Bool
is_float_letter letter.Float = true
is_float_letter letter.Int = false
is_float_letter letter.Ref = false

abbrev pub is_float : Value → Bool
is_float (value.Of b n) = is_float_letter b
is_float (value.Const z) = false
is_float value.Null = false
is_float (value.Named a) = false
is_float value.Unknown = false

abbrev pub makes_float : Option (Letter × ℕ) → Bool
makes_float None = false
makes_float (Some b) = is_float_letter b.0

-- the bytes stand somewhere in the word
unfoldable pub has_inside : List ℕ → List ℕ → Bool
has_inside bytes [] = false
has_inside bytes (c ∷ cs) = starts_with nat_eq (c ∷ cs) bytes || has_inside bytes cs

-- it begins with float_, ends with _f or contains _float
abbrev pub is_float_name : List ℕ → Bool
is_float_name n = (starts_with nat_eq n (codes "float_") || ends_with nat_eq n (codes "_f")) || has_inside (codes "_float") n

-- some value of the line
abbrev pub any_value : (Value → Bool) → Line → Bool
any_value p l = list_any p l.args || list_any (λ f. list_any p f.slots) l.frames

abbrev pub has_float : Line → Bool
has_float l = (makes_float l.made || any_value is_float l) || is_float_name l.name

-- ---- names and boxes

abbrev pub box_id : Letter → ℕ → BoxId
box_id letter.Int n = record { kind = kind.Int; number = n }
box_id letter.Ref n = record { kind = kind.Ref; number = n }
box_id letter.Float n = record { kind = kind.Int; number = n }

abbrev pub is_unknown_name : Value → Bool
is_unknown_name (value.Of b n) = false
is_unknown_name (value.Const z) = false
is_unknown_name value.Null = false
is_unknown_name (value.Named a) = false
is_unknown_name value.Unknown = true

abbrev pub is_unknown_box : List BoxId → Value → Bool
is_unknown_box seen (value.Of b n) = not (knows seen (box_id b n))
is_unknown_box seen (value.Const z) = false
is_unknown_box seen value.Null = false
is_unknown_box seen (value.Named a) = false
is_unknown_box seen value.Unknown = false

-- a jump's descr is kept, that of a guard or a finish says nothing, another is looked up
abbrev pub descr_for : Names → Part → List ℕ → Option Descr
descr_for names part.Plain n = look n names.descrs
descr_for names part.Overflowing n = look n names.descrs
descr_for names part.Jump n = Some (descr.Target n)
descr_for names part.Guard n = Some descr.No
descr_for names part.OverflowGuard n = Some descr.No
descr_for names part.Finish n = Some descr.No

abbrev pub descr_found : Names → Option OpCode → Option (List ℕ) → Option Descr
descr_found names None d = Some descr.No
descr_found names (Some c) None = Some descr.No
descr_found names (Some c) (Some n) = descr_for names (part_of c) n

-- ---- refusals

abbrev pub differ : Bool → Bool → Bool
differ true b = not b
differ false b = b

-- a guard without fail arguments, or fail arguments behind another operation
abbrev pub is_misframed : Option OpCode → Line → Bool
is_misframed None l = false
is_misframed (Some c) l = differ (is_guard c) (nat_lt 0 (length l.frames))

-- a merge point with a result, or what is misframed
abbrev pub is_misplaced : Line → Bool
is_misplaced l = bytes_eq l.name (codes "debug_merge_point") || is_misframed (code_of l.name) l

abbrev pub has_unknown_name : Names → Line → Bool
has_unknown_name names l = any_value is_unknown_name l || not (is_some (descr_found names (code_of l.name) l.descr))

-- operations of a trace, frames of a snapshot, slots of a frame; what is counted is one above the limit
abbrev pub limits : ℕ → List Slots → List (Bool × Refusal)
limits others frames =
    (not (nat_lt others 8192), Limit what.Operations 8193)
    ∷ (not (nat_le (length frames) 32), Limit what.Frames 33)
    ∷ (list_any (λ f. not (nat_le (length f.slots) 256)) frames, Limit what.Slots 257)
    ∷ []

-- the first refusal of an operation behind so many others of its trace
unfoldable pub refusal : Names → List BoxId → ℕ → Line → Option Refusal
refusal names seen others l = first_of (
    (is_misplaced l, Syntax)
    ∷ (has_float l, Float)
    ∷ (not (is_some (code_of l.name)), UnknownOp)
    ∷ (has_unknown_name names l, UnknownDescr)
    ∷ (any_value (is_unknown_box seen) l, UnknownBox)
    ∷ limits others l.frames)

-- ---- meaning

abbrev pub arg_of : Value → Arg
arg_of (value.Of b n) = arg.Of (box_id b n)
arg_of (value.Const z) = arg.Const z
arg_of value.Null = arg.Null
arg_of (value.Named a) = a
arg_of value.Unknown = arg.Null

-- plain fail arguments are one frame, named as the trace, whose pc is the guard's number
abbrev pub framed : List Arg → List ℕ → ℕ → Head → Frame
framed slots own guard head.Plain = record { name = own; pc = guard; slots = slots }
framed slots own guard (head.Named n pc) = record { name = n; pc = pc; slots = slots }

abbrev pub frame_of : List ℕ → ℕ → Slots → Frame
frame_of own guard f = framed (map arg_of f.slots) own guard f.head

abbrev pub made_of : Option (Letter × ℕ) → Option BoxId
made_of None = None
made_of (Some b) = Some (box_id b.0 b.1)

abbrev pub descr_of : Names → OpCode → Option (List ℕ) → Descr
descr_of names c d = unwrap_or (descr_found names (Some c) d) descr.No

-- the operation of a line that is not refused, in the trace `own` behind so many guards
abbrev pub op_of : Names → List ℕ → ℕ → OpCode → Line → Op
op_of names own guard c l = record { code = c; result = made_of l.made; args = map arg_of l.args; descr = descr_of names c l.descr; snapshot = map (frame_of own guard) l.frames }
