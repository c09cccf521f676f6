-- The line of an operation, word by word.
use Rattle.std.specs.Prelude.{◌≡◌, ℕ, Bool, true, false, Option, Some, None, List, [], ◌∷◌, ◌++◌, codes, if◌then◌else◌}
use Rattle.std.specs.Str.{bytes_eq}
use Rattle.text_lines.specs.Words.{is_name}
use Rattle.lists.specs.Binds.{◌>>=◌}
use Rattle.text_lines.specs.Numbers.{box_of}
use Rattle.text_lines.specs.declared.number.Letter.{Letter}
use Rattle.trace_text.specs.declared.value.Value.{Value}
use Rattle.trace_text.specs.declared.value.Head.{Head}
use Rattle.trace_text.specs.declared.value.Head.TheVariants as head
use Rattle.trace_text.specs.declared.line.Place.{Place}
use Rattle.trace_text.specs.declared.line.Place.TheVariants as place
use Rattle.trace_text.specs.declared.line.Line.{Line}
use Rattle.trace_text.specs.Names.{Names, look}
use Rattle.trace_text.specs.Values.{plain_value, named_value, frame_head}

-- what a step left, where it went on
abbrev pub Moved : Bool → Line → Option Line → Type 0
Moved true line read = read ≡ Some line
Moved false line read = read ≡ None

abbrev pub start : Line
start = record { place = place.Start; made = None; name = []; args = []; descr = None; head = head.Plain; opened = []; frames = [] }

abbrev pub go : Line → Place → Line
go l p = record l { place = p }

abbrev pub expect : Line → List ℕ → Place → List ℕ → Option Line
expect l mark p w = if bytes_eq w mark then Some (go l p) else None

abbrev pub name_step : Line → Place → List ℕ → Option Line
name_step l p w = if is_name w then Some (record l { name = w; place = p }) else None

abbrev pub with_made : Line → Option (Letter × ℕ) → Option Line
with_made l None = None
with_made l (Some b) = Some (record l { made = Some b; place = place.Equals })

-- behind the first word: it is an operation, or the result
abbrev pub first_step : Line → List ℕ → Option Line
first_step l w = if bytes_eq w (codes "(") then Some (go l place.Open) else if bytes_eq w (codes "=") then with_made l (box_of l.name) else None

abbrev pub push_value : Line → Value → Place → Line
push_value l v p = record l { opened = l.opened ++ v ∷ []; place = p }

abbrev pub plain_step : Line → Place → List ℕ → Option Line
plain_step l p w = plain_value w >>= λ v. Some (push_value l v p)

abbrev pub item_step : Line → List ℕ → Option Line
item_step l w = if bytes_eq w (codes "descr") then Some (go l place.Descr) else if bytes_eq w (codes "ConstClass") then Some (go l place.Class) else if bytes_eq w (codes "ConstPtr") then Some (go l place.Ptr) else plain_step l place.Behind w

abbrev pub slot_step : Line → List ℕ → Option Line
slot_step l w = if bytes_eq w (codes "ConstPtr") then Some (go l place.SlotPtr) else plain_step l place.SlotBehind w

abbrev pub class_step : Names → Line → List ℕ → Option Line
class_step names l w = if is_name w then Some (push_value l (named_value (look w names.classes)) place.Closing) else None

abbrev pub object_step : Names → Line → Place → List ℕ → Option Line
object_step names l p w = if is_name w then Some (push_value l (named_value (look w names.prebuilts)) p) else None

abbrev pub descr_step : Line → List ℕ → Option Line
descr_step l w = if is_name w then Some (record l { descr = Some w; place = place.DescrEnd }) else None

abbrev pub closed : Line → Line
closed l = record l { args = l.opened; opened = []; place = place.Closed }

abbrev pub frame_end : Head → Place
frame_end head.Plain = place.Ended
frame_end (head.Named n pc) = place.Framed

abbrev pub frame_closed : Line → Line
frame_closed l = record l { frames = l.frames ++ record { head = l.head; slots = l.opened } ∷ []; opened = []; place = frame_end l.head }

abbrev pub frame_step : Line → List ℕ → Option Line
frame_step l w = frame_head w >>= λ h. Some (record l { head = h; place = place.FrameHead })

abbrev pub open_step : Line → List ℕ → Option Line
open_step l w = if bytes_eq w (codes ")") then Some (closed l) else item_step l w

abbrev pub end_step : Line → List ℕ → Option Line
end_step l w = if bytes_eq w (codes ")") then Some (closed l) else None

abbrev pub behind_step : Line → List ℕ → Option Line
behind_step l w = if bytes_eq w (codes ",") then Some (go l place.Next) else end_step l w

abbrev pub closed_step : Line → List ℕ → Option Line
closed_step l w = if bytes_eq w (codes "[") then Some (go l place.SlotOpen) else frame_step l w

abbrev pub slot_open_step : Line → List ℕ → Option Line
slot_open_step l w = if bytes_eq w (codes "]") then Some (frame_closed l) else slot_step l w

abbrev pub slot_behind_step : Line → List ℕ → Option Line
slot_behind_step l w = if bytes_eq w (codes ",") then Some (go l place.SlotNext) else if bytes_eq w (codes "]") then Some (frame_closed l) else None

abbrev pub step_at : Names → Place → Line → List ℕ → Option Line
step_at names place.Start l w = name_step l place.First w
step_at names place.First l w = first_step l w
step_at names place.Equals l w = name_step l place.Named w
step_at names place.Named l w = expect l (codes "(") place.Open w
step_at names place.Open l w = open_step l w
step_at names place.Next l w = item_step l w
step_at names place.Behind l w = behind_step l w
step_at names place.Class l w = expect l (codes "(") place.ClassOpen w
step_at names place.ClassOpen l w = class_step names l w
step_at names place.Ptr l w = expect l (codes "(") place.PtrOpen w
step_at names place.PtrOpen l w = object_step names l place.Closing w
step_at names place.Closing l w = expect l (codes ")") place.Behind w
step_at names place.Descr l w = expect l (codes "=") place.DescrEquals w
step_at names place.DescrEquals l w = descr_step l w
step_at names place.DescrEnd l w = end_step l w
step_at names place.Closed l w = closed_step l w
step_at names place.FrameHead l w = expect l (codes "[") place.SlotOpen w
step_at names place.SlotOpen l w = slot_open_step l w
step_at names place.SlotNext l w = slot_step l w
step_at names place.SlotBehind l w = slot_behind_step l w
step_at names place.SlotPtr l w = expect l (codes "(") place.SlotPtrOpen w
step_at names place.SlotPtrOpen l w = object_step names l place.SlotClosing w
step_at names place.SlotClosing l w = expect l (codes ")") place.SlotBehind w
step_at names place.Framed l w = frame_step l w
step_at names place.Ended l w = None

abbrev pub step : Names → Line → List ℕ → Option Line
step names l w = step_at names l.place l w

unfoldable pub run : Names → Line → List (List ℕ) → Option Line
run names l [] = Some l
run names l (w ∷ ws) = step names l w >>= λ m. run names m ws

abbrev pub is_done : Place → Bool
is_done place.Closed = true
is_done place.Framed = true
is_done place.Ended = true
is_done p = false

abbrev pub done : Line → Option Line
done l = if is_done l.place then Some l else None

-- a line from this place on
unfoldable pub from : Names → Place → List (List ℕ) → Option Line
from names p ws = run names (go start p) ws >>= done

-- an operation, or a label
abbrev pub op_at : Names → List (List ℕ) → Option Line
op_at names ws = from names place.Start ws

-- inputs, as fail arguments
abbrev pub inputs_at : Names → List (List ℕ) → Option Line
inputs_at names ws = from names place.Closed ws
