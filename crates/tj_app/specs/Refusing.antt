-- Statuses, and the lines that are written for faults.
use Rattle.std.specs.Prelude.{◌≡◌, ℕ, List, ◌++◌, codes, Option, ◌⊎◌}
use Rattle.std.specs.Io.KnownBytes.{Appends}
use Rattle.std.specs.Fmt.{decimal}
use Rattle.trace_ops.specs.declared.table.What.{What}
use Rattle.trace_ops.specs.declared.table.What.TheVariants as what
use Rattle.session_text.specs.declared.fault.Reason.{Reason}
use Rattle.session_text.specs.declared.fault.Reason.TheVariants as reason
use Rattle.tj_app.specs.declared.ending.Status.{Status}
use Rattle.tj_app.specs.declared.ending.Status.TheVariants as status
use Rattle.tj_app.specs.declared.refusal.Fault.{Fault}
use Rattle.tj_app.specs.declared.refusal.Fault.TheVariants as fault

-- the exit status
abbrev pub code_of : Status → ℕ
code_of status.Done = 0
code_of status.Refused = 1
code_of status.Usage = 2
code_of status.ReadFault = 3
code_of status.WriteFault = 4
code_of status.Limit = 5
code_of status.Memory = 6

-- the status that a fault ends with
abbrev pub status_of : Fault → Status
status_of fault.Usage = status.Usage
status_of fault.Read = status.ReadFault
status_of (fault.Limit what count) = status.Limit
status_of fault.Memory = status.Memory
status_of _ = status.Refused

-- what a limit counts
abbrev pub what_text : What → List ℕ
what_text what.Input = codes "input"
what_text what.Traces = codes "traces"
what_text what.Operations = codes "operations"
what_text what.Inputs = codes "inputs"
what_text what.Frames = codes "frames"
what_text what.Slots = codes "slots"
what_text what.Shapes = codes "shapes"
what_text what.Functions = codes "functions"
what_text what.Calls = codes "calls"
what_text what.Fields = codes "fields"
what_text what.Arguments = codes "arguments"
what_text what.Reads = codes "reads"
what_text what.Writes = codes "writes"
what_text what.Prebuilt = codes "prebuilt"
what_text what.Weight = codes "weight"
what_text what.Session = codes "session"
what_text what.Activations = codes "activations"
what_text what.Answers = codes "answers"
what_text what.RvWeight = codes "rvweight"
what_text what.Codes = codes "codes"
what_text what.Instructions = codes "instructions"

-- `error line N: WHY`
abbrev pub line_text : ℕ → List ℕ → List ℕ
line_text line why = codes "error line " ++ (decimal line ++ (codes ": " ++ (why ++ codes "\n")))

abbrev pub of_trace : List ℕ → List ℕ
of_trace name = codes "error trace " ++ name

abbrev pub of_rule : ℕ → ℕ → List ℕ
of_rule op rule = codes " op " ++ (decimal op ++ (codes ": rule " ++ (decimal rule ++ codes "\n")))

-- `error trace NAME op K: rule R`
abbrev pub rule_text : List ℕ → ℕ → ℕ → List ℕ
rule_text name op rule = of_trace name ++ of_rule op rule

-- `error limit WHAT COUNT`
abbrev pub limit_text : List ℕ → ℕ → List ℕ
limit_text what count = codes "error limit " ++ (what ++ (codes " " ++ (decimal count ++ codes "\n")))

-- why a line of a session is refused
abbrev pub session_text : Reason → List ℕ
session_text reason.Shape = codes "session shape"
session_text reason.Twice = codes "session twice"
session_text reason.Name = codes "session name"
session_text reason.Inputs = codes "session inputs"

-- `error not built WHAT`
abbrev pub unbuilt_text : List ℕ → List ℕ
unbuilt_text what = codes "error not built " ++ (what ++ codes "\n")

-- the line that is written for a fault
abbrev pub fault_text : Fault → List ℕ
fault_text (fault.Syntax line) = line_text line (codes "syntax")
fault_text (fault.Float line) = line_text line (codes "float")
fault_text (fault.UnknownOp line) = line_text line (codes "unknown operation")
fault_text (fault.UnknownDescr line) = line_text line (codes "unknown descr")
fault_text (fault.UnknownBox line) = line_text line (codes "unknown box")
fault_text (fault.Twice line) = line_text line (codes "defined twice")
fault_text (fault.UnknownName line) = line_text line (codes "unknown name")
fault_text (fault.BadInitial line) = line_text line (codes "bad initial value")
fault_text (fault.IllFormed trace name op rule) = rule_text name op rule
fault_text (fault.SessionBad line reason) = line_text line (session_text reason)
fault_text fault.Usage = codes "error usage\n"
fault_text fault.Read = codes "error read\n"
fault_text (fault.Limit what count) = limit_text (what_text what) count
fault_text fault.Memory = codes "error memory\n"
fault_text (fault.NotBuilt what) = unbuilt_text what

-- the text was taken and the status is this one, or the sink failed
abbrev pub Says : Status → List ℕ → Option (List ℕ) → Option (List ℕ) → Status → Type 0
Says wanted text taken taken' ended = (ended ≡ status.WriteFault) ⊎ ((ended ≡ wanted) × Appends taken taken' text)
