-- The set of traces that an input stands for, or why there is none.
use Rattle.std.specs.Prelude.{◌≡◌, ◌⊎◌, ℕ, List, Ok}
use Rattle.trace_ops.specs.declared.trace.TraceSet.{TraceSet}
use Rattle.descr_table.specs.declared.fault.TableFault.{TableFault}
use Rattle.descr_table.specs.declared.fault.TableFault.TheVariants as table
use Rattle.trace_text.specs.declared.fault.TextFault.{TextFault}
use Rattle.trace_text.specs.declared.fault.TextFault.TheVariants as text
use Rattle.trace_text.specs.Faults.{Fails}
use Rattle.trace_text.specs.Sections.{set_at}
use Rattle.trace_check.specs.declared.fault.CheckFault.{CheckFault}
use Rattle.trace_check.specs.declared.fault.CheckFault.TheVariants as check
use Rattle.trace_check.specs.Faults.{HasCause}
use Rattle.tj_app.specs.declared.refusal.Fault.{Fault}
use Rattle.tj_app.specs.declared.refusal.Fault.TheVariants as fault

-- the input stands for this set, in front of its session
abbrev pub StandsFor : List ℕ → TraceSet → Type 0
StandsFor input set = (place : ℕ) × (set_at input ≡ Ok (set, place))

-- a refusal of the table, as the program tells it
abbrev pub table_fault : TableFault → Fault
table_fault (table.Syntax line) = fault.Syntax line
table_fault (table.Twice line) = fault.Twice line
table_fault (table.UnknownName line) = fault.UnknownName line
table_fault (table.BadInitial line) = fault.BadInitial line
table_fault (table.Limit what count) = fault.Limit what count
table_fault table.OutOfMemory = fault.Memory

-- a refusal of the text
abbrev pub text_fault : TextFault → Fault
text_fault (text.Table why) = table_fault why
text_fault (text.Syntax line) = fault.Syntax line
text_fault (text.Float line) = fault.Float line
text_fault (text.UnknownOp line) = fault.UnknownOp line
text_fault (text.UnknownDescr line) = fault.UnknownDescr line
text_fault (text.UnknownBox line) = fault.UnknownBox line
text_fault (text.Limit what count) = fault.Limit what count
text_fault text.OutOfMemory = fault.Memory

-- a refusal of the set
abbrev pub set_fault : CheckFault → Fault
set_fault (check.IllFormed trace name op rule) = fault.IllFormed trace name op rule
set_fault (check.Limit what count) = fault.Limit what count
set_fault check.OutOfMemory = fault.Memory

-- the input stands for no set, and this is the first refusal of its lines; or memory was wanting
abbrev pub IsBadText : List ℕ → Fault → Type 0
IsBadText input f = (why : TextFault) × Fails why (set_at input) × (f ≡ text_fault why)

-- the set has this least fault, or is well formed and too heavy; or memory was wanting
abbrev pub IsBadSet : TraceSet → Fault → Type 0
IsBadSet set f = (why : CheckFault) × HasCause set why × (f ≡ set_fault why)

-- why an input is refused: its text is, or the set that it stands for
abbrev pub IsBad : List ℕ → Fault → Type 0
IsBad input f = IsBadText input f ⊎ ((set : TraceSet) × StandsFor input set × IsBadSet set f)
