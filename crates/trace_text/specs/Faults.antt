-- Faults, and what a reader answers.
use Rattle.std.specs.Prelude.{◌≡◌, ℕ, Result, Ok, Err}
use Rattle.descr_table.specs.declared.fault.TableFault.{TableFault}
use Rattle.descr_table.specs.declared.fault.TableFault.TheVariants as table
use Rattle.trace_text.specs.declared.fault.Refusal.{Refusal}
use Rattle.trace_text.specs.declared.fault.Refusal.TheVariants as refusal
use Rattle.trace_text.specs.declared.fault.TextFault.{TextFault}
use Rattle.trace_text.specs.declared.fault.TextFault.TheVariants as fault

abbrev pub fault_at : ℕ → Refusal → TextFault
fault_at n refusal.Syntax = fault.Syntax n
fault_at n refusal.Float = fault.Float n
fault_at n refusal.UnknownOp = fault.UnknownOp n
fault_at n refusal.UnknownDescr = fault.UnknownDescr n
fault_at n refusal.UnknownBox = fault.UnknownBox n
fault_at n (refusal.Limit what count) = fault.Limit what count

abbrev pub table_fault : TableFault → TextFault
table_fault table.OutOfMemory = fault.OutOfMemory
table_fault (table.Syntax n) = fault.Table (table.Syntax n)
table_fault (table.Twice n) = fault.Table (table.Twice n)
table_fault (table.UnknownName n) = fault.Table (table.UnknownName n)
table_fault (table.BadInitial n) = fault.Table (table.BadInitial n)
table_fault (table.Limit what count) = fault.Table (table.Limit what count)

-- a line or a limit of the table, and no want of memory
abbrev pub IsTableRefusal : TableFault → Type 0
IsTableRefusal table.OutOfMemory = ⊥
IsTableRefusal (table.Syntax n) = Unit {0}
IsTableRefusal (table.Twice n) = Unit {0}
IsTableRefusal (table.UnknownName n) = Unit {0}
IsTableRefusal (table.BadInitial n) = Unit {0}
IsTableRefusal (table.Limit what count) = Unit {0}

-- ---- what a reader answers: what reading gives, unless memory ran out

abbrev pub Fails : {X : Type 0} → TextFault → Result X TextFault → Type 0
Fails fault.OutOfMemory read = Unit {0}
Fails (fault.Table why) read = (read ≡ Err (fault.Table why)) × IsTableRefusal why
Fails (fault.Syntax n) read = read ≡ Err (fault.Syntax n)
Fails (fault.Float n) read = read ≡ Err (fault.Float n)
Fails (fault.UnknownOp n) read = read ≡ Err (fault.UnknownOp n)
Fails (fault.UnknownDescr n) read = read ≡ Err (fault.UnknownDescr n)
Fails (fault.UnknownBox n) read = read ≡ Err (fault.UnknownBox n)
Fails (fault.Limit what count) read = read ≡ Err (fault.Limit what count)

abbrev pub Gives : {X : Type 0} → Result X TextFault → Result X TextFault → Type 0
Gives (Ok x) read = read ≡ Ok x
Gives (Err e) read = Fails e read
