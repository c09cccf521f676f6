-- The table that lines stand for.
use Rattle.std.specs.Prelude.{◌≡◌, ℕ, Option, Some, None, Result, Ok, Err, List, [], ◌∷◌}
use Rattle.text_lines.specs.Lines.{lines}
use Rattle.text_lines.specs.Names.{with_name}
use Rattle.lists.specs.Refused.{read_lines}
use Rattle.text_lines.specs.Reading.{said}
use Rattle.trace_ops.specs.declared.table.Table.{Table}
use Rattle.descr_table.specs.declared.form.Form.{Form}
use Rattle.descr_table.specs.declared.form.Form.TheVariants.{Size, Field, Array, Call, Function, Object, Items}
use Rattle.descr_table.specs.declared.fault.Refusal.{Refusal}
use Rattle.descr_table.specs.declared.fault.Refusal.TheVariants as refusal
use Rattle.descr_table.specs.declared.fault.TableFault.{TableFault}
use Rattle.descr_table.specs.declared.fault.TableFault.TheVariants as fault
use Rattle.descr_table.specs.Form.{form_at}
use Rattle.descr_table.specs.Meaning.{nothing, refusal, put}

-- ---- the names of prebuilt objects

-- the name that a line of prebuilt form defines
abbrev pub prebuilt_name : Form → Option (List ℕ)
prebuilt_name (Size name vtable) = None
prebuilt_name (Field name size kind immutable) = None
prebuilt_name (Array name kind) = None
prebuilt_name (Call name args gives reads writes) = None
prebuilt_name (Function name) = None
prebuilt_name (Object name size fields) = Some name
prebuilt_name (Items name array items) = Some name

abbrev pub with_defined : Option (List ℕ) → List (List ℕ) → List (List ℕ)
with_defined None names = names
with_defined (Some name) names = with_name name names

abbrev pub defined_name : Option (Option Form) → Option (List ℕ)
defined_name None = None
defined_name (Some None) = None
defined_name (Some (Some f)) = prebuilt_name f

-- the names that the lines define, behind those so far
unfoldable pub defined_behind : List (List ℕ) → List (List ℕ) → List (List ℕ)
defined_behind names [] = names
defined_behind names (l ∷ ls) = defined_behind (with_defined (defined_name (said form_at l)) names) ls

-- each name once, by its first line, whatever is refused there or before
abbrev pub defined_in : List ℕ → List (List ℕ)
defined_in text = defined_behind [] (lines text)

-- ---- one line after the other

abbrev pub fault_at : ℕ → Refusal → TableFault
fault_at n refusal.Syntax = fault.Syntax n
fault_at n refusal.Twice = fault.Twice n
fault_at n refusal.UnknownName = fault.UnknownName n
fault_at n refusal.BadInitial = fault.BadInitial n
fault_at n (refusal.Limit what count) = fault.Limit what count

abbrev pub after : List (List ℕ) → ℕ → Form → Table → Option Refusal → Result Table TableFault
after defined n f t None = Ok (put f defined t)
after defined n f t (Some why) = Err (fault_at n why)

-- a line at its number, over the table of the earlier lines: a form that is not refused is put
abbrev pub read_said : List (List ℕ) → ℕ → Table → Option (Option Form) → Result Table TableFault
read_said defined n t None = Err (fault.Syntax n)
read_said defined n t (Some None) = Ok t
read_said defined n t (Some (Some f)) = after defined n f t (refusal f defined t)

unfoldable pub read_line : List (List ℕ) → ℕ → List ℕ → Table → Result Table TableFault
read_line defined n line t = read_said defined n t (said form_at line)

-- the table that the lines stand for, or the first refusal
unfoldable pub table_at : ℕ → List ℕ → Result Table TableFault
table_at first text = read_lines (read_line (defined_in text)) first (lines text) nothing

-- ---- what a reader answers: what reading gives, unless memory ran out

abbrev pub Fails : TableFault → Result Table TableFault → Type 0
Fails fault.OutOfMemory read = Unit {0}
Fails (fault.Syntax n) read = read ≡ Err (fault.Syntax n)
Fails (fault.Twice n) read = read ≡ Err (fault.Twice n)
Fails (fault.UnknownName n) read = read ≡ Err (fault.UnknownName n)
Fails (fault.BadInitial n) read = read ≡ Err (fault.BadInitial n)
Fails (fault.Limit what count) read = read ≡ Err (fault.Limit what count)

abbrev pub Gives : Result Table TableFault → Result Table TableFault → Type 0
Gives (Ok t) read = read ≡ Ok t
Gives (Err e) read = Fails e read
