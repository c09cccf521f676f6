-- What a part answers, through what is done with it.
use Rattle.std.proofs.Common.{◌≡◌, ℕ, ◌+◌, ◌≤◌, zero, suc, true, false, cond, eqb, List, [], ◌∷◌, length, take, Result, Ok, None, ap, subst, arith}
use Rattle.lists.specs.Refused.{ok_then}
use Rattle.text_lines.specs.Lines.{lines, in_front}
use Rattle.trace_ops.specs.declared.table.Table.{Table}
use Rattle.descr_table.specs.declared.fault.TableFault.{TableFault}
use Rattle.descr_table.specs.declared.fault.TableFault.TheVariants as table
use Rattle.descr_table.specs.Reading as rows
use Rattle.trace_text.specs.declared.fault.TextFault.{TextFault}
use Rattle.trace_text.specs.declared.fault.TextFault.TheVariants as fault
use Rattle.trace_text.specs.Faults.{Fails, Gives, table_fault}
use Rattle.trace_ops.specs.declared.trace.TraceSet.{TraceSet}
use Rattle.descr_table.specs.Meaning.{nothing}
use Rattle.trace_text.specs.declared.cut.Until.{Until}
use Rattle.trace_text.specs.declared.cut.Until.TheVariants as until
use Rattle.trace_text.specs.Sections.{table_read, front, back, stops, place_of, lines_before, set_over, set_opened, part_behind, session_part}
use Rattle.trace_text.proofs.Cuts.{no_lines}

-- a failure stays one, whatever would follow
pub fails : {X Y : Type 0} (e : TextFault) (read : Result X TextFault) (f : X → Result Y TextFault) → Fails e read → Fails e (ok_then read f)
fails fault.OutOfMemory read f h = tt
fails (fault.Table why) read f h = (ap (λ r. ok_then r f) h.0, h.1)
fails (fault.Syntax n) read f h = ap (λ r. ok_then r f) h
fails (fault.Float n) read f h = ap (λ r. ok_then r f) h
fails (fault.UnknownOp n) read f h = ap (λ r. ok_then r f) h
fails (fault.UnknownDescr n) read f h = ap (λ r. ok_then r f) h
fails (fault.UnknownBox n) read f h = ap (λ r. ok_then r f) h
fails (fault.Limit what n) read f h = ap (λ r. ok_then r f) h

-- what follows a part that is read
pub goes_on : {X Y : Type 0} (x : X) (read : Result X TextFault) (f : X → Result Y TextFault) (answer : Result Y TextFault) → read ≡ Ok x → Gives answer (f x) → Gives answer (ok_then read f)
goes_on x read f answer e h = rw e h

-- a refusal of the table
pub rows_fail : (e : TableFault) (read : Result Table TableFault) → rows.Fails e read → Fails (table_fault e) (table_read read)
rows_fail table.OutOfMemory read h = tt
rows_fail (table.Syntax n) read h = (ap table_read h, tt)
rows_fail (table.Twice n) read h = (ap table_read h, tt)
rows_fail (table.UnknownName n) read h = (ap table_read h, tt)
rows_fail (table.BadInitial n) read h = (ap table_read h, tt)
rows_fail (table.Limit what n) read h = (ap table_read h, tt)

length-in_front : (c : ℕ) (xs ys : List (List ℕ)) → length xs ≤ length ys → length (in_front c xs) ≤ length (in_front c ys)
length-in_front c [] [] h = omega arith
length-in_front c [] (y ∷ ys) h = omega arith
length-in_front c (x ∷ xs) [] h = absurd (omega (arith, h))
length-in_front c (x ∷ xs) (y ∷ ys) h = h

-- fewer bytes have no more lines
pub length-lines-take : (k : ℕ) (text : List ℕ) → length (lines (take k text)) ≤ length (lines text)
unfolding lines
length-lines-take zero text = omega arith
length-lines-take (suc k) [] = omega arith
length-lines-take (suc k) (c ∷ cs) =
    elim (eqb c 10) as (λ b. length (cond b ([] ∷ lines (take k cs)) (in_front c (lines (take k cs)))) ≤ length (cond b ([] ∷ lines cs) (in_front c (lines cs)))) [
      | true ↦ omega (arith, length-lines-take k cs)
      | false ↦ length-in_front c (lines (take k cs)) (lines cs) (length-lines-take k cs)
    ]

pub length-lines-front : (u : Until) (text part : List ℕ) → part ≡ front u text → length (lines part) ≤ length (lines text)
length-lines-front u text part e = rw e (length-lines-take (place_of (stops u) text) text)

-- an empty text has no table
pub opened_empty : (t : Table) (end n : ℕ) (text : List ℕ) (answer : Result TraceSet TextFault) → t ≡ nothing → length text ≡ 0 → Gives answer (set_over t end n text) → Gives answer (set_opened end n text (lines text))
opened_empty t end n text answer e none h =
    let is : lines text ≡ [] = no_lines text none in
    rw is (subst (λ x. Gives answer (set_over x end n text)) e h)

-- where nothing stands from the session's line on, there is no session
pub part_of_nothing : (text b : List ℕ) → b ≡ back until.Session text → length b ≡ 0 → session_part text ≡ None
part_of_nothing text b e none =
    ap (part_behind (1 + lines_before (stops until.Session) text) (back until.Session text)) (no_lines (back until.Session text) (subst (λ x. length x ≡ 0) e none))
