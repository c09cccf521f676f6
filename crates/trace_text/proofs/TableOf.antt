-- Where the table of a set comes from.
use Rattle.std.proofs.Common.{◌≡◌, ℕ, ◌+◌, true, false, cond, List, [], ◌∷◌, length, drop, Result, Ok, Err, refl, ap, subst, inl, inr}
use Rattle.std.specs.Prelude.{codes}
use Rattle.text_lines.specs.Words.{words}
use Rattle.text_lines.specs.Lines.{lines}
use Rattle.lists.specs.Refused.{ok_then}
use Rattle.trace_ops.specs.declared.table.Table.{Table}
use Rattle.trace_ops.specs.declared.trace.Trace.{Trace}
use Rattle.trace_ops.specs.declared.trace.TraceSet.{TraceSet}
use Rattle.descr_table.specs.declared.fault.TableFault.{TableFault}
use Rattle.descr_table.specs.Meaning.{nothing}
use Rattle.descr_table.specs.Reading.{table_at}
use Rattle.trace_text.specs.declared.fault.TextFault.{TextFault}
use Rattle.trace_text.specs.declared.cut.Until.TheVariants as until
use Rattle.trace_text.specs.Names.{names_of}
use Rattle.trace_text.specs.Draft.{lines_at, finished}
use Rattle.trace_text.specs.Sections.{is_alone, stops, lines_before, place_of, front, back, set_over, table_read, set_with_table, set_opened, set_of, set_at, IsTableOfText}

abbrev Good : (Table → Type 0) → Result TraceSet TextFault → Type 0
Good P (Ok set) = P set.table
Good P (Err e) = Unit {0}

over_by : (P : Table → Type 0) (t : Table) (r : Result (List Trace) TextFault) → P t → Good P (ok_then r (λ traces. Ok (record { table = t; traces = traces })))
over_by P t (Ok traces) h = h
over_by P t (Err e) h = tt

over : (P : Table → Type 0) (t : Table) (end n : ℕ) (text : List ℕ) → P t → Good P (set_over t end n text)
over P t end n text h = over_by P t (ok_then (lines_at (names_of t) n text) (finished end)) h

rows_by : (P : Table → Type 0) (r : Result Table TableFault) (f : Table → Result TraceSet TextFault) → ((t : Table) → r ≡ Ok t → Good P (f t)) → Good P (ok_then (table_read r) f)
rows_by P (Ok t) f g = g t refl
rows_by P (Err e) f g = tt

with_table : (end n : ℕ) (text : List ℕ) → Good IsTableOfText (set_with_table end n text)
with_table end n text = rows_by IsTableOfText (table_at n (front until.Section text)) (λ t. set_over t end (n + lines_before (stops until.Section) text) (back until.Section text)) (λ t e. over IsTableOfText t end (n + lines_before (stops until.Section) text) (back until.Section text) (inr (n, front until.Section text, e)))

opened : (end n : ℕ) (text : List ℕ) (ls : List (List ℕ)) → Good IsTableOfText (set_opened end n text ls)
opened end n text [] = over IsTableOfText nothing end n text (inl refl)
opened end n text (l ∷ ls) =
    elim (is_alone (codes "%table") (words l)) as (λ b. Good IsTableOfText (cond b (set_with_table end (n + 1) (drop (length l + 1) text)) (set_over nothing end n text))) [
      | true ↦ with_table end (n + 1) (drop (length l + 1) text)
      | false ↦ over IsTableOfText nothing end n text (inl refl)
    ]

with_place : (r : Result TraceSet TextFault) (place : ℕ) (x : TraceSet × ℕ) → Good IsTableOfText r → ok_then r (λ set. Ok (set, place)) ≡ Ok x → IsTableOfText x.0.table
with_place (Err e) place x h is = absurd cc
with_place (Ok set) place x h is =
    let pick : Result (TraceSet × ℕ) TextFault → Table = λ r. elim r [ Ok y ↦ y.0.table | Err e ↦ set.table ] in
    subst IsTableOfText (ap pick is) h

pub table_of_text : (text : List ℕ) (x : TraceSet × ℕ) → set_at text ≡ Ok x → IsTableOfText x.0.table
unfolding set_at
table_of_text text x e =
    let part : List ℕ = front until.Session text in
    let said : List ℕ = back until.Said part in
    with_place (set_of (1 + lines_before (stops until.Session) text) part) (place_of (stops until.Session) text) x (opened (1 + lines_before (stops until.Session) text) (1 + lines_before (stops until.Said) part) said (lines said)) e
