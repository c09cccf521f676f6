-- What each line keeps holds of the set that a text stands for.
use Rattle.std.proofs.Common.{◌≡◌, ℕ, suc, ◌+◌, true, false, cond, List, [], ◌∷◌, length, drop, Result, Ok, Err, ap, subst}
use Rattle.std.specs.Prelude.{codes}
use Rattle.text_lines.specs.Words.{words}
use Rattle.text_lines.specs.Lines.{lines}
use Rattle.lists.specs.Refused.{read_lines, ok_then}
use Rattle.trace_ops.specs.declared.trace.Trace.{Trace}
use Rattle.trace_ops.specs.declared.trace.TraceSet.{TraceSet}
use Rattle.trace_ops.specs.declared.table.Table.{Table}
use Rattle.descr_table.specs.Meaning as rows
use Rattle.descr_table.specs.Reading.{table_at}
use Rattle.trace_text.specs.declared.fault.TextFault.{TextFault}
use Rattle.trace_text.specs.declared.fault.TextFault.TheVariants as fault
use Rattle.trace_text.specs.declared.draft.Draft.{Draft}
use Rattle.trace_text.specs.declared.cut.Until.TheVariants as until
use Rattle.trace_text.specs.Names.{names_of}
use Rattle.trace_text.specs.Draft.{nothing, read_line, lines_at, lacks_inputs, closed_if, finished}
use Rattle.trace_text.specs.Sections.{is_alone, stops, lines_before, place_of, front, back, set_over, table_read, set_with_table, set_opened, set_of, set_at}

-- what a step gives, unless it refuses
abbrev pub Good : {X : Type 0} → (X → Type 0) → Result X TextFault → Type 0
Good P (Ok x) = P x
Good P (Err e) = Unit {0}

then_good : {X Y : Type 0} (P : X → Type 0) (Q : Y → Type 0) (r : Result X TextFault) (f : X → Result Y TextFault) → Good P r → ((x : X) → P x → Good Q (f x)) → Good Q (ok_then r f)
then_good P Q (Ok x) f h g = g x h
then_good P Q (Err e) f h g = tt

-- what holds of a draft where the table is t, kept by each line, and what it gives of the traces that are done
pub record IsKept (t : Table) (P : Draft → Type 0) (Q : List Trace → Type 0) : Type 0 where
  pub begins : P nothing
  pub line : (n : ℕ) (line : List ℕ) (d : Draft) → P d → Good P (read_line (names_of t) n line d)
  pub ends : (d : Draft) → P d → Q (closed_if d).done

lines_good : (t : Table) (P : Draft → Type 0) (Q : List Trace → Type 0) → IsKept t P Q → (n : ℕ) (ls : List (List ℕ)) (d : Draft) → P d → Good P (read_lines (read_line (names_of t)) n ls d)
unfolding read_lines
lines_good t P Q k n [] d h = h
lines_good t P Q k n (l ∷ ls) d h = then_good P P (read_line (names_of t) n l d) (λ made. read_lines (read_line (names_of t)) (suc n) ls made) (k.line n l d h) (λ made g. lines_good t P Q k (suc n) ls made g)

text_good : (t : Table) (P : Draft → Type 0) (Q : List Trace → Type 0) → IsKept t P Q → (n : ℕ) (text : List ℕ) → Good P (lines_at (names_of t) n text)
unfolding lines_at
text_good t P Q k n text = lines_good t P Q k n (lines text) nothing k.begins

finished_good : (t : Table) (P : Draft → Type 0) (Q : List Trace → Type 0) → IsKept t P Q → (end : ℕ) (d : Draft) → P d → Good Q (finished end d)
finished_good t P Q k end d h = elim (lacks_inputs d.phase) as (λ b. Good Q (cond b (Err (fault.Syntax end)) (Ok (closed_if d).done))) [ true ↦ tt | false ↦ k.ends d h ]

abbrev GoodSet : (Table → List Trace → Type 0) → Result TraceSet TextFault → Type 0
GoodSet Q r = Good (λ (set : TraceSet). Q set.table set.traces) r

over_good : (P : Table → Draft → Type 0) (Q : Table → List Trace → Type 0) → ((t : Table) → IsKept t (P t) (Q t)) → (t : Table) (end n : ℕ) (text : List ℕ) → GoodSet Q (set_over t end n text)
over_good P Q k t end n text =
    let whole : Good (Q t) (ok_then (lines_at (names_of t) n text) (finished end)) = then_good (P t) (Q t) (lines_at (names_of t) n text) (finished end) (text_good t (P t) (Q t) (k t) n text) (λ d h. finished_good t (P t) (Q t) (k t) end d h) in
    then_good (Q t) (λ (set : TraceSet). Q set.table set.traces) (ok_then (lines_at (names_of t) n text) (finished end)) (λ traces. Ok (record { table = t; traces = traces })) whole (λ traces h. h)

then_table : (Q : Table → List Trace → Type 0) (r : Result Table TextFault) (f : Table → Result TraceSet TextFault) → ((t : Table) → GoodSet Q (f t)) → GoodSet Q (ok_then r f)
then_table Q (Ok t) f g = g t
then_table Q (Err e) f g = tt

table_good : (P : Table → Draft → Type 0) (Q : Table → List Trace → Type 0) → ((t : Table) → IsKept t (P t) (Q t)) → (end n : ℕ) (text : List ℕ) → GoodSet Q (set_with_table end n text)
table_good P Q k end n text = then_table Q (table_read (table_at n (front until.Section text))) (λ t. set_over t end (n + lines_before (stops until.Section) text) (back until.Section text)) (λ t. over_good P Q k t end (n + lines_before (stops until.Section) text) (back until.Section text))

opened_good : (P : Table → Draft → Type 0) (Q : Table → List Trace → Type 0) → ((t : Table) → IsKept t (P t) (Q t)) → (end n : ℕ) (text : List ℕ) (ls : List (List ℕ)) → GoodSet Q (set_opened end n text ls)
opened_good P Q k end n text [] = over_good P Q k rows.nothing end n text
opened_good P Q k end n text (l ∷ ls) =
    elim (is_alone (codes "%table") (words l)) as (λ b. GoodSet Q (cond b (set_with_table end (n + 1) (drop (length l + 1) text)) (set_over rows.nothing end n text))) [
      | true ↦ table_good P Q k end (n + 1) (drop (length l + 1) text)
      | false ↦ over_good P Q k rows.nothing end n text
    ]

with_place : (Q : Table → List Trace → Type 0) (r : Result TraceSet TextFault) (place : ℕ) (x : TraceSet × ℕ) → GoodSet Q r → ok_then r (λ set. Ok (set, place)) ≡ Ok x → Q x.0.table x.0.traces
with_place Q (Err e) place x h is = absurd cc
with_place Q (Ok set) place x h is =
    let pick : Result (TraceSet × ℕ) TextFault → TraceSet = λ r. elim r [ Ok y ↦ y.0 | Err e ↦ set ] in
    subst (λ (s : TraceSet). Q s.table s.traces) (ap pick is) h

pub set_keeps : (P : Table → Draft → Type 0) (Q : Table → List Trace → Type 0) → ((t : Table) → IsKept t (P t) (Q t)) → (text : List ℕ) (x : TraceSet × ℕ) → set_at text ≡ Ok x → Q x.0.table x.0.traces
unfolding set_at
set_keeps P Q k text x e =
    let part : List ℕ = front until.Session text in
    let said : List ℕ = back until.Said part in
    with_place Q (set_of (1 + lines_before (stops until.Session) text) part) (place_of (stops until.Session) text) x (opened_good P Q k (1 + lines_before (stops until.Session) text) (1 + lines_before (stops until.Said) part) said (lines said)) e
