-- A call of a function, by its row and its words.
use Rattle.std.proofs.Common.{◌≡◌, ℕ, ℤ, List, slice_get, Option, Some, None, refl, sym, ap, ◌∙◌, subst}
use Rattle.trace_ops.specs.declared.table.Table.{Table}
use Rattle.trace_ops.specs.declared.table.CallRow.{CallRow}
use Rattle.trace_ops.specs.declared.trace.Kind.{Kind}
use Rattle.x64_machine.specs.Words.{unsigned}
use Rattle.x64_machine.specs.State.{State}
use Rattle.image_runs.specs.Session.{Calls}
use Rattle.session_host.specs.Entries.{arg_registers, words_in, stray_in}
use Rattle.session_host.specs.Answering.{passed_to, first_of, function_by, unless_stray}
use Rattle.run_session.specs.declared.now.Now.{Now}
use Rattle.run_session.specs.declared.now.Now.TheVariants as now
use Rattle.run_session.specs.Outcomes.{CameOut}
use Rattle.run_session.specs.Answers.{six_words, stray_by}
use Rattle.run_session.proofs.CallsPassed.{Numbers, stray_in-words_in}

-- the first word that is passed as a reference and is none
abbrev pub stray_passed : Table → CallRow → State → Option ℤ
stray_passed t row s = stray_in t s.arena row.args (words_in s row.args arg_registers)

pub stray_passed-stray_by : (t : Table) (found : List ℕ) (row : CallRow) (s : State) (ks : List Kind) (ws : List ℤ) (o : Option ℤ) → Numbers t s.arena found → ks ≡ row.args → ws ≡ six_words s
    → stray_by found ks ws ≡ o → stray_passed t row s ≡ o
stray_passed-stray_by t found row s ks ws o same ek ew e =
    stray_in-words_in t s.arena found s row.args arg_registers same ∙ sym (ap (λ (x : List ℤ). stray_by found row.args x) ew) ∙ sym (ap (λ (x : List Kind). stray_by found x ws) ek) ∙ e

pub function_by-stray : (t : Table) (f : ℕ) (row : CallRow) (w : ℤ) (x : Now) (o : Option CallRow) (c : Calls) (s : State) → o ≡ Some row → stray_passed t row s ≡ Some w → x ≡ now.Wrong (unsigned w)
    → CameOut (function_by t f c s o) x c s
function_by-stray t f row w x o c s e stray told =
    subst (λ (r : Option CallRow). CameOut (function_by t f c s r) x c s) (sym e) (subst (λ (z : Option ℤ). CameOut (unless_stray t (passed_to f row s) c s z) x c s) (sym stray) (told, refl))

pub function_by-passed : (t : Table) (f : ℕ) (row : CallRow) (x : Now) (o : Option CallRow) (c d : Calls) (s u : State) → o ≡ Some row → stray_passed t row s ≡ None
    → CameOut (first_of t (passed_to f row s) c s (slice_get c.answers 0)) x d u → CameOut (function_by t f c s o) x d u
function_by-passed t f row x o c d s u e none came =
    subst (λ (r : Option CallRow). CameOut (function_by t f c s r) x d u) (sym e) (subst (λ (z : Option ℤ). CameOut (unless_stray t (passed_to f row s) c s z) x d u) (sym none) came)
