-- The value that a call is given, by the words that it passes.
use Rattle.std.proofs.Common.{◌≡◌, ℕ, ◌+◌, ℤ, pos, List, Option, refl, ap, ◌∙◌}
use Rattle.trace_ops.specs.declared.table.Table.{Table}
use Rattle.trace_ops.specs.declared.table.CallRow.{CallRow}
use Rattle.trace_ops.specs.declared.trace.Kind.{Kind}
use Rattle.target_base.specs.Arena.{Arena}
use Rattle.trace_meaning.specs.declared.value.Value.{Value}
use Rattle.trace_meaning.specs.declared.call.Give.{Give}
use Rattle.trace_meaning.specs.Values.{references}
use Rattle.asm_select.specs.Answering.{reference_words}
use Rattle.x64_machine.specs.State.{State}
use Rattle.session_host.specs.Answering.{values_of, given_in, passed_to}
use Rattle.run_session.specs.Answers.{six_words, values_by, given_by}
use Rattle.run_session.proofs.CallsPassed.{Numbers, given_by-reference_words}
use Rattle.run_session.proofs.CallsAnswered.{Given}
use Rattle.run_session.proofs.CallsShown.{values_passed}

pub given_passed : (t table : Table) (found : List ℕ) (f : ℕ) (row : CallRow) (s : State) (after arena : Arena) (ks : List Kind) (ws refs : List ℤ) (fresh : ℤ) (g : Give) (x : Option Value)
    → Numbers t s.arena found → ks ≡ row.args → ws ≡ six_words s → refs ≡ reference_words ks ws → table ≡ t → arena ≡ after → fresh ≡ pos (0x10000000 + s.arena.taken)
    → x ≡ given_by table arena found refs fresh g → Given t (passed_to f row s) s after g x
given_passed t table found f row s after arena ks ws refs fresh g x same ek ew er et ea ef e =
    let p = passed_to f row s in
    let vals = values_passed t found f row s ks ws (values_by found ks ws) same ek ew refl in
    e ∙ ap (λ (y : Table). given_by y arena found refs fresh g) et ∙ ap (λ (y : Arena). given_by t y found refs fresh g) ea ∙ ap (λ (y : List ℤ). given_by t after found y fresh g) er
    ∙ given_by-reference_words t after found ks ws fresh g ∙ ap (λ (y : List Value). given_in t after (references y) fresh g) vals
    ∙ ap (λ (y : ℤ). given_in t after (references (values_of t s.arena p)) y g) ef
