-- What a call shows is read of the arena's objects.
use Rattle.std.proofs.Common.{◌≡◌, ℕ, zero, suc, ◌+◌, ℤ, List, [], ◌∷◌, drop, slice_get, None, refl, sym, ap, ◌∙◌}
use Rattle.std.specs.List.{flat_map}
use Rattle.std.proofs.lemmas.List.{drop-drop}
use Rattle.trace_ops.specs.declared.table.Table.{Table}
use Rattle.trace_ops.specs.declared.table.CallRow.{CallRow}
use Rattle.trace_ops.specs.declared.trace.Kind.{Kind}
use Rattle.target_base.specs.Arena.{Arena}
use Rattle.trace_meaning.specs.declared.value.Value.{Value}
use Rattle.trace_meaning.specs.Answers.{seen_of}
use Rattle.trace_meaning.specs.Values.{references}
use Rattle.arena_objects.specs.ReadBack.{objects_in}
use Rattle.asm_select.specs.Answering.{reference_words}
use Rattle.x64_machine.specs.State.{State}
use Rattle.session_host.specs.Entries.{arg_registers}
use Rattle.session_host.specs.Answering.{refs_of, values_of, passed_to}
use Rattle.run_session.specs.Answers.{six_words, stray_by, values_by, all_seen}
use Rattle.run_session.proofs.CallsPassed.{Numbers, Reading, reference_words-words_in, values_by-words_at, references-values_by, seen-reference_words}
use Rattle.run_session.proofs.CallsAnswered.{Shown}

pub refs_passed : (f : ℕ) (row : CallRow) (s : State) (ks : List Kind) (ws refs : List ℤ) → ks ≡ row.args → ws ≡ six_words s → refs ≡ reference_words ks ws → refs ≡ refs_of (passed_to f row s)
refs_passed f row s ks ws refs ek ew e =
    e ∙ ap (λ (x : List Kind). reference_words x ws) ek ∙ ap (λ (x : List ℤ). reference_words row.args x) ew ∙ sym (reference_words-words_in s row.args arg_registers)

pub values_passed : (t : Table) (found : List ℕ) (f : ℕ) (row : CallRow) (s : State) (ks : List Kind) (ws : List ℤ) (args : List Value) → Numbers t s.arena found → ks ≡ row.args → ws ≡ six_words s
    → args ≡ values_by found ks ws → args ≡ values_of t s.arena (passed_to f row s)
values_passed t found f row s ks ws args same ek ew e =
    e ∙ ap (λ (x : List Kind). values_by found x ws) ek ∙ ap (λ (x : List ℤ). values_by found row.args x) ew ∙ values_by-words_at t s.arena found s row.args arg_registers same

pub shown_by : (t : Table) (found : List ℕ) (f : ℕ) (row : CallRow) (s : State) (arena : Arena) (ks : List Kind) (ws : List ℤ) (args seen : List Value)
    → Numbers t s.arena found → Reading t s.arena found (objects_in t s.arena) → ks ≡ row.args → ws ≡ six_words s → stray_by found row.args ws ≡ None
    → args ≡ values_by found ks ws → arena ≡ s.arena → seen ≡ all_seen t arena found row.reads row.args ws → Shown t s.arena (passed_to f row s) args seen
shown_by t found f row s arena ks ws args seen same read ek ew none ea ar es =
    let objects = objects_in t s.arena in
    let vals : values_by found row.args ws ≡ values_of t s.arena (passed_to f row s) = values_passed t found f row s row.args ws (values_by found row.args ws) same refl ew refl in
    record {
      args = values_passed t found f row s ks ws args same ek ew ea;
      seen = es ∙ ap (λ (x : Arena). all_seen t x found row.reads row.args ws) ar
          ∙ sym (seen-reference_words t s.arena found row.reads objects row.args ws read none)
          ∙ ap (λ (x : List Value). flat_map (seen_of t objects row.reads) x) (sym (references-values_by found row.args ws))
          ∙ ap (λ (x : List Value). flat_map (seen_of t objects row.reads) (references x)) vals;
    }

-- the answers that are left
pub get_dropped : {X : Type 0} (xs : List X) (n : ℕ) → slice_get (drop n xs) 0 ≡ slice_get xs n
get_dropped [] zero = refl
get_dropped [] (suc n) = refl
get_dropped (x ∷ xs) zero = refl
get_dropped (x ∷ xs) (suc n) = get_dropped xs n

pub drop_one : {X : Type 0} (xs : List X) (n : ℕ) → drop (n + 1) xs ≡ drop 1 (drop n xs)
drop_one xs n = sym (drop-drop 1 n xs)
