-- The session that attaches every bridge fits its set.
use Rattle.std.proofs.Common.{◌≡◌, refl, ℕ, zero, suc, ◌<◌, ◌≤◌, Bool, false, Option, Some, List, [], ◌∷◌, length, map, ap, sym, ◌∙◌, subst, arith}
use Rattle.std.proofs.lemmas.List.{length-map}
use Rattle.std.specs.Prelude.{Result, Ok, Err, IfOk, slice_get, slice_index_or}
use Rattle.std.specs.List.{AllByRecursion}
use Rattle.lists.proofs.Options.{some_same}
use Rattle.lists.proofs.Places.{get_some}
use Rattle.trace_ops.specs.declared.trace.Origin.{Origin}
use Rattle.trace_ops.specs.declared.trace.Origin.TheVariants.{Loop, Bridge}
use Rattle.trace_ops.specs.declared.trace.Trace.{Trace}
use Rattle.trace_ops.specs.declared.trace.TraceSet.{TraceSet}
use Rattle.session_text.specs.declared.session.Line.TheVariants as line
use Rattle.session_text.specs.declared.session.SessionText.{SessionText}
use Rattle.session_text.specs.declared.attaching.Row.{Row}
use Rattle.session_text.specs.Attaching.{is_loop, row_of, rows_of, no_row, in_turn, first_bridge, session_of_all}
use Rattle.session_text.specs.Fits.{FitsSet, IsBridgeOf, LinesFit, starts_behind}
use Rattle.session_text.proofs.Turning.{Waits, turns-each, length-turns}

bridge-of : (o : Origin) → is_loop o ≡ false → (name : List ℕ) × (guard : ℕ) × (o ≡ Bridge name guard)
bridge-of Loop h = cc
bridge-of (Bridge name guard) h = (name, guard, refl)

row-here : (f : Trace → Row) (ts : List Trace) (k : ℕ) (t : Trace) → slice_get ts k ≡ Some t → slice_index_or (map f ts) k no_row ≡ f t
row-here f [] k t h = cc
row-here f (x ∷ xs) zero t h = ap f (some_same h)
row-here f (x ∷ xs) (suc k) t h = row-here f xs k t h

-- a trace that isn't there is a bridge
bridges-wait : (set : TraceSet) → Waits (IsBridgeOf set) (rows_of set)
bridges-wait set k within h =
    let found = get_some set.traces k (subst (λ n. k < n) (length-map set.traces (row_of set.traces)) within) in
    let origin = bridge-of found.0.origin (sym (ap (λ (row : Row). row.is_there) (row-here (row_of set.traces) set.traces k found.0 found.1)) ∙ h) in
    record { of = found.0; at = found.1; parent = origin.0; guard = origin.1; is_bridge = origin.2 }

attachments-fit : (set : TraceSet) (bs : List ℕ) → AllByRecursion (IsBridgeOf set) bs → LinesFit set 0 (map line.Attach bs)
unfolding LinesFit
attachments-fit set [] all = tt
attachments-fit set (b ∷ bs) all = (all.0, attachments-fit set bs all.1)

attachments-start : (bs : List ℕ) → starts_behind 0 (map line.Attach bs) ≡ 0
unfolding starts_behind
attachments-start [] = refl
attachments-start (b ∷ bs) = attachments-start bs

pub session_of_all-fits : (set : TraceSet) → length set.traces ≤ 256 → FitsSet set (session_of_all set)
session_of_all-fits set few =
    let some : length (in_turn (length set.traces) (rows_of set)) ≤ length set.traces = length-turns (length set.traces) (rows_of set) (first_bridge (rows_of set)) in
    let lines : length (map line.Attach (in_turn (length set.traces) (rows_of set))) ≡ length (in_turn (length set.traces) (rows_of set)) = length-map _ line.Attach in record {
      lines = attachments-fit set (in_turn (length set.traces) (rows_of set)) (turns-each (IsBridgeOf set) (length set.traces) (rows_of set) (first_bridge (rows_of set)) refl (bridges-wait set));
      names = sym (attachments-start (in_turn (length set.traces) (rows_of set)));
      are_names = tt;
      short_names = tt;
      few_lines = omega arith;
      few_starts = omega arith;
    }

pub ok-fits : {E : Type 0} (set : TraceSet) (r : Result SessionText E) → length set.traces ≤ 256 → IfOk r (λ session. session ≡ session_of_all set) → IfOk r (FitsSet set)
ok-fits set (Ok session) few h = subst (FitsSet set) (sym h) (session_of_all-fits set few)
ok-fits set (Err why) few h = tt
