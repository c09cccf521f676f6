-- No leg of a well-formed set is longer than its longest trace.
use Rattle.std.proofs.Common.{◌≡◌, ℕ, zero, suc, ◌+◌, ◌≤◌, inl, inr, Option, None, List, [], ◌∷◌, length, slice_get, sym, subst, arith}
use Rattle.std.proofs.lemmas.Bool.{cases_lt}
use Rattle.std.proofs.lemmas.Option.{slice_get_past}
use Rattle.trace_ops.specs.declared.trace.Trace.{Trace}
use Rattle.trace_ops.specs.declared.trace.TraceSet.{TraceSet}
use Rattle.trace_ops.specs.WellFormed.{IsWellFormed}
use Rattle.trace_meaning.specs.declared.value.Value.{Value}
use Rattle.trace_meaning.specs.World.{World}
use Rattle.trace_meaning.specs.Cuts.{Cuts}
use Rattle.trace_meaning.specs.Recorded.{recorded, ops_of, ops_at}
use Rattle.trace_meaning.specs.RunLaws.{MakesLeg, IsShort}
use Rattle.trace_meaning.specs.Laws.{longest, most_operations}
use Rattle.trace_meaning.proofs.LegRuns.{leg-made, leg-made_within}
use Rattle.trace_meaning.proofs.Ending.{recorded-ends}

none_longer : (ts : List Trace) (p : ℕ) → length (ops_of (slice_get ts p)) ≤ longest ts
none_longer [] p = omega arith
none_longer (t ∷ ts) zero = omega arith
none_longer (t ∷ ts) (suc p) = let rest : length (ops_of (slice_get ts p)) ≤ longest ts = none_longer ts p in omega arith

module _ (set : TraceSet) (cuts : Cuts) where
  at_most : (p : ℕ) (vs : List Value) (w : World) (m n : ℕ) → m ≤ n → MakesLeg (recorded set cuts) p vs w m → MakesLeg (recorded set cuts) p vs w n
  at_most p vs w m n le h = record { count = h.count; some = h.some; few = let f : h.count ≤ m = h.few in omega arith; makes = h.makes; inside = h.inside }

  pub traces-short : (most : ℕ) → IsWellFormed set → 1 ≤ most → most_operations set ≤ most → IsShort (recorded set cuts) most
  traces-short most well some few p vs w = elim (cases_lt p (length set.traces)) [
    | inl there ↦ (let each : length (ops_at set p) ≤ most_operations set = none_longer set.traces p in at_most p vs w (length (ops_at set p)) most (omega arith) (leg-made_within (recorded set cuts) p vs w (recorded-ends set cuts p well there)))
    | inr past ↦
        let none : slice_get set.traces p ≡ None = slice_get_past set.traces p past in
        let short : length (ops_at set p) + 1 ≤ most = subst (λ (t : Option Trace). length (ops_of t) + 1 ≤ most) (sym none) some in
        at_most p vs w (length (ops_at set p) + 1) most short (leg-made (recorded set cuts) p vs w)
  ]
