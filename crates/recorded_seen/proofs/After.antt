-- Runs after so many operations more.
use Rattle.std.proofs.Common.{◌≡◌, ℕ, zero, suc, ◌-◌, ◌<◌, false, ap, sym, subst, arith}
use Rattle.trace_ops.specs.declared.trace.TraceSet.{TraceSet}
use Rattle.trace_meaning.specs.Cuts.{Cuts}
use Rattle.trace_meaning.specs.Legs.{In, Over, run}
use Rattle.trace_meaning.specs.Recorded.{RecordedNow, recorded}
use Rattle.trace_meaning.specs.Observed.{state_of}
use Rattle.trace_meaning.specs.Standing.{Run, stepped}
use Rattle.trace_meaning.specs.Laws.{RecordedRuns}
use Rattle.recorded_seen.specs.Sessions.{after, is_going}

pub after-stepped : (n : ℕ) (r s t : Run) → 0 < n → s ≡ stepped r → after n r ≡ t → after (n - 1) s ≡ t
after-stepped zero r s t lt e h = absurd (omega arith)
after-stepped (suc n) r s t lt e h =
    let same : n ≡ suc n - 1 = omega arith in
    subst (λ m. after m s ≡ t) same (subst (λ x. after n x ≡ t) (sym e) h)

run_stays : (runs : RecordedRuns) (set : TraceSet) (cuts : Cuts) (n : ℕ) (x : RecordedNow) → is_going (state_of set x) ≡ false → run (recorded set cuts) n x ≡ x
run_stays runs set cuts n (In p rest s) h = absurd (cc)
run_stays runs set cuts n (Over p l) h = (runs set cuts).0.ended_stays p l n

-- a run that has ended stays
pub after-ended : (runs : RecordedRuns) (n : ℕ) (r : Run) → is_going (state_of r.set r.now) ≡ false → after n r ≡ r
after-ended runs n r h = ap (λ (x : RecordedNow). record r { now = x }) (run_stays runs r.set r.cuts n r.now h)
