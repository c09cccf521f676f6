-- A runner at the start of a loop.
use Rattle.std.proofs.Common.{◌≡◌, ℕ, ◌≤◌, Option, Some, None, List, length, refl, sym, subst, arith, slice_get}
use Rattle.std.specs.List.{All}
use Rattle.std.proofs.lemmas.Option.{slice_get_within, get_or_from_slice_get}
use Rattle.trace_ops.specs.declared.trace.Trace.{Trace}
use Rattle.trace_ops.specs.declared.trace.TraceSet.{TraceSet}
use Rattle.trace_ops.specs.InRange.{IsInRange}
use Rattle.trace_meaning.specs.declared.cursor.Cursor.{Cursor}
use Rattle.trace_meaning.specs.declared.state.RecState.{RecState}
use Rattle.trace_meaning.specs.declared.state.RecState.TheVariants as state
use Rattle.trace_meaning.specs.Starting.{IsSmall}
use Rattle.trace_meaning.specs.Kept.{IsOf}
use Rattle.trace_meaning.specs.Recorded.{ops_of, ops_at}
use Rattle.trace_meaning.specs.Observed.{state_of}
use Rattle.trace_meaning.specs.Standing.{IsStanding, standing, rest_of, rec_of}

short_at : (traces : List Trace) (p : ℕ) (x : Option Trace) → slice_get traces p ≡ x → All (λ (t : Trace). length t.ops ≤ 8192) traces → length (ops_of x) ≤ 8192
short_at traces p None h all = omega arith
short_at traces p (Some t) h all =
    let P : Trace → Type 0 = λ x. length x.ops ≤ 8192 in
    subst P (get_or_from_slice_get traces p t t h) (all p t (slice_get_within traces p t h))

pub standing-begun : (set copy : TraceSet) (c : Cursor) → IsSmall set → copy ≡ set → IsOf copy.table c.world → c.state ≡ state.Going → c.at ≡ 0 → c.guards ≡ 0 → IsStanding copy c
standing-begun set copy c h same of going at guards = record {
  table = of;
  few = let P : TraceSet → Type 0 = λ s. length s.traces ≤ 256 in subst P (sym same) h.few;
  short = λ p. let P : TraceSet → Type 0 = λ s. length (ops_at s p) ≤ 8192 in subst P (sym same) (short_at set.traces p (slice_get set.traces p) refl h.short);
  within = omega arith;
  guards = omega arith;
  shown = let P : RecState → Type 0 = λ s. s ≡ state_of copy (standing s c.trace (rest_of copy c) (rec_of c) c.left.items) in subst P (sym going) refl;
}

pub small-in_range : (set : TraceSet) → IsInRange set → IsSmall set
small-in_range set h = record { few = h.few_traces; short = λ i d within. (h.traces_within i d within).operations }
