-- Where the traces of a set lead under its cuts, as it is noted for look-ups.
use Rattle.std.specs.Prelude.{◌≡◌, ℕ, ◌<◌, Bool, List, [], ◌∷◌, Option, Some, None, length, slice_get, filter, nat_le, if◌then◌else◌}
use Rattle.std.specs.Map.{lookup}
use Rattle.std.specs.Option.{option_map, unwrap_or}
use Rattle.trace_ops.specs.declared.trace.Origin.{Origin}
use Rattle.trace_ops.specs.declared.trace.Origin.TheVariants.{Loop, Bridge}
use Rattle.trace_ops.specs.declared.trace.Trace.{Trace}
use Rattle.trace_ops.specs.declared.trace.TraceSet.{TraceSet}
use Rattle.trace_ops.specs.Weights.{place_of}
use Rattle.trace_meaning.specs.declared.routes.GuardPlace.{GuardPlace}
use Rattle.trace_meaning.specs.declared.routes.Routes.{Routes}
use Rattle.trace_meaning.specs.contracts.routes.GuardPlacePartialEq.TheImpl as guard
use Rattle.trace_meaning.specs.Cuts.{Cuts, is_bridge_of}
use Rattle.trace_meaning.specs.Recorded.{jump_target}

-- the guard that a trace leaves, where it is a bridge
abbrev pub place_left : List Trace → Origin → Option GuardPlace
place_left traces Loop = None
place_left traces (Bridge parent n) = option_map (λ p. record { trace = p; guard = n }) (place_of parent traces)

abbrev pub guard_left : List Trace → Option Trace → Option GuardPlace
guard_left traces None = None
guard_left traces (Some t) = place_left traces t.origin

-- the cut is one of a bridge of the guard
abbrev pub leaves : List Trace → GuardPlace → ℕ × ℕ → Bool
leaves traces g cut = is_bridge_of traces g.trace g.guard cut.0

-- guards with their cuts
abbrev pub Noted : Type 0
Noted = List (GuardPlace × Cuts)

abbrev pub or_none : Option Cuts → Cuts
or_none None = []
or_none (Some cuts) = cuts

abbrev pub same_guard : GuardPlace → GuardPlace → Bool
same_guard g h = guard.ghosts.eq g h

-- the cuts that are noted of a guard, in order
abbrev pub cuts_at : Noted → GuardPlace → Cuts
cuts_at noted g = or_none (lookup (same_guard g) noted)

-- the bridge of the first cut that failure k is late enough to see
abbrev pub first_due : Cuts → ℕ → Option ℕ
first_due [] k = None
first_due (cut ∷ cuts) k = if nat_le cut.1 k then Some cut.0 else first_due cuts k

-- the targets of the first n traces
abbrev pub AreTargets : TraceSet → ℕ → List ℕ → Type 0
AreTargets set n targets = (length targets ≡ n) × ((p : ℕ) → p < n → slice_get targets p ≡ Some (jump_target set p))

-- what is noted is so: the target of each trace, its own where none is noted, and the cuts of each guard
pub record AreRoutes (set : TraceSet) (r : Routes) : Type 0 where
  pub targets : (p : ℕ) → unwrap_or (slice_get r.targets.items p) p ≡ jump_target set p
  pub bridges : (g : GuardPlace) → cuts_at r.bridges.entries g ≡ filter (leaves set.traces g) r.cuts.items
