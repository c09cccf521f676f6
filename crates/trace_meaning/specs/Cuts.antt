-- Bridges of guards, and which failures see one.
use Rattle.std.specs.Prelude.{ℕ, ◌≤◌, ◌==◌, Bool, false, ◌&&◌, if◌then◌else◌, List, [], ◌∷◌, Option, Some, None, slice_get, nat_le}
use Rattle.std.specs.List.{Contains}
use Rattle.trace_ops.specs.declared.trace.Origin.{Origin}
use Rattle.trace_ops.specs.declared.trace.Origin.TheVariants.{Loop, Bridge}
use Rattle.trace_ops.specs.declared.trace.Trace.{Trace}
use Rattle.trace_ops.specs.Weights.{place_of}

-- the accepted attachments: each bridge, and how many guards had failed by then
abbrev pub Cuts : Type 0
Cuts = List (ℕ × ℕ)

-- failure k, counted from 0, sees a bridge: it was attached when at most k guards had failed
abbrev pub Sees : Cuts → ℕ → ℕ → Type 0
Sees cuts k bridge = (c : ℕ) × Contains cuts (bridge, c) × (c ≤ k)

abbrev pub is_at : ℕ → Option ℕ → Bool
is_at p None = false
is_at p (Some q) = q == p

abbrev pub leaves_from : List Trace → ℕ → ℕ → Origin → Bool
leaves_from traces p n Loop = false
leaves_from traces p n (Bridge parent guard) = (guard == n) && is_at p (place_of parent traces)

abbrev pub trace_leaves_from : List Trace → ℕ → ℕ → Option Trace → Bool
trace_leaves_from traces p n None = false
trace_leaves_from traces p n (Some t) = leaves_from traces p n t.origin

-- whether trace b is a bridge from guard n of trace p; a name means the first trace of that name
abbrev pub is_bridge_of : List Trace → ℕ → ℕ → ℕ → Bool
is_bridge_of traces p n b = trace_leaves_from traces p n (slice_get traces b)

-- the bridge of guard n of trace p that failure k sees, if it sees one
abbrev pub seen_bridge : List Trace → Cuts → ℕ → ℕ → ℕ → Option ℕ
seen_bridge traces [] p n k = None
seen_bridge traces (cut ∷ cuts) p n k = if is_bridge_of traces p n cut.0 && nat_le cut.1 k then Some cut.0 else seen_bridge traces cuts p n k
