-- The bridges of a set, and which of them may be attached.
use Rattle.std.specs.Prelude.{◌≡◌, ℕ, ◌==◌, ◌&&◌, Bool, true, false, List, [], ◌∷◌, Option, Some, None, slice_get, option_and_then, if◌then◌else◌}
use Rattle.std.specs.Option.{option_map}
use Rattle.std.specs.List.{Contains}
use Rattle.trace_ops.specs.declared.trace.Origin.{Origin}
use Rattle.trace_ops.specs.declared.trace.Origin.TheVariants.{Loop, Bridge}
use Rattle.trace_ops.specs.declared.trace.Trace.{Trace}
use Rattle.trace_ops.specs.declared.trace.TraceSet.{TraceSet}
use Rattle.trace_ops.specs.Weights.{place_of}
use Rattle.trace_meaning.specs.Cuts.{is_bridge_of}
use Rattle.bridge_patch.specs.declared.bridged.Refusal.{Refusal}
use Rattle.bridge_patch.specs.declared.bridged.Refusal.TheVariants.{Already, NoParent}

-- the trace at this place is a bridge
abbrev pub leaves : Origin → Bool
leaves Loop = false
leaves (Bridge parent guard) = true

abbrev pub is_bridging : Option Trace → Bool
is_bridging None = false
is_bridging (Some t) = leaves t.origin

abbrev pub IsBridge : TraceSet → ℕ → Type 0
IsBridge set b = is_bridging (slice_get set.traces b) ≡ true

-- the trace and the guard from which a bridge comes
abbrev pub from_origin : List Trace → Origin → Option (ℕ × ℕ)
from_origin traces Loop = None
from_origin traces (Bridge parent guard) = option_map (λ (p : ℕ). (p, guard)) (place_of parent traces)

abbrev pub source_of : List Trace → ℕ → Option (ℕ × ℕ)
source_of traces b = option_and_then (λ (t : Trace). from_origin traces t.origin) (slice_get traces b)

-- a guard of trace p, if it is one, is that of this trace and number
abbrev pub comes_from : Option (ℕ × ℕ) → ℕ → Option ℕ → Bool
comes_from (Some source) p (Some n) = (source.1 == n) && (source.0 == p)
comes_from _ p guard = false

-- a bridge comes from a bridge that isn't one of these
pub record LacksParent (set : TraceSet) (bs : List ℕ) (b : ℕ) : Type 0 where
  pub parent : ℕ
  pub guard : ℕ
  pub from : is_bridge_of set.traces parent guard b ≡ true
  pub bridge : IsBridge set parent
  pub away : ¬ Contains bs parent

-- why a bridge is refused
abbrev pub IsRefused : TraceSet → List ℕ → ℕ → Refusal → Type 0
IsRefused set bs b (Already c) = (c ≡ b) × Contains bs b
IsRefused set bs b (NoParent c) = (c ≡ b) × (¬ Contains bs b) × LacksParent set bs b

-- of these bridges, the first one of guard n of trace p
abbrev pub bridge_on : List Trace → List ℕ → ℕ → ℕ → Option ℕ
bridge_on traces [] p n = None
bridge_on traces (b ∷ bs) p n = if is_bridge_of traces p n b then Some b else bridge_on traces bs p n

-- whether a guard of trace p, if it is one, is that from which a bridge comes
abbrev pub is_from : List Trace → ℕ → ℕ → Option ℕ → Bool
is_from traces b p None = false
is_from traces b p (Some n) = is_bridge_of traces p n b
