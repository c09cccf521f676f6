-- Where a bridge comes from, as a trace and a guard.
use Rattle.std.proofs.Common.{◌≡◌, ℕ, Bool, true, false, ◌&&◌, List, Option, Some, None, refl, nat_eq}
use Rattle.std.specs.Prelude.{slice_get, ◌==◌, option_and_then}
use Rattle.std.specs.Option.{option_map}
use Rattle.trace_ops.specs.declared.trace.Origin.{Origin}
use Rattle.trace_ops.specs.declared.trace.Origin.TheVariants.{Loop, Bridge}
use Rattle.trace_ops.specs.declared.trace.Trace.{Trace}
use Rattle.trace_ops.specs.Weights.{place_of}
use Rattle.trace_meaning.specs.Cuts.{is_at, leaves_from, trace_leaves_from}
use Rattle.bridge_patch.specs.Bridged.{is_from, from_origin, source_of, comes_from}

off : (b : Bool) → false ≡ b && false
off true = refl
off false = refl

named : (p n g : ℕ) (place : Option ℕ) → comes_from (option_map (λ (q : ℕ). (q, g)) place) p (Some n) ≡ (g == n) && is_at p place
named p n g None = off (nat_eq g n)
named p n g (Some q) = refl

by_origin : (traces : List Trace) (p n : ℕ) (o : Origin) → comes_from (from_origin traces o) p (Some n) ≡ leaves_from traces p n o
by_origin traces p n Loop = refl
by_origin traces p n (Bridge parent guard) = named p n guard (place_of parent traces)

by_trace : (traces : List Trace) (p n : ℕ) (t : Option Trace) → comes_from (option_and_then (λ (x : Trace). from_origin traces x.origin) t) p (Some n) ≡ trace_leaves_from traces p n t
by_trace traces p n None = refl
by_trace traces p n (Some t) = by_origin traces p n t.origin

no_guard : (s : Option (ℕ × ℕ)) (p : ℕ) → comes_from s p None ≡ false
no_guard None p = refl
no_guard (Some s) p = refl

pub source_is : (traces : List Trace) (b p : ℕ) (guard : Option ℕ) → comes_from (source_of traces b) p guard ≡ is_from traces b p guard
source_is traces b p None = no_guard (source_of traces b) p
source_is traces b p (Some n) = by_trace traces p n (slice_get traces b)
