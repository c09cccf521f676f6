-- Well-formed sets: each rule at each trace and at each operation.
use Rattle.std.specs.Prelude.{◌≡◌, ℕ, ◌<◌, Some, length, slice_get}
use Rattle.trace_ops.specs.declared.trace.Op.{Op}
use Rattle.trace_ops.specs.declared.trace.Trace.{Trace}
use Rattle.trace_ops.specs.declared.trace.TraceSet.{TraceSet}
use Rattle.trace_ops.specs.Rules.{HasDistinctInputs, GivesNewBox, UsesKnownBoxes, TakesItsArguments, GivesItsKind, CitesItsDescr, IsBesideItsGuard, HasItsFrames, IsEndOnlyAtEnd, JumpsToItsLoop, HasItsParent, ReceivesItsSlots, IsOrdered}

-- it holds of each trace at its place
abbrev pub OfTraces : TraceSet → (ℕ → Trace → Type 0) → Type 0
OfTraces set P = (i : ℕ) (t : Trace) → slice_get set.traces i ≡ Some t → P i t

-- it holds of each operation at its place of each trace
abbrev pub OfOperations : TraceSet → (ℕ → Trace → ℕ → Op → Type 0) → Type 0
OfOperations set P = OfTraces set (λ i t. (k : ℕ) (op : Op) → slice_get t.ops k ≡ Some op → P i t k op)

-- a label repeats the inputs: a trace of a set has no other
pub record IsWellFormed (set : TraceSet) : Type 0 where
  pub inputs_distinct : OfTraces set (λ i t. HasDistinctInputs t)
  pub results_new : OfOperations set (λ i t k op. GivesNewBox t k op)
  pub boxes_known : OfOperations set (λ i t k op. UsesKnownBoxes t k op)
  pub arguments_fit : OfOperations set (λ i t k op. TakesItsArguments set.table op)
  pub results_fit : OfOperations set (λ i t k op. GivesItsKind op)
  pub descrs_fit : OfOperations set (λ i t k op. CitesItsDescr set.table op)
  pub overflow_is_guarded : OfOperations set (λ i t k op. IsBesideItsGuard t k op)
  pub guards_have_frames : OfOperations set (λ i t k op. HasItsFrames op)
  pub has_operations : OfTraces set (λ i t. 0 < length t.ops)
  pub ends_at_end : OfOperations set (λ i t k op. IsEndOnlyAtEnd t k op)
  pub jumps_fit : OfOperations set (λ i t k op. JumpsToItsLoop set i op)
  pub parents_there : OfTraces set (λ i t. HasItsParent set t)
  pub inputs_fit : OfTraces set (λ i t. ReceivesItsSlots set i t)
  pub ordered : OfTraces set (λ i t. IsOrdered set i t)
