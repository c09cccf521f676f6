-- What a least fault says of its set.
use Rattle.std.proofs.Common.{◌≡◌, ℕ, ◌<◌, Some, sym, ap, subst, ◌∙◌, arith, inl, inr}
use Rattle.std.specs.Prelude.{slice_get}
use Rattle.std.proofs.lemmas.Bool.{cases_lt}
use Rattle.trace_ops.specs.declared.trace.Op.{Op}
use Rattle.trace_ops.specs.declared.trace.Trace.{Trace}
use Rattle.trace_ops.specs.declared.trace.TraceSet.{TraceSet}
use Rattle.trace_ops.specs.WellFormed.{IsWellFormed}
use Rattle.trace_check.specs.declared.rule.Rule.{Rule}
use Rattle.trace_check.specs.declared.rule.Rule.TheVariants as rule
use Rattle.trace_check.specs.Faults.{number_of, OpHolds, TraceHolds, Holds, IsSound, IsFirstFault, IsLeastRule, IsLeastFault}
use Rattle.trace_check.proofs.Walking.{some_same}

op_holds : (set : TraceSet) (i : ℕ) (t : Trace) (k : ℕ) (op : Op) → IsWellFormed set → slice_get set.traces i ≡ Some t → slice_get t.ops k ≡ Some op → (r : Rule) → OpHolds set i t k op r
op_holds set i t k op w at here rule.DistinctInputs = tt
op_holds set i t k op w at here rule.NewResult = w.results_new i t at k op here
op_holds set i t k op w at here rule.KnownBoxes = w.boxes_known i t at k op here
op_holds set i t k op w at here rule.Arguments = w.arguments_fit i t at k op here
op_holds set i t k op w at here rule.ResultKind = w.results_fit i t at k op here
op_holds set i t k op w at here rule.DescrClass = w.descrs_fit i t at k op here
op_holds set i t k op w at here rule.OverflowGuards = w.overflow_is_guarded i t at k op here
op_holds set i t k op w at here rule.Frames = w.guards_have_frames i t at k op here
op_holds set i t k op w at here rule.End = w.ends_at_end i t at k op here
op_holds set i t k op w at here rule.Label = tt
op_holds set i t k op w at here rule.JumpTarget = w.jumps_fit i t at k op here
op_holds set i t k op w at here rule.Parent = tt
op_holds set i t k op w at here rule.BridgeInputs = tt
op_holds set i t k op w at here rule.Order = tt

trace_holds : (set : TraceSet) (i : ℕ) (t : Trace) → IsWellFormed set → slice_get set.traces i ≡ Some t → (r : Rule) → TraceHolds set i t r
trace_holds set i t w at rule.DistinctInputs = w.inputs_distinct i t at
trace_holds set i t w at rule.NewResult = tt
trace_holds set i t w at rule.KnownBoxes = tt
trace_holds set i t w at rule.Arguments = tt
trace_holds set i t w at rule.ResultKind = tt
trace_holds set i t w at rule.DescrClass = tt
trace_holds set i t w at rule.OverflowGuards = tt
trace_holds set i t w at rule.Frames = tt
trace_holds set i t w at rule.End = w.has_operations i t at
trace_holds set i t w at rule.Label = tt
trace_holds set i t w at rule.JumpTarget = tt
trace_holds set i t w at rule.Parent = w.parents_there i t at
trace_holds set i t w at rule.BridgeInputs = w.inputs_fit i t at
trace_holds set i t w at rule.Order = w.ordered i t at

-- in a well-formed set every rule holds everywhere
pub all_hold : (set : TraceSet) (i : ℕ) (t : Trace) → IsWellFormed set → slice_get set.traces i ≡ Some t → IsSound set i t
all_hold set i t w at k r = ((λ op here. op_holds set i t k op w at here r), (λ e. trace_holds set i t w at r))

pub refused : (set : TraceSet) (i k n : ℕ) → IsLeastFault set i k n → IsWellFormed set → ⊥
refused set i k n (r, e, least) w = least.first.first.fails (all_hold set i least.trace w least.here k r)

-- of two least faults neither trace is before the other's
not_before : (set : TraceSet) (i k j h : ℕ) (r q : Rule) → IsLeastRule set i k r → IsLeastRule set j h q → j < i → ⊥
not_before set i k j h r q a b lt = b.first.first.fails (a.earlier j b.trace lt b.here h q)

same_place : (i j : ℕ) → (i < j → ⊥) → (j < i → ⊥) → i ≡ j
same_place i j a b = elim (cases_lt i j) [
  | inl lt ↦ absurd (a lt)
  | inr le ↦ elim (cases_lt j i) [
    | inl lt ↦ absurd (b lt)
    | inr ge ↦ omega (arith, le, ge)
  ]
]

one_op : (set : TraceSet) (i : ℕ) (t : Trace) (k h : ℕ) (r q : Rule) → IsFirstFault set i t k r → IsFirstFault set i t h q → (k ≡ h) × (number_of r ≡ number_of q)
one_op set i t k h r q a b =
    let same : k ≡ h = same_place k h (λ lt. a.first.fails (b.before k lt r)) (λ lt. b.first.fails (a.before h lt q)) in (
      same,
      same_place (number_of r) (number_of q)
          (λ lt. a.first.fails (subst (λ (n : ℕ). Holds set i t n r) (sym same) (b.first.smaller r lt)))
          (λ lt. b.first.fails (subst (λ (n : ℕ). Holds set i t n q) same (a.first.smaller q lt))),
    )

pub one_least : (set : TraceSet) (i k n j h m : ℕ) → IsLeastFault set i k n → IsLeastFault set j h m → (i ≡ j) × (k ≡ h) × (n ≡ m)
one_least set i k n j h m (r, e, a) (q, f, b) =
    let same : i ≡ j = same_place i j (λ lt. not_before set j h i k q r b a lt) (λ lt. not_before set i k j h r q a b lt) in
    let trace : a.trace ≡ b.trace = some_same a.trace b.trace (sym a.here ∙ ap (slice_get set.traces) same ∙ b.here) in
    let moved : IsFirstFault set j b.trace k r = subst (λ (t : Trace). IsFirstFault set j t k r) trace (subst (λ (p : ℕ). IsFirstFault set p a.trace k r) same a.first) in
    let rest = one_op set j b.trace k h r q moved b.first in
    (same, rest.0, sym e ∙ rest.1 ∙ f)
