-- Which rules hold where, and the least that fails.
use Rattle.std.specs.Prelude.{◌≡◌, ℕ, ◌<◌, ◌≤◌, Some, length, slice_get}
use Rattle.std.specs.Option.{IsSomeAnd}
use Rattle.trace_ops.specs.declared.trace.Op.{Op}
use Rattle.trace_ops.specs.declared.trace.Trace.{Trace}
use Rattle.trace_ops.specs.declared.trace.TraceSet.{TraceSet}
use Rattle.trace_ops.specs.Rules.{HasDistinctInputs, GivesNewBox, UsesKnownBoxes, TakesItsArguments, GivesItsKind, CitesItsDescr, IsBesideItsGuard, HasItsFrames, IsEndOnlyAtEnd, JumpsToItsLoop, HasItsParent, ReceivesItsSlots, IsOrdered}
use Rattle.trace_ops.specs.InRange.{IsInRange}
use Rattle.trace_ops.specs.WellFormed.{IsWellFormed}
use Rattle.trace_ops.specs.Weights.{weight_of, capped}
use Rattle.trace_ops.specs.declared.table.What.TheVariants.{Weight}
use Rattle.trace_check.specs.declared.rule.Rule.{Rule}
use Rattle.trace_check.specs.declared.rule.Rule.TheVariants as rule
use Rattle.trace_check.specs.declared.fault.CheckFault.{CheckFault}
use Rattle.trace_check.specs.declared.fault.CheckFault.TheVariants as fault

-- the number of a rule
abbrev pub number_of : Rule → ℕ
number_of rule.DistinctInputs = 1
number_of rule.NewResult = 2
number_of rule.KnownBoxes = 3
number_of rule.Arguments = 4
number_of rule.ResultKind = 5
number_of rule.DescrClass = 6
number_of rule.OverflowGuards = 7
number_of rule.Frames = 8
number_of rule.End = 9
number_of rule.Label = 10
number_of rule.JumpTarget = 11
number_of rule.Parent = 12
number_of rule.BridgeInputs = 13
number_of rule.Order = 14

-- of the operation at this place, if there is one
abbrev pub AtOp : Trace → ℕ → (Op → Type 0) → Type 0
AtOp t k P = (op : Op) → slice_get t.ops k ≡ Some op → P op

-- of the trace, at operation 0
abbrev pub AtFirst : ℕ → Type 0 → Type 0
AtFirst k P = k ≡ 0 → P

-- the rules of operations; the others say nothing of one
abbrev pub OpHolds : TraceSet → ℕ → Trace → ℕ → Op → Rule → Type 0
OpHolds set i t k op rule.NewResult = GivesNewBox t k op
OpHolds set i t k op rule.KnownBoxes = UsesKnownBoxes t k op
OpHolds set i t k op rule.Arguments = TakesItsArguments set.table op
OpHolds set i t k op rule.ResultKind = GivesItsKind op
OpHolds set i t k op rule.DescrClass = CitesItsDescr set.table op
OpHolds set i t k op rule.OverflowGuards = IsBesideItsGuard t k op
OpHolds set i t k op rule.Frames = HasItsFrames op
OpHolds set i t k op rule.End = IsEndOnlyAtEnd t k op
OpHolds set i t k op rule.JumpTarget = JumpsToItsLoop set i op
OpHolds set i t k op _ = Unit {0}

-- the rules of whole traces, judged at operation 0; one that has no operation has no end
abbrev pub TraceHolds : TraceSet → ℕ → Trace → Rule → Type 0
TraceHolds set i t rule.DistinctInputs = HasDistinctInputs t
TraceHolds set i t rule.End = 0 < length t.ops
TraceHolds set i t rule.Parent = HasItsParent set t
TraceHolds set i t rule.BridgeInputs = ReceivesItsSlots set i t
TraceHolds set i t rule.Order = IsOrdered set i t
TraceHolds set i t _ = Unit {0}

-- the rule holds at operation k of trace i; a label repeats the inputs wherever a set has one
abbrev pub Holds : TraceSet → ℕ → Trace → ℕ → Rule → Type 0
Holds set i t k r = AtOp t k (λ op. OpHolds set i t k op r) × AtFirst k (TraceHolds set i t r)

abbrev pub HoldAll : TraceSet → ℕ → Trace → ℕ → Type 0
HoldAll set i t k = (r : Rule) → Holds set i t k r

abbrev pub IsSound : TraceSet → ℕ → Trace → Type 0
IsSound set i t = (k : ℕ) → HoldAll set i t k

-- the rule fails at operation k, and those of smaller numbers hold there
pub record IsFirstRule (set : TraceSet) (i : ℕ) (t : Trace) (k : ℕ) (r : Rule) : Type 0 where
  pub fails : ¬ Holds set i t k r
  pub smaller : (q : Rule) → number_of q < number_of r → Holds set i t k q

-- no rule fails at an earlier operation
pub record IsFirstFault (set : TraceSet) (i : ℕ) (t : Trace) (k : ℕ) (r : Rule) : Type 0 where
  pub first : IsFirstRule set i t k r
  pub before : (j : ℕ) → j < k → HoldAll set i t j

-- no rule fails at an earlier trace: the least trace, operation and rule
pub record IsLeastRule (set : TraceSet) (i k : ℕ) (r : Rule) : Type 0 where
  pub trace : Trace
  pub here : slice_get set.traces i ≡ Some trace
  pub first : IsFirstFault set i trace k r
  pub earlier : (j : ℕ) (t : Trace) → j < i → slice_get set.traces j ≡ Some t → IsSound set j t

-- the same of the rule's number
abbrev pub IsLeastFault : TraceSet → ℕ → ℕ → ℕ → Type 0
IsLeastFault set i k n = (r : Rule) × (number_of r ≡ n) × IsLeastRule set i k r

-- a set that was checked
pub record IsChecked (set : TraceSet) : Type 0 where
  pub in_range : IsInRange set
  pub well_formed : IsWellFormed set
  pub light : weight_of set ≤ 131072

-- what stands behind a refusal
abbrev pub HasCause : TraceSet → CheckFault → Type 0
HasCause set (fault.IllFormed trace name op rule) = IsLeastFault set trace op rule × IsSomeAnd (slice_get set.traces trace) (λ (t : Trace). name ≡ t.name)
HasCause set (fault.Limit what count) = IsWellFormed set × (what ≡ Weight) × (131072 < weight_of set) × (count ≡ capped (weight_of set))
HasCause set fault.OutOfMemory = Unit {0}
