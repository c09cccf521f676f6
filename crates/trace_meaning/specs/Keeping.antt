-- Boxes keep their kinds inside a leg, as in a run.
use Rattle.std.specs.Prelude.{◌≡◌, ℕ, List, Some, take, slice_get}
use Rattle.trace_ops.specs.declared.trace.BoxId.{BoxId}
use Rattle.trace_ops.specs.declared.trace.Op.{Op}
use Rattle.trace_ops.specs.declared.trace.TraceSet.{TraceSet}
use Rattle.trace_ops.specs.declared.table.Table.{Table}
use Rattle.trace_ops.specs.Constants.{HasWords}
use Rattle.trace_ops.specs.InRange.{IsInRange}
use Rattle.trace_ops.specs.WellFormed.{IsWellFormed}
use Rattle.trace_meaning.specs.declared.value.Value.{Value}
use Rattle.trace_meaning.specs.Values.{kind_of_value}
use Rattle.trace_meaning.specs.World.{World}
use Rattle.trace_meaning.specs.Boxes.{Boxes, value_in, bound_to}
use Rattle.trace_meaning.specs.Legs.{On, drive_to}
use Rattle.trace_meaning.specs.Recorded.{Rec, recorded_step, inputs_of, ops_at}
use Rattle.trace_meaning.specs.Sound.{CanBegin}

abbrev pub AreOfKind : Boxes → Type 0
AreOfKind boxes = (b : BoxId) (x : Value) → value_in boxes b ≡ Some x → kind_of_value x ≡ b.kind

-- each box holds a value of its kind, as far as the operations go
abbrev pub KeepsKinds : Table → List BoxId → List Op → List Value → World → Type 0
KeepsKinds t inputs ops vs w = (n : ℕ) (r : Rec) → drive_to (recorded_step t) (take n ops) (record { boxes = bound_to inputs vs; guards = 0; world = w }) ≡ On r → AreOfKind r.boxes

abbrev pub LegsKeepKinds : TraceSet → ℕ → Type 0
LegsKeepKinds set p = (vs : List Value) (w : World) → CanBegin set p vs w → KeepsKinds set.table (inputs_of (slice_get set.traces p)) (ops_at set p) vs w

-- of lawful sets
abbrev pub LawfulLegsKeepKinds : Type 0
LawfulLegsKeepKinds = (set : TraceSet) → IsInRange set → IsWellFormed set → HasWords set → (p : ℕ) → LegsKeepKinds set p
