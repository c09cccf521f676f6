-- When a piece is left as its trace is left.
use Rattle.std.specs.Prelude.{◌≡◌, ℕ, ◌≤◌, List, Some, length}
use Rattle.trace_ops.specs.declared.trace.BoxId.{BoxId}
use Rattle.trace_ops.specs.declared.trace.TraceSet.{TraceSet}
use Rattle.trace_ops.specs.declared.table.Table.{Table}
use Rattle.trace_ops.specs.declared.piece.Piece.{Piece}
use Rattle.trace_ops.specs.declared.piece.Entry.{Entry}
use Rattle.trace_ops.specs.Lawful.{AreDistinct}
use Rattle.trace_meaning.specs.declared.value.Value.{Value}
use Rattle.trace_meaning.specs.World.{World, bytes_in}
use Rattle.trace_meaning.specs.Legs.{Leave, Fails, Jumps, Finishes, Waits, Misfits, Wrong, drive}
use Rattle.trace_meaning.specs.Observed.{world_left}
use Rattle.trace_meaning.specs.Recorded.{ops_at, begin_at, recorded_step}
use Rattle.opt_meaning.specs.Step.{opt_step, opt_begin}
use Rattle.opt_meaning.specs.Along.{SameCalls, BeginsCalls}
use Rattle.opt_meaning.specs.Admits.{Admits, plain_entry, entry_for}
use Rattle.trace_meaning.specs.Sound.{CanBegin}

-- failures aren't counted yet on either side; a trace that goes wrong has had calls with which the piece's begin
abbrev pub SameLeave : Table → List (ℕ × Entry) → Entry → Leave → Leave → Type 0
SameLeave t guards at_end (Wrong w) l = BeginsCalls (length t.prebuilts) w.log (world_left l).log
SameLeave t guards at_end (Fails n vs w) (Fails m us u) = (n ≡ m) × (e : Entry) × (entry_for guards n ≡ Some e) × Admits t e vs w us u
SameLeave t guards at_end (Jumps vs w) (Jumps us u) = Admits t at_end vs w us u
SameLeave t guards at_end (Finishes vs w) (Finishes us u) = (bs : List BoxId) × AreDistinct bs × Admits t (plain_entry bs) vs w us u
SameLeave t guards at_end (Waits w) (Waits u) = SameCalls (length t.prebuilts) w.log u.log × (bytes_in t u ≤ bytes_in t w)
SameLeave t guards at_end (Misfits w) (Misfits u) = SameCalls (length t.prebuilts) w.log u.log × (bytes_in t u ≤ bytes_in t w)
SameLeave t guards at_end _ _ = ⊥

-- from each pair that the entry admits, where a recorded run can stand so, the piece is left as its trace is
pub record Simulates (set : TraceSet) (trace : ℕ) (entry : Entry) (piece : Piece) (guards : List (ℕ × Entry)) (at_end : Entry) : Type 0 where
  pub leaves : (vs : List Value) (w : World) (us : List Value) (u : World) → CanBegin set trace vs w → Admits set.table entry vs w us u
      → SameLeave set.table guards at_end (drive (recorded_step set.table) (λ s. s.world) (ops_at set trace) (begin_at set trace vs w)) (drive (opt_step set.table) (λ s. s.world) piece.ops (opt_begin piece.label us u))
