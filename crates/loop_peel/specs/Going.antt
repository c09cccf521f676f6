-- Where a piece goes on.
use Rattle.std.specs.Prelude.{ℕ, Bool, true, false, Option, Some, None}
use Rattle.trace_ops.specs.declared.facts.Part.{Part}
use Rattle.trace_ops.specs.declared.facts.Part.TheVariants as part
use Rattle.trace_ops.specs.declared.trace.Op.{Op}
use Rattle.trace_ops.specs.declared.trace.TraceSet.{TraceSet}
use Rattle.trace_ops.specs.declared.piece.Half.TheVariants as half
use Rattle.trace_ops.specs.declared.piece.PieceId.{PieceId}
use Rattle.trace_ops.specs.Facts.{part_of}
use Rattle.trace_meaning.specs.Recorded.{ops_at, last_of, jump_target}
use Rattle.opt_meaning.specs.Pieces.{preamble}

abbrev pub is_jump : Part → Bool
is_jump part.Jump = true
is_jump part.Plain = false
is_jump part.Overflowing = false
is_jump part.Guard = false
is_jump part.OverflowGuard = false
is_jump part.Finish = false

abbrev pub jumps_by : Option Op → Bool
jumps_by None = false
jumps_by (Some op) = is_jump (part_of op.code)

-- the preamble of the loop to which the trace jumps; no piece is asked for where it doesn't jump
abbrev pub goal_of : Bool → TraceSet → ℕ → PieceId
goal_of true set p = preamble (jump_target set p)
goal_of false set p = record { trace = p; half = half.Body }

abbrev pub goal_at : TraceSet → ℕ → PieceId
goal_at set p = goal_of (jumps_by (last_of (ops_at set p))) set p
