-- Boxes that are numbered as they are defined, and when such boxes live.
use Rattle.std.specs.Prelude.{◌≡◌, ℕ, ◌+◌, map, Some, IsTrue, length, slice_get, ◌⊎◌}
use Rattle.std.specs.List.{All, Contains, range_with_len}
use Rattle.trace_ops.specs.declared.trace.BoxId.{BoxId}
use Rattle.trace_ops.specs.declared.piece.OptOp.{OptOp}
use Rattle.trace_ops.specs.declared.piece.Piece.{Piece}
use Rattle.trace_ops.specs.Pieces.{used_by, results_of, defined_by, defined_before}
use Rattle.linear_scan.specs.Living.{start_of, end_of, uses_box, LivesAt}

-- boxes are numbered from 0 in the order in which they are defined, the label's first
abbrev pub AreNumbered : Piece → Type 0
AreNumbered piece = map (λ (b : BoxId). b.number) (defined_by piece) ≡ range_with_len 0 (length (defined_by piece))

-- each operation uses the label's boxes and the results of operations before it
abbrev pub AreDefined : Piece → Type 0
AreDefined piece = (k : ℕ) (op : OptOp) → slice_get piece.ops k ≡ Some op → All (Contains (defined_before piece k)) (used_by op)

pub record BoxesLive (piece : Piece) : Type 0 where
  -- a label box begins at operation 0
  pub label : (b : BoxId) → Contains piece.label b → start_of piece b.number ≡ 0
  -- the result of operation k begins at k + 1
  pub result : (k : ℕ) (op : OptOp) (b : BoxId) → slice_get piece.ops k ≡ Some op → Contains (results_of op) b → start_of piece b.number ≡ k + 1
  -- a box lives at each operation that uses it
  pub used : (k : ℕ) (op : OptOp) (b : BoxId) → slice_get piece.ops k ≡ Some op → Contains (used_by op) b → LivesAt piece b.number k
  -- it ends where it begins, or at an operation that uses it
  pub last : (b : ℕ) → (end_of piece b ≡ start_of piece b) ⊎ ((op : OptOp) × (slice_get piece.ops (end_of piece b) ≡ Some op) × IsTrue (uses_box b op))
