-- Which bridges are attached now, whatever failures were counted.
use Rattle.std.specs.Prelude.{ℕ, List, [], ◌∷◌, Option, Some, None, option_and_then, if◌then◌else◌}
use Rattle.trace_ops.specs.declared.trace.Trace.{Trace}
use Rattle.trace_ops.specs.declared.piece.Piece.{Piece}
use Rattle.trace_ops.specs.declared.piece.PieceId.{PieceId}
use Rattle.trace_meaning.specs.Cuts.{is_bridge_of}
use Rattle.opt_meaning.specs.Pieces.{bridge_piece}

-- of these bridges, the first one of guard n of trace p
abbrev pub attached_bridge : List Trace → List ℕ → ℕ → ℕ → Option ℕ
attached_bridge traces [] p n = None
attached_bridge traces (b ∷ bs) p n = if is_bridge_of traces p n b then Some b else attached_bridge traces bs p n

-- and its piece, of the half of the piece that is left
abbrev pub attached_piece : List Trace → List Piece → List ℕ → PieceId → ℕ → Option PieceId
attached_piece traces ps bs q n = option_and_then (bridge_piece ps q.half) (attached_bridge traces bs q.trace n)
