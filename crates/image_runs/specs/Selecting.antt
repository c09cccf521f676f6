-- What a model is told: the set, all pieces that there may be, how the instructions of each are chosen, and the pieces in the code.
use Rattle.std.specs.Prelude.{List}
use Rattle.trace_ops.specs.declared.trace.TraceSet.{TraceSet}
use Rattle.trace_ops.specs.declared.piece.PieceId.{PieceId}
use Rattle.trace_ops.specs.declared.piece.Piece.{Piece}
use Rattle.asm_select.specs.Chosen.{Setting}

pub record Selected : Type 0 where
  pub set : TraceSet
  pub whole : List Piece
  pub settings : PieceId → Setting
  pub pieces : List Piece
