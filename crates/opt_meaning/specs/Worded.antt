-- Pieces whose integers are words, and runs of them.
use Rattle.std.specs.Prelude.{ℕ, List}
use Rattle.std.specs.List.{All}
use Rattle.trace_ops.specs.declared.trace.TraceSet.{TraceSet}
use Rattle.trace_ops.specs.declared.piece.PieceId.{PieceId}
use Rattle.trace_ops.specs.declared.piece.OptOp.{OptOp}
use Rattle.trace_ops.specs.declared.piece.Piece.{Piece}
use Rattle.trace_ops.specs.Pieces.{args_of}
use Rattle.trace_meaning.specs.Cuts.{Cuts}
use Rattle.trace_meaning.specs.Legs.{In, Over, run}
use Rattle.opt_meaning.specs.Pieces.{PiecesNow, ops_at, pieces}
use Rattle.trace_ops.specs.Constants.{ArgHasWord}
use Rattle.trace_meaning.specs.Sound.{HoldsWords}
use Rattle.trace_meaning.specs.Worded.{FieldsAreFew, BoxesHaveWords, LeaveHasWords}

abbrev pub OpHasWords : OptOp → Type 0
OpHasWords op = All ArgHasWord (args_of op)

abbrev pub NowHasWords : PiecesNow → Type 0
NowHasWords (In q rest s) = All OpHasWords rest × BoxesHaveWords s.boxes × HoldsWords s.world
NowHasWords (Over q l) = LeaveHasWords l

-- from words there come words alone
abbrev pub PiecesKeepWords : Type 0
PiecesKeepWords =
    (set : TraceSet) (ps : List Piece) (cuts : Cuts) → FieldsAreFew set.table → ((q : PieceId) → All OpHasWords (ops_at ps q))
    → (x : PiecesNow) (n : ℕ) → NowHasWords x → NowHasWords (run (pieces set ps cuts) n x)
