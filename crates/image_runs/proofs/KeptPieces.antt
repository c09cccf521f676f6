-- What an attachment keeps of a piece that stands in the code.
use Rattle.std.proofs.Common.{◌≡◌, List, ap, Option}
use Rattle.std.specs.Prelude.{option_and_then}
use Rattle.std.specs.Option.{unwrap_or}
use Rattle.trace_ops.specs.declared.piece.Piece.{Piece}
use Rattle.trace_ops.specs.declared.piece.PieceId.{PieceId}
use Rattle.trace_meaning.specs.declared.value.Value.{Value}
use Rattle.trace_meaning.specs.World.{World}
use Rattle.opt_meaning.specs.Step.{opt_begin}
use Rattle.opt_meaning.specs.Pieces.{piece_at, ops_of, label_of, last_of, named_by, ops_at, begin_at, jump_target}

pub ops_same : (ps qs : List Piece) (i : PieceId) → piece_at ps i ≡ piece_at qs i → ops_at ps i ≡ ops_at qs i
ops_same ps qs i e = ap ops_of e

pub begin_same : (ps qs : List Piece) (i : PieceId) (vs : List Value) (w : World) → piece_at ps i ≡ piece_at qs i → begin_at ps i vs w ≡ begin_at qs i vs w
begin_same ps qs i vs w e = ap (λ (o : Option Piece). opt_begin (label_of o) vs w) e

pub target_same : (ps qs : List Piece) (i : PieceId) → piece_at ps i ≡ piece_at qs i → jump_target ps i ≡ jump_target qs i
target_same ps qs i e = ap (λ (o : Option Piece). unwrap_or (option_and_then named_by (last_of (ops_of o))) i) e
