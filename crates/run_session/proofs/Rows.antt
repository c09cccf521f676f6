-- The piece and the operation of a row of exits, and the operations that a piece's name finds.
use Rattle.std.proofs.Common.{◌≡◌, ◌⊎◌, inl, inr, ℕ, ◌+◌, true, false, cond, List, [], ◌∷◌, Some, sym, ap, refl, ◌∙◌}
use Rattle.lists.specs.Has.{Has}
use Rattle.lists.proofs.Membership.{has_cases}
use Rattle.trace_ops.specs.declared.piece.PieceId.{PieceId}
use Rattle.trace_ops.specs.declared.piece.OptOp.{OptOp}
use Rattle.trace_ops.specs.declared.piece.Piece.{Piece}
use Rattle.guard_exit.specs.declared.row.ExitRow.{ExitRow}
use Rattle.asm_select.specs.Chosen.{Where}
use Rattle.asm_select.specs.Laid.{has_stub}
use Rattle.opt_meaning.specs.Pieces.{same_piece, piece_at, ops_of, ops_at}
use Rattle.bridge_patch.specs.Pieces.{Placed, rows_of_op, rows_from, rows_of, all_rows}
use Rattle.run_session.proofs.Served.{TellsNames, AreOnce, each_of}

-- the piece of a row
pub record PieceOf (pls : List Placed) (row : ExitRow) : Type 0 where
  pub pl : Placed
  pub there : Has pls pl
  pub has : Has (rows_of pl) row

either_piece : (pl : Placed) (pls : List Placed) (row : ExitRow) → (Has (all_rows pls) row → PieceOf pls row) → Has (rows_of pl) row ⊎ Has (all_rows pls) row → PieceOf (pl ∷ pls) row
either_piece pl pls row more (inl w) = record { pl = pl; there = inl refl; has = w }
either_piece pl pls row more (inr w) = let z = more w in record { pl = z.pl; there = inr z.there; has = z.has }

pub piece_of_row : (pls : List Placed) (row : ExitRow) → Has (all_rows pls) row → PieceOf pls row
piece_of_row [] row h = absurd h
piece_of_row (pl ∷ pls) row h = either_piece pl pls row (piece_of_row pls row) (has_cases (rows_of pl) (all_rows pls) row h)

-- the operation of a row
pub record OpOf (at : Where) (id : PieceId) (ops : List OptOp) (row : ExitRow) : Type 0 where
  pub op : OptOp
  pub exit : ℕ
  pub place : ℕ
  pub there : Has ops op
  pub has : Has (rows_of_op at id exit place op) row

either_op : (at : Where) (id : PieceId) (exit place : ℕ) (op : OptOp) (ops : List OptOp) (more : List ExitRow) (row : ExitRow) → (Has more row → OpOf at id ops row) → Has (rows_of_op at id exit place op) row ⊎ Has more row → OpOf at id (op ∷ ops) row
either_op at id exit place op ops more row rest (inl w) = record { op = op; exit = exit; place = place; there = inl refl; has = w }
either_op at id exit place op ops more row rest (inr w) = let z = rest w in record { op = z.op; exit = z.exit; place = z.place; there = inr z.there; has = z.has }

pub op_of_row : (at : Where) (id : PieceId) (place : ℕ → ℕ) (exit k : ℕ) (ops : List OptOp) (row : ExitRow) → Has (rows_from at id place exit k ops) row → OpOf at id ops row
op_of_row at id place exit k [] row h = absurd h
op_of_row at id place exit k (op ∷ ops) row h =
    let more = rows_from at id place (exit + cond (has_stub op) 1 0) (k + 1) ops in
    either_op at id exit (place k) op ops more row (op_of_row at id place (exit + cond (has_stub op) 1 0) (k + 1) ops row) (has_cases (rows_of_op at id exit (place k) op) more row h)

-- a name that stands once finds the operations of its piece
pub ops_at_once : TellsNames → (ps : List Piece) (p : Piece) → AreOnce ps → Has ps p → ops_at ps p.id ≡ p.ops
ops_at_once names [] p once h = absurd h
ops_at_once names (x ∷ ps) p once (inl e) =
    let same : same_piece p.id x.id ≡ true = (names p.id x.id).1 (ap (λ (y : Piece). y.id) (sym e)) in
    ap (λ b. ops_of (cond b (Some x) (piece_at ps p.id))) same ∙ ap (λ (y : Piece). y.ops) e
ops_at_once names (x ∷ ps) p once (inr h) =
    let other = each_of (λ (y : Piece). same_piece y.id x.id ≡ false) ps p once.0 h in
    ap (λ b. ops_of (cond b (Some x) (piece_at ps p.id))) other ∙ ops_at_once names ps p once.1 h
