-- What an attachment does to an image: slots behind the old ones, other displacements at the copies of one guard, new rows.
use Rattle.std.specs.Prelude.{◌≡◌, ◌≢◌, ℕ, ◌+◌, ◌^◌, ◌<◌, ◌⊎◌, true, false, List, [], ◌∷◌, ◌++◌, length, Some, None}
use Rattle.std.specs.List.{Contains}
use Rattle.asm_select.specs.Slots.{Slot, HaveRows, sizes_of, size_of}
use Rattle.trace_ops.specs.declared.piece.PieceId.{PieceId}
use Rattle.trace_ops.specs.declared.piece.OptOp.{OptOp}
use Rattle.image_runs.specs.Bridges.{attached_bridge}
use Rattle.guard_exit.specs.declared.row.ExitRow.{ExitRow}
use Rattle.image_runs.specs.Counted.{IsGuards}
use Rattle.image_runs.specs.Reached.{IsJumpOf}
use Rattle.image_runs.specs.Selection.{Guarded, Finishing, Model, Placed, exit_of}
use Rattle.image_runs.specs.Image.{Image, code_in, GuardLeads, IsPlaced, IsClosed, RowOf, JumpAt, disp_in}
use Rattle.trace_ops.specs.declared.piece.Piece.{Piece}
use Rattle.image_runs.specs.Attached.{widened, AreKept, Grown}
use Rattle.opt_meaning.specs.Pieces.{ops_at, bridge_piece}
use Rattle.trace_meaning.specs.Cuts.{is_bridge_of}

-- the key of an operation of a piece in the code
pub record IsKey (m : Model) (g : Image) (e : ℕ) : Type 0 where
  pub pl : Placed
  pub there : Contains g.placed pl
  pub done : List OptOp
  pub op : OptOp
  pub rest : List OptOp
  pub ops : ops_at m.pieces pl.id ≡ done ++ op ∷ rest
  pub key : e ≡ pl.key + length done

-- all that an image says of a key but its displacement is as it was
pub record SameKey (g h : Image) (e : ℕ) : Type 0 where
  pub exit : h.exit e ≡ g.exit e
  pub owner : h.owner e ≡ g.owner e
  pub number : h.number e ≡ g.number e
  pub stub : h.stub e ≡ g.stub e
  pub leap : h.leap e ≡ g.leap e

-- the rows of the appended slots
pub record RowsMore (g h : Image) (more : List Slot) (rows news : List ExitRow) : Type 0 where
  pub each : (row : ExitRow) → Contains news row → IsGuards row → (e n : ℕ) × (x : JumpAt h e) × (row.at ≡ sizes_of x.front + disp_in x.slot) × (h.exit e ≡ Guarded n)
  pub guards : (e n : ℕ) (front behind : List Slot) (x : Slot) → more ≡ front ++ x ∷ behind → IsJumpOf x e → h.exit e ≡ Guarded n
      → (row : ExitRow) × (row.at ≡ sizes_of g.slots + sizes_of front + disp_in x) × RowOf h news e (Some n) row
  pub finishes : (e : ℕ) (front behind : List Slot) (x : Slot) → more ≡ front ++ x ∷ behind → IsJumpOf x e → h.exit e ≡ Finishing → (row : ExitRow) × RowOf h news e None row
  pub one : (a b : ExitRow) → Contains news a → Contains news b → a.exit ≡ b.exit → a ≡ b
  pub apart : (a b : ExitRow) → Contains rows a → Contains news b → a.exit ≢ b.exit

-- Pieces of one more bridge are appended, and each copy of its guard leads to them.
pub record Attaches (m : Model) (p : List Piece) (g h : Image) (bs : List ℕ) (bridge : ℕ) (rows news : List ExitRow) : Type 0 where
  pub kept : AreKept m p g bs
  pub grown : Grown g h
  pub have : HaveRows h.by h.slots
  pub small : length (code_in h) < 2 ^ 32
  pub common : h.common ≡ g.common
  pub keys : (e : ℕ) → IsKey m g e → SameKey g h e
  -- each jump is that of an operation of a piece, and no appended one has an old key
  pub owned : (e : ℕ) → JumpAt g e → IsKey m g e
  pub away : (e : ℕ) (front behind : List Slot) (x : Slot) → grown.more ≡ front ++ x ∷ behind → IsJumpOf x e → IsKey m g e → ⊥
  -- displacements change at the copies of the bridge's guard alone, of which none was attached
  pub by : (e : ℕ) → IsKey m g e → ((n : ℕ) → g.exit e ≡ Guarded n → is_bridge_of m.set.traces (g.owner e).trace n bridge ≡ false) → h.by e ≡ g.by e
  pub free : (q : PieceId) (n : ℕ) → is_bridge_of m.set.traces q.trace n bridge ≡ true → attached_bridge m.set.traces bs q.trace n ≡ None
  -- each copy leads to the bridge's piece of the same half
  pub copies : (pl : Placed) → Contains g.placed pl → (done rest : List OptOp) (op : OptOp) (n : ℕ) (front behind : List Slot) (x : Slot) → ops_at m.pieces pl.id ≡ done ++ op ∷ rest → exit_of op ≡ Guarded n
      → is_bridge_of m.set.traces pl.id.trace n bridge ≡ true → g.slots ≡ front ++ x ∷ behind → IsJumpOf x (pl.key + length done)
      → GuardLeads (widened m p) h pl (length done) n (0x40000000 + (sizes_of front + size_of x)) (bridge_piece p pl.id.half bridge)
  pub pieces : (pl : Placed) → Contains h.placed pl → Contains g.placed pl ⊎ IsPlaced (widened m p) h (bs ++ bridge ∷ []) pl
  pub closed : IsClosed (widened m p) h (bs ++ bridge ∷ [])
  pub rows_more : RowsMore g h grown.more rows news
