-- Chosen attachments undone: the displacements of their guards' copies as they stood before.
use Rattle.std.specs.Prelude.{◌≡◌, ℕ, ◌+◌, Bool, true, false, if◌then◌else◌, List, [], ◌∷◌, ◌++◌, length, Some}
use Rattle.std.specs.List.{Contains}
use Rattle.lists.specs.Has.{Has}
use Rattle.asm_select.specs.Slots.{Slot, Jumps, HaveRows, sizes_of, size_of}
use Rattle.trace_ops.specs.declared.piece.OptOp.{OptOp}
use Rattle.image_runs.specs.Bridges.{attached_bridge}
use Rattle.image_runs.specs.Reached.{IsJumpOf}
use Rattle.image_runs.specs.Selection.{Guarded, Model, Placed, exit_of}
use Rattle.image_runs.specs.Image.{Image, ToStub}
use Rattle.opt_meaning.specs.Pieces.{ops_at}
use Rattle.trace_meaning.specs.Cuts.{is_bridge_of}

-- the bridges whose attachments are kept
abbrev pub kept_bridges : (ℕ → Bool) → List ℕ → List ℕ
kept_bridges keeps [] = []
kept_bridges keeps (b ∷ bs) = if keeps b then b ∷ kept_bridges keeps bs else kept_bridges keeps bs

-- the image with other displacements
abbrev pub undone : Image → Jumps → Image
undone g by = record g { by = by }

-- The guards of the other bridges lead to their stubs again.
pub record Undoes (m : Model) (g : Image) (bs : List ℕ) (keeps : ℕ → Bool) (by : Jumps) : Type 0 where
  pub have : HaveRows by g.slots
  -- a guard has one bridge
  pub one : (p n b c : ℕ) → Has bs b → Has bs c → is_bridge_of m.set.traces p n b ≡ true → is_bridge_of m.set.traces p n c ≡ true → b ≡ c
  -- all displacements but those of guards whose bridge isn't kept are as they are
  pub same : (pl : Placed) → Contains g.placed pl → (done rest : List OptOp) (op : OptOp) → ops_at m.pieces pl.id ≡ done ++ op ∷ rest
      → ((n b : ℕ) → exit_of op ≡ Guarded n → attached_bridge m.set.traces bs pl.id.trace n ≡ Some b → keeps b ≡ true) → by (pl.key + length done) ≡ g.by (pl.key + length done)
  -- and these lead to their stubs
  pub stubs : (pl : Placed) → Contains g.placed pl → (done rest : List OptOp) (op : OptOp) (n b : ℕ) (front behind : List Slot) (x : Slot) → ops_at m.pieces pl.id ≡ done ++ op ∷ rest → exit_of op ≡ Guarded n
      → attached_bridge m.set.traces bs pl.id.trace n ≡ Some b → keeps b ≡ false → g.slots ≡ front ++ x ∷ behind → IsJumpOf x (pl.key + length done)
      → ToStub m (undone g by) pl (length done) (0x40000000 + (sizes_of front + size_of x))
