-- An attachment: pieces are added, slots are appended, displacements change, and cuts grow by one.
use Rattle.std.specs.Prelude.{◌≡◌, ℕ, List, ◌++◌}
use Rattle.std.specs.List.{Contains}
use Rattle.lists.specs.Has.{Has}
use Rattle.trace_ops.specs.declared.piece.Piece.{Piece}
use Rattle.trace_ops.specs.declared.piece.Half.{Half}
use Rattle.opt_meaning.specs.Pieces.{piece_at, bridge_piece}
use Rattle.asm_select.specs.Slots.{Slot}
use Rattle.image_runs.specs.Selection.{Model, Placed}
use Rattle.image_runs.specs.Image.{Image, JumpAt}

-- with the pieces of one more bridge
abbrev pub widened : Model → List Piece → Model
widened m ps = record m { pieces = ps }

-- the pieces in the code stay as they are, and so do those of the bridges that are attached
pub record AreKept (m : Model) (ps : List Piece) (g : Image) (bs : List ℕ) : Type 0 where
  pub placed : (pl : Placed) → Contains g.placed pl → piece_at ps pl.id ≡ piece_at m.pieces pl.id
  pub bridges : (half : Half) (b : ℕ) → Has bs b → bridge_piece ps half b ≡ bridge_piece m.pieces half b

-- slots are appended, and the old ones keep their numbers; displacements are free
pub record Grown (g h : Image) : Type 0 where
  pub more : List Slot
  pub slots : h.slots ≡ g.slots ++ more
  pub placed : (pl : Placed) → Contains g.placed pl → Contains h.placed pl
  pub numbers : (e : ℕ) → JumpAt g e → h.number e ≡ g.number e
