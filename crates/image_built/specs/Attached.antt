-- Bridges that are attached one after another to the image of compiled loops, and what is printed of each attachment.
use Rattle.std.specs.Prelude.{◌≡◌, ℕ, ℤ, ◌+◌, ◌<◌, List, [], ◌++◌, length, map, Some, slice_get}
use Rattle.trace_ops.specs.declared.trace.TraceSet.{TraceSet}
use Rattle.trace_ops.specs.declared.piece.Piece.{Piece}
use Rattle.trace_ops.specs.declared.piece.PieceId.{PieceId}
use Rattle.trace_ops.specs.declared.piece.OptTrace.{OptTrace}
use Rattle.opt_meaning.specs.Pieces.{all_pieces}
use Rattle.asm_select.specs.Chosen.{Setting}
use Rattle.bridge_patch.specs.Pieces.{Placed}
use Rattle.bridge_patch.specs.Image.{Imaged}
use Rattle.bridge_patch.specs.Attached.{IsImageOf, CanAttach, IsChanged, IsGrown, led_on}
use Rattle.image_runs.specs.Session.{Host}
use Rattle.image_runs.specs.Selection.{Model}
use Rattle.image_runs.specs.Printed.{Patch, Part, Printed}
use Rattle.image_runs.specs.Sessions.{IsBuilt}
use Rattle.image_model.specs.Modelled.{model_of}
use Rattle.image_model.specs.Laws.{HostServes}
use Rattle.image_built.specs.Built.{image_of, settings_from}
use Rattle.image_built.specs.Laws.{Compiled, Keeps, HostStarts, IsPrinted}

-- the pieces in the code
abbrev pub pieces_in : List Placed → List Piece
pieces_in placed = map (λ (pl : Placed). pl.piece) placed

-- The image of compiled loops, and so many attachments, one after another: behind j of them stand the placed pieces `placed j`.
pub record Attached (set : TraceSet) (loops : List OptTrace) (count : ℕ) : Type 0 where
  pub image : ℕ → Imaged
  pub placed : ℕ → List Placed
  pub bridge : ℕ → ℕ
  pub pieces : ℕ → List Piece
  pub compiled : Compiled set loops (image 0)
  pub first : placed 0 ≡ compiled.made.placed
  pub stands : IsImageOf set (placed 0) (image 0)
  pub none : (image 0).attached ≡ []
  pub can : (j : ℕ) → j < count → (c : CanAttach set (image j) (bridge j) (pieces j)) × (c.placed ≡ placed j)
  pub changed : (j : ℕ) → j < count → IsChanged set (bridge j) (pieces j) (image j) (image (j + 1))
  pub grown : (j : ℕ) → j < count → IsGrown set (bridge j) (pieces j) (placed j) (image j) (image (j + 1))
  pub next : (j : ℕ) (lt : j < count) → placed (j + 1) ≡ map (led_on set.traces (bridge j) (grown j lt).news) (placed j) ++ (grown j lt).news

-- ---- what is printed

-- the patch of a displacement: its place, and where it led before and after
abbrev pub to_patch : ℕ × ℤ × ℤ → Patch
to_patch p = record { at = p.0; before = p.1; after = p.2 }

-- the part of an attachment
abbrev pub part_of : (set : TraceSet) (bridge : ℕ) (pieces : List Piece) (old new : Imaged) → IsChanged set bridge pieces old new → Part
part_of set bridge pieces old new c = record { bridge = bridge; bytes = c.appended; rows = c.rows; patches = map to_patch c.change.patches }

-- the image as it is printed: the compiled loops, and a part an attachment
pub record IsPrintedWith (set : TraceSet) (loops : List OptTrace) (count : ℕ) (z : Attached set loops count) (im : Printed) : Type 0 where
  pub loops_are : IsPrinted set (all_pieces loops) (z.image 0) im
  pub many : length im.parts ≡ count
  pub parts : (j : ℕ) (lt : j < count) → slice_get im.parts j ≡ Some (part_of set (z.bridge j) (z.pieces j) (z.image j) (z.image (j + 1)) (z.changed j lt))

-- ---- it is built

-- the settings of all pieces, of those that are attached last too
abbrev pub settings_with : (set : TraceSet) (loops : List OptTrace) (count : ℕ) → Attached set loops count → (PieceId → Setting) → PieceId → Setting
settings_with set loops count z other = settings_from 0 (z.placed count) other

-- the model of these pieces, in a whole of pieces
abbrev pub model_with : Host → (set : TraceSet) (whole : List Piece) (other : PieceId → Setting) (loops : List OptTrace) (count : ℕ) → Attached set loops count → Model
model_with host set whole other loops count z = model_of host set whole (settings_with set loops count z other) (pieces_in (z.placed 0))

-- a printed image of compiled loops with the parts of attachments is built
abbrev pub AttachedIsBuilt : Host → Type 0
AttachedIsBuilt host =
    (set : TraceSet) (whole : List Piece) (other : PieceId → Setting) (loops : List OptTrace) (count : ℕ) (z : Attached set loops count) (im : Printed)
    → HostServes host set.table → HostStarts host set → Keeps (pieces_in (z.placed count)) whole → IsPrintedWith set loops count z im
    → IsBuilt (model_with host set whole other loops count z) (λ j. pieces_in (z.placed j)) (λ j. image_of (z.placed j)) im
