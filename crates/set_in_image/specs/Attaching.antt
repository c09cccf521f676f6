-- The pieces of a bridge that is attached are such as the image of the others takes.
use Rattle.std.specs.Prelude.{◌≡◌, ◌≤◌, List, map}
use Rattle.std.specs.List.{All, AllByRecursion}
use Rattle.trace_ops.specs.declared.trace.TraceSet.{TraceSet}
use Rattle.trace_ops.specs.declared.piece.Piece.{Piece}
use Rattle.trace_ops.specs.InRange.{IsInRange}
use Rattle.trace_ops.specs.WellFormed.{IsWellFormed}
use Rattle.trace_ops.specs.Weights.{weight_of}
use Rattle.opt_meaning.specs.Pieces.{all_pieces}
use Rattle.opt_meaning.specs.Worded.{OpHasWords}
use Rattle.bridge_patch.specs.Pieces.{Placed}
use Rattle.bridge_patch.specs.Image.{Imaged}
use Rattle.bridge_patch.specs.Attached.{IsImageOf, CanAttach}
use Rattle.opt_set.specs.Optimised.{Optimised, IsOptimised}
use Rattle.opt_set.specs.Attaching.{IsOneMore}

-- all pieces, and no others, stand in the image, to which the same bridges are attached
pub record StandIn (set : TraceSet) (o : Optimised) (placed : List Placed) (image : Imaged) : Type 0 where
  pub pieces : map (λ (pl : Placed). pl.piece) placed ≡ all_pieces o.traces
  pub image_of : IsImageOf set placed image
  pub attached : image.attached ≡ o.attached

-- A bridge more was attached to an optimised set, whose pieces stand in an image: the bridge's pieces, where their constants are
-- words, may be attached to that image as it stands.
abbrev pub AttachedCanAttach : Type 0
AttachedCanAttach =
    (set : TraceSet) (old new : Optimised) (placed : List Placed) (image : Imaged) → IsInRange set → IsWellFormed set → weight_of set ≤ 131072
    → IsOptimised set old → IsOptimised set new → (one : IsOneMore old new) → StandIn set old placed image
    → AllByRecursion (λ (p : Piece). All OpHasWords p.ops) one.pieces.pieces
    → (c : CanAttach set image one.bridge one.pieces.pieces) × (c.placed ≡ placed)
