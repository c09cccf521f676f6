-- What the rows of a guard hold, the kinds of boxes being those of a list of boxes and their places.
use Rattle.std.specs.Prelude.{◌≡◌, ℕ, ◌-◌, ◌/◌, ◌%◌, ◌==◌, ℤ, pos, negsuc, nat_lt, if◌then◌else◌, List, [], ◌∷◌, Option, Some, None, map, reverse, slice_get}
use Rattle.std.specs.List.{AllZip}
use Rattle.trace_ops.specs.declared.trace.BoxId.{BoxId}
use Rattle.trace_ops.specs.declared.trace.Arg.{Arg}
use Rattle.trace_ops.specs.declared.trace.Arg.TheVariants.{Of, Const, Null}
use Rattle.trace_ops.specs.declared.piece.Val.{Val}
use Rattle.trace_ops.specs.declared.piece.Val.TheVariants.{Known, Virtual}
use Rattle.trace_ops.specs.declared.piece.OptFrame.{OptFrame}
use Rattle.trace_ops.specs.declared.piece.Shape.{Shape}
use Rattle.trace_ops.specs.declared.piece.Pending.{Pending}
use Rattle.trace_ops.specs.declared.piece.Snapshot.{Snapshot}
use Rattle.target_base.specs.declared.place.Place.{Place}
use Rattle.resume_numbering.specs.declared.rows.FrameRow.{FrameRow}
use Rattle.resume_numbering.specs.declared.rows.VirtualRow.{VirtualRow}
use Rattle.resume_numbering.specs.declared.rows.PendingRow.{PendingRow}
use Rattle.resume_numbering.specs.declared.rows.GuardRow.{GuardRow}
use Rattle.resume_numbering.specs.declared.rows.ResumeTable.{ResumeTable}
use Rattle.resume_numbering.specs.Lawful.{IsLawful}
use Rattle.resume_numbering.specs.Reading.{IsRowOf, StandsAt}
use Rattle.resume_numbering.specs.Boxes.{AreBoxesOf, kind_among, kind_or_integer}

abbrev pub boxes_among : List (BoxId × Place) → List BoxId
boxes_among places = map (λ (p : BoxId × Place). p.0) places

-- the integer with this index modulo 2^30
abbrev pub small_integer : ℕ → ℤ
small_integer x = if nat_lt x 536870912 then pos x else negsuc (1073741823 - x)

abbrev pub or_null : Option Arg → Arg
or_null None = Null
or_null (Some a) = a

abbrev pub placed_box : List BoxId → ℕ → BoxId
placed_box boxes n = record { kind = kind_or_integer (kind_among boxes n); number = n }

abbrev pub tagged_value : List Arg → List BoxId → ℕ → ℕ → Val
tagged_value consts boxes x tag =
    if tag == 0 then Known (Of (placed_box boxes x)) else if tag == 1 then Known (Const (small_integer x)) else if tag == 2 then Known (or_null (slice_get consts x)) else Virtual x

-- the value of a tagged number
abbrev pub placed_value : List Arg → List BoxId → ℕ → Val
placed_value consts boxes t = tagged_value consts boxes (t / 4) (t % 4)

-- the frame of a row
abbrev pub placed_frame : List Arg → List BoxId → FrameRow → OptFrame
placed_frame consts boxes row = record { name = row.name; pc = row.pc; slots = map (placed_value consts boxes) row.slots }

-- these are the frames from a row on by parents, the innermost first
abbrev pub FramesPlaced : List Arg → List BoxId → List FrameRow → Option ℕ → List OptFrame → Type 0
FramesPlaced consts boxes rows at [] = at ≡ None
FramesPlaced consts boxes rows at (f ∷ fs) = (k : ℕ) × (row : FrameRow) × (at ≡ Some k) × (slice_get rows k ≡ Some row) × (f ≡ placed_frame consts boxes row) × FramesPlaced consts boxes rows row.parent fs

-- the virtual object of a row
abbrev pub placed_shape : List Arg → List BoxId → VirtualRow → Shape
placed_shape consts boxes row = record { of = row.of; parts = map (placed_value consts boxes) row.parts }

abbrev pub ShapePlaced : List Arg → List BoxId → List VirtualRow → ℕ → Shape → Type 0
ShapePlaced consts boxes rows k s = (row : VirtualRow) × (slice_get rows k ≡ Some row) × (s ≡ placed_shape consts boxes row)

-- the pending store of a row
abbrev pub StorePlaced : List Arg → List BoxId → PendingRow → Pending → Type 0
StorePlaced consts boxes row p = (Known p.base ≡ placed_value consts boxes row.base) × (p.spot ≡ row.spot) × (p.value ≡ placed_value consts boxes row.value)

-- a guard's row holds the frames, virtual objects and pending stores of a snapshot
pub record IsPlacedBy (table : ResumeTable) (boxes : List BoxId) (row : GuardRow) (snap : Snapshot) : Type 0 where
  pub frames : FramesPlaced table.consts boxes table.frames (Some row.frame) (reverse snap.frames)
  pub shapes : AllZip (ShapePlaced table.consts boxes table.virtuals) row.virtuals snap.shapes
  pub pending : AllZip (StorePlaced table.consts boxes) row.pending snap.pending

-- where the boxes of a snapshot are among these, of which no two have one number, what the rows hold is the snapshot for which the table stands
abbrev pub RowsHoldSnapshots : Type 0
RowsHoldSnapshots =
    (table : ResumeTable) (guard : ℕ) (places : List (BoxId × Place)) (row : GuardRow) (snap : Snapshot) → IsLawful table → IsRowOf table guard row → StandsAt table guard snap → AreBoxesOf (boxes_among places) snap
    → IsPlacedBy table (boxes_among places) row snap
