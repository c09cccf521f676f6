-- The places that are handed in.
use Rattle.std.specs.Prelude.{◌≡◌, ℕ, ◌≤◌, List, length, slice_index_or}
use Rattle.std.specs.List.{AllZip}
use Rattle.trace_ops.specs.declared.trace.BoxId.{BoxId}
use Rattle.trace_ops.specs.declared.trace.Arg.{Arg}
use Rattle.trace_ops.specs.declared.piece.Piece.{Piece}
use Rattle.target_base.specs.declared.place.Place.{Place}
use Rattle.target_base.specs.declared.place.Place.TheVariants.{Word}
use Rattle.linear_scan.specs.declared.places.Places.{Places}
use Rattle.linear_scan.specs.Numbering.{AreNumbered, AreDefined}
use Rattle.linear_scan.specs.Placing.{AreDistinct, Allocated}
use Rattle.parallel_move.specs.Moving.{HasDistinctTargets}
use Rattle.asm_select.specs.Valued.{MayHold}
use Rattle.asm_select.specs.Chosen.{Where, Setting, pairs_of}
use Rattle.asm_select.specs.Reached.{AreApart}
use Rattle.asm_select.specs.Asked.{AreSafe}

-- the place of each box
abbrev pub where_in : List Place → Where
where_in places b = slice_index_or places b (Word 16)

-- The places of an allocation below the stack's words may hold boxes, and keep those apart that live together;
-- calls keep those of boxes that live across them.
abbrev pub PlacesServe : Type 0
PlacesServe =
    (piece : Piece) (registers : ℕ) (label : List Place) (places : Places)
    → AreNumbered piece → AreDefined piece → Allocated piece registers label places → places.words ≤ 1048320
    → ((b : ℕ) → MayHold (where_in places.at b)) × AreApart (where_in places.at) piece.ops × AreSafe (where_in places.at) piece.ops

-- Places that are distinct are distinct targets of moves.
abbrev pub TargetsDiffer : Type 0
TargetsDiffer = (c : Setting) (args : List Arg) → AreDistinct c.to → HasDistinctTargets (pairs_of c args c.to)

-- The boxes of a label have its places.
abbrev pub LabelsServe : Type 0
LabelsServe =
    (piece : Piece) (registers : ℕ) (label : List Place) (places : Places)
    → AreNumbered piece → Allocated piece registers label places → length label ≡ length piece.label
    → AllZip (λ (p : Place) (b : BoxId). where_in places.at b.number ≡ p) label piece.label
