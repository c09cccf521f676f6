-- How the pieces of a bridge are laid out behind an image.
use Rattle.std.specs.Prelude.{◌≡◌, ℕ, ◌+◌, ◌-◌, ◌*◌, ◌^◌, ◌<◌, ◌≤◌, ◌&&◌, Bool, true, false, not, ℤ, List, [], ◌∷◌, length, map, Option, Some, None, slice_get, nat_lt, if◌then◌else◌}
use Rattle.std.specs.List.{AllByRecursion, AllZip}
use Rattle.trace_ops.specs.declared.trace.BoxId.{BoxId}
use Rattle.trace_ops.specs.declared.trace.TraceSet.{TraceSet}
use Rattle.trace_ops.specs.declared.piece.Half.{Half}
use Rattle.trace_ops.specs.declared.piece.Half.TheVariants.{Pre, Body}
use Rattle.trace_ops.specs.declared.piece.PieceId.{PieceId}
use Rattle.trace_ops.specs.declared.piece.OptOp.{OptOp}
use Rattle.trace_ops.specs.declared.piece.OptOp.TheVariants as opt
use Rattle.trace_ops.specs.declared.piece.Piece.{Piece}
use Rattle.trace_ops.specs.Pieces.{size_of}
use Rattle.opt_meaning.specs.Pieces.{same_piece}
use Rattle.target_base.specs.declared.place.Place.{Place}
use Rattle.target_base.specs.declared.place.Place.TheVariants.{In, Word}
use Rattle.linear_scan.specs.Registers.{is_kept}
use Rattle.linear_scan.specs.Living.{is_calling, end_of as last_of}
use Rattle.linear_scan.specs.Placing.{words_used}
use Rattle.guard_exit.specs.declared.row.ExitRow.{ExitRow}
use Rattle.bridge_patch.specs.declared.image.PieceHere.{PieceHere}
use Rattle.bridge_patch.specs.declared.laying.Laid.{Laid}
use Rattle.bridge_patch.specs.Pieces.{Placed, label_at, all_bytes, AreLaid, all_rows}
use Rattle.bridge_patch.specs.Image.{Imaged, AreHere}
use Rattle.bridge_patch.specs.Planning.{CanPlan, HasEnds, IsShortFront, AllTargets, StartsBelow}
use Rattle.bridge_patch.specs.Bridged.{comes_from}
use Rattle.bridge_patch.specs.Attached.{IsStanding, entry_code, IsPatch}

-- ---- the places at a guard

abbrev pub same_half : Half → Half → Bool
same_half Pre Pre = true
same_half Body Body = true
same_half _ _ = false

-- the places of a row's boxes
abbrev pub row_places : ExitRow → List Place
row_places row = map (λ (x : BoxId × Place). x.1) row.places

-- those of the first copy of a guard in a piece of this half
abbrev pub places_by : Option (ℕ × ℕ) → Half → List ExitRow → List Place
places_by source h [] = []
places_by source h (row ∷ rows) =
    if comes_from source row.id.trace row.guard && same_half row.id.half h then row_places row else places_by source h rows

-- ---- the places of a label behind a guard

-- the first operation that is a call, or their number
abbrev pub first_call : List OptOp → ℕ
first_call [] = 0
first_call (op ∷ ops) = if is_calling op then 0 else 1 + first_call ops

-- the place at the guard, but where a call loses the register there a frame word of the register's own
abbrev pub label_place : ℕ → Bool → Place → Place
label_place base crosses (In r) = if crosses && not (is_kept r.0) then Word (base + r.0) else In r
label_place base crosses (Word k) = Word k

-- of boxes from this number on, of which each ends at an operation
abbrev pub labels_from : (ℕ → ℕ) → ℕ → ℕ → ℕ → List Place → List Place
labels_from ends call base b [] = []
labels_from ends call base b (p ∷ ps) = label_place base (nat_lt call (ends b)) p ∷ labels_from ends call base (b + 1) ps

abbrev pub label_behind : Piece → List Place → List Place
label_behind piece guards = labels_from (last_of piece) (first_call piece.ops) (words_used guards) 0 guards

-- ---- the piece to which one jumps

abbrev pub label_among : List PieceHere → PieceId → List Place
label_among [] q = []
label_among (here ∷ heres) q = if same_piece q here.id then here.label else label_among heres q

abbrev pub start_among : List PieceHere → PieceId → ℕ
start_among [] q = 0
start_among (here ∷ heres) q = if same_piece q here.id then here.start else start_among heres q

abbrev pub target_label : List PieceHere → Option OptOp → List Place
target_label heres None = []
target_label heres (Some (opt.Jump to args)) = label_among heres to
target_label heres (Some op) = []

abbrev pub target_places : List PieceHere → List OptOp → List Place
target_places heres ops = target_label heres (slice_get ops (length ops - 1))

-- ---- what laying out needs and gives

-- the places at the guard's copy for a piece of the bridge, and those of its label
abbrev pub guards_for : Imaged → Option (ℕ × ℕ) → Piece → List Place
guards_for image source piece = places_by source piece.id.half image.exits

abbrev pub label_for : Imaged → Option (ℕ × ℕ) → Piece → List Place
label_for image source piece = label_behind piece (guards_for image source piece)

pub record CanLayOne (set : TraceSet) (image : Imaged) (source : Option (ℕ × ℕ)) (piece : Piece) : Type 0 where
  pub can : CanPlan set piece image.registers
  pub long : length (guards_for image source piece) ≤ length piece.label
  pub low : words_used (guards_for image source piece) ≤ 524272
  pub ends : HasEnds piece image.registers (label_for image source piece) (target_places image.pieces piece.ops)
  pub front : IsShortFront (entry_code (guards_for image source piece) (label_for image source piece))

-- the room that is enough for pieces of bridges
abbrev pub bridge_room : List Piece → ℕ
bridge_room [] = 0
bridge_room (p ∷ ps) = 64 + 32 * size_of p + bridge_room ps

abbrev pub starts_among : List PieceHere → List (PieceId × ℕ)
starts_among heres = map (λ (h : PieceHere). (h.id, h.start)) heres

pub record CanLay (set : TraceSet) (image : Imaged) (source : Option (ℕ × ℕ)) (pieces : List Piece) : Type 0 where
  pub each : AllByRecursion (CanLayOne set image source) pieces
  pub room : length image.bytes + bridge_room pieces < 2 ^ 30
  pub few : 16 * length image.exits ≤ length image.bytes
  pub starts : StartsBelow (starts_among image.pieces)

-- a placed piece of a bridge
pub record IsNew (set : TraceSet) (image : Imaged) (source : Option (ℕ × ℕ)) (pl : Placed) : Type 0 where
  pub front : pl.front ≡ entry_code (guards_for image source pl.piece) (label_for image source pl.piece)
  pub label : label_at pl ≡ label_for image source pl.piece
  pub to : pl.setting.to ≡ target_places image.pieces pl.piece.ops
  pub targets : AllTargets (start_among image.pieces) pl
  pub standing : (words : ℕ) → words_used (label_at pl) ≤ words → IsStanding set image.registers words pl

-- the pieces stand one behind the other from the end of the code on
pub record IsLaidBehind (set : TraceSet) (image : Imaged) (source : Option (ℕ × ℕ)) (pieces : List Piece) (laid : Laid) : Type 0 where
  pub news : List Placed
  pub are : map (λ (pl : Placed). pl.piece) news ≡ pieces
  pub each : AllByRecursion (IsNew set image source) news
  pub end : ℕ
  pub last : ℕ
  pub follow : AreLaid (length image.bytes) (length image.exits) news end last
  pub place : length image.bytes + length laid.bytes.items ≡ end
  pub code : laid.bytes.items ≡ all_bytes news
  pub rows : laid.exits.items ≡ all_rows news
  pub heres : AreHere news laid.pieces.items
  pub short : length laid.bytes.items ≤ bridge_room pieces

-- ---- patches

-- the rows of the copies of a guard
abbrev pub copies_by : Option (ℕ × ℕ) → List ExitRow → List ExitRow
copies_by source [] = []
copies_by source (row ∷ rows) = if comes_from source row.id.trace row.guard then row ∷ copies_by source rows else copies_by source rows

-- the displacements stand in so many bytes
abbrev pub AreWithin : ℕ → List ExitRow → Type 0
AreWithin n [] = Unit {0}
AreWithin n (row ∷ rows) = (row.at + 4 ≤ n) × AreWithin n rows

abbrev pub PatchesWithin : ℕ → List (ℕ × ℤ × ℤ) → Type 0
PatchesWithin n [] = Unit {0}
PatchesWithin n (p ∷ ps) = (p.0 + 4 ≤ n) × PatchesWithin n ps

-- the patches of these rows
abbrev pub ArePatches : ℕ → List ℕ → List PieceHere → List ExitRow → List (ℕ × ℤ × ℤ) → Type 0
ArePatches bridge old heres rows patches = AllZip (IsPatch bridge old heres) rows patches
