-- How a piece is to be laid out.
use Rattle.std.specs.Prelude.{◌≡◌, ℕ, ◌+◌, ◌-◌, ◌*◌, ◌^◌, ◌<◌, ◌≤◌, Option, Some, None, List, [], ◌∷◌, ◌++◌, length, map, slice_get, if◌then◌else◌}
use Rattle.std.specs.List.{All, AllByRecursion}
use Rattle.trace_ops.specs.declared.trace.BoxId.{BoxId}
use Rattle.trace_ops.specs.declared.trace.TraceSet.{TraceSet}
use Rattle.trace_ops.specs.declared.piece.PieceId.{PieceId}
use Rattle.trace_ops.specs.declared.piece.OptOp.{OptOp}
use Rattle.trace_ops.specs.declared.piece.OptOp.TheVariants as opt
use Rattle.trace_ops.specs.declared.piece.Piece.{Piece}
use Rattle.trace_ops.specs.InRange.{IsTableInRange}
use Rattle.trace_ops.specs.Pieces.{size_of, jump_args, defined_by}
use Rattle.linear_scan.specs.Numbering.{AreNumbered, AreDefined}
use Rattle.trace_ops.specs.Sound.{IsSound}
use Rattle.trace_ops.specs.Weights.{trace_weight}
use Rattle.opt_meaning.specs.Pieces.{same_piece}
use Rattle.opt_meaning.specs.Worded.{OpHasWords}
use Rattle.target_base.specs.declared.place.Place.{Place}
use Rattle.x64_encode.specs.declared.instr.Instr.{Instr}
use Rattle.linear_scan.specs.Placing.{Allocated, AreDistinct, LabelPlaces, words_used}
use Rattle.resume_numbering.specs.Numbered.{IsNumbered}
use Rattle.asm_select.specs.Laid.{has_stub}
use Rattle.asm_select.specs.Selecting.{AreTargets, CanSelect, IsSelected}
use Rattle.bridge_patch.specs.Image.{KeepsItsGuard}
use Rattle.asm_select.specs.Fitting.{Fits}
use Rattle.code_layout.specs.Emitting.{AllHaveRows, KeysBelow, total_size, emitted}
use Rattle.linear_scan.specs.declared.places.Places.{Places}
use Rattle.asm_select.specs.declared.selected.Selected.{Selected}
use Rattle.bridge_patch.specs.declared.plan.Plan.{Plan}
use Rattle.bridge_patch.specs.declared.image.PieceHere.{PieceHere}
use Rattle.bridge_patch.specs.Pieces.{Placed, stub_of, exits_in, label_places, loop_front, spelled, stubs_from}

-- how many arguments the jump at the end has
abbrev pub count_of : Option OptOp → ℕ
count_of None = 0
count_of (Some op) = jump_args op

abbrev pub jump_count : List OptOp → ℕ
jump_count ops = count_of (slice_get ops (length ops - 1))

-- a sound piece of a set that isn't too heavy, whose constants are words
pub record CanPlan (set : TraceSet) (piece : Piece) (registers : ℕ) : Type 0 where
  pub label_of : PieceId → Option (List BoxId)
  pub sound : IsSound set label_of piece
  pub table : IsTableInRange set.table
  pub words : All OpHasWords piece.ops
  pub guards : All KeepsItsGuard piece.ops
  pub weight : trace_weight set piece.id.trace ≤ 131072
  pub within : (3 ≤ registers) × (registers ≤ 12)

-- places for the boxes of a piece's label, which an allocation of so many registers takes
pub record IsLabelled (piece : Piece) (registers : ℕ) (label : List Place) : Type 0 where
  pub long : length label ≡ length piece.label
  pub lawful : LabelPlaces registers piece label
  pub distinct : AreDistinct label

-- places for the boxes of a piece's label, and those of the label to which it jumps, which leave room for the piece's own
pub record HasEnds (piece : Piece) (registers : ℕ) (label to : List Place) : Type 0 where
  pub labelled : IsLabelled piece registers label
  pub few : words_used label ≤ 524288
  pub targets : AreTargets piece to
  pub short : length to ≤ 131136

-- few instructions of few bytes
pub record IsShortFront (front : List Instr) : Type 0 where
  pub rows : AllHaveRows front
  pub few : length front < 2 ^ 27
  pub short : total_size front ≤ 64

-- The plan of a piece that has these instructions in front of it, these places of its label and of the label to which it jumps. It
-- begins at a place, and its first exit has a number.
pub record IsPlanned (set : TraceSet) (piece : Piece) (registers : ℕ) (label to : List Place) (before : List Instr) (at exit : ℕ) (plan : Plan) : Type 0 where
  pub id : plan.id ≡ piece.id
  pub label_is : plan.label ≡ label
  pub begins : plan.at ≡ at
  pub exits : plan.exit ≡ exit
  pub front : plan.front ≡ before
  pub short_front : IsShortFront plan.front
  pub start : plan.start ≡ at + total_size plan.front
  pub stubs : plan.stubs ≡ plan.start + total_size plan.selected.instrs
  pub can_plan : CanPlan set piece registers
  pub labelled : IsLabelled piece registers label
  pub allocated : Allocated piece registers label plan.places
  pub can : CanSelect set piece plan.places to
  pub selected : IsSelected set piece plan.places to plan.selected
  pub fits : Fits set piece plan.places to 0 plan.selected
  pub rows : AllHaveRows plan.selected.instrs
  pub keys : KeysBelow (length piece.ops) plan.selected.jumps
  pub short : total_size plan.selected.instrs + 16 * exits_in piece.ops ≤ 32 * size_of piece
  pub small : size_of piece ≤ 524288

-- that of a piece of a loop
abbrev pub IsPlan : TraceSet → ℕ → Piece → ℕ → ℕ → Plan → Type 0
IsPlan set registers piece at exit plan = IsPlanned set piece registers (label_places (length piece.label)) (label_places (jump_count piece.ops)) (loop_front piece.id.half) at exit plan

-- where the first operation of the piece of this name stands, by pairs of names and places
abbrev pub start_listed : List (PieceId × ℕ) → PieceId → ℕ
start_listed [] q = 0
start_listed (x ∷ xs) q = if same_piece q x.0 then x.1 else start_listed xs q

abbrev pub starts_of : List Plan → List (PieceId × ℕ)
starts_of plans = map (λ (x : Plan). (x.id, x.start)) plans

-- where the first operation of the piece of this name is to stand
abbrev pub planned_start : List Plan → PieceId → ℕ
planned_start plans q = start_listed (starts_of plans) q

-- where the jump of an operation leads, whose stub is at this place if it has one; and of operations
abbrev pub target_of : (PieceId → ℕ) → ℕ → OptOp → ℕ
target_of starts stub (opt.Plain operation r args d) = 0
target_of starts stub (opt.Guard operation args n snap) = stub
target_of starts stub (opt.Exit n snap) = stub
target_of starts stub (opt.Jump to args) = starts to
target_of starts stub (opt.Finish value) = stub

abbrev pub targets_from : (PieceId → ℕ) → ℕ → List OptOp → List ℕ
targets_from starts stub [] = []
targets_from starts stub (op ∷ ops) = target_of starts stub op ∷ targets_from starts (stub + 16 * (if has_stub op then 1 else 0)) ops

-- where the jump of each operation leads
abbrev pub AllTargets : (PieceId → ℕ) → Placed → Type 0
AllTargets s pl = (done rest : List OptOp) (op : OptOp) → pl.piece.ops ≡ done ++ op ∷ rest → pl.to (length done) ≡ target_of s (stub_of pl (length done)) op

-- plans of pieces one behind the other, from a place and an exit on up to others
abbrev pub ArePlanned : TraceSet → ℕ → ℕ → ℕ → List Piece → List Plan → ℕ → ℕ → Type 0
ArePlanned set registers at exit [] [] end last = (at ≡ end) × (exit ≡ last)
ArePlanned set registers at exit (p ∷ ps) (x ∷ xs) end last =
    IsPlan set registers p at exit x × ArePlanned set registers (x.stubs + 16 * exits_in p.ops) (exit + exits_in p.ops) ps xs end last
ArePlanned set registers at exit _ _ end last = ⊥

-- a piece whose boxes are numbered as they are defined, below 2^31
pub record CanPlace (piece : Piece) (registers : ℕ) : Type 0 where
  pub within : (3 ≤ registers) × (registers ≤ 12)
  pub few : length piece.ops + 1 < 2 ^ 32
  pub boxes : length (defined_by piece) < 2 ^ 30
  pub numbered : AreNumbered piece
  pub defined : AreDefined piece

-- places and instructions of a piece between such ends, which are short and have rows
pub record IsFitted (set : TraceSet) (piece : Piece) (label to : List Place) (registers : ℕ) (places : Places) (selected : Selected) : Type 0 where
  pub allocated : Allocated piece registers label places
  pub can : CanSelect set piece places to
  pub code : IsSelected set piece places to selected
  pub fits : Fits set piece places to 0 selected
  pub rows : AllHaveRows selected.instrs
  pub keys : KeysBelow (length piece.ops) selected.jumps
  pub short : total_size selected.instrs + 16 * exits_in piece.ops ≤ 32 * size_of piece

-- each starts below 2^31
abbrev pub StartsBelow : List (PieceId × ℕ) → Type 0
StartsBelow [] = Unit {0}
StartsBelow (x ∷ xs) = (x.1 < 2 ^ 31) × StartsBelow xs

-- the bytes of a planned piece from a place on: what stands in front, the operations, and so many stubs
abbrev pub laid_bytes : ℕ → (ℕ → ℕ) → Plan → ℕ → List ℕ
laid_bytes at to plan exits =
    let start = at + total_size plan.front in
    spelled plan.front ++ (emitted to start 0 plan.selected.instrs plan.selected.jumps ++ spelled (stubs_from (start + total_size plan.selected.instrs) plan.exit exits))

-- the room that is enough for pieces
abbrev pub room_for : List Piece → ℕ
room_for [] = 0
room_for (p ∷ ps) = 64 + 32 * size_of p + room_for ps

-- what laying out a piece needs of its plan
pub record IsReady (piece : Piece) (plan : Plan) : Type 0 where
  pub front : IsShortFront plan.front
  pub start : plan.start ≡ plan.at + total_size plan.front
  pub stubs : plan.stubs ≡ plan.start + total_size plan.selected.instrs
  pub rows : AllHaveRows plan.selected.instrs
  pub keys : KeysBelow (length piece.ops) plan.selected.jumps
  pub short : total_size plan.selected.instrs + 16 * exits_in piece.ops ≤ 32 * size_of piece
  pub small : size_of piece ≤ 524288

-- what is kept of a piece that is laid out as it is planned
pub record IsHereOf (piece : Piece) (plan : Plan) (here : PieceHere) : Type 0 where
  pub id : here.id ≡ plan.id
  pub begins : here.at ≡ plan.at
  pub start : here.start ≡ plan.start
  pub label : here.label ≡ plan.label
  pub table : IsNumbered here.table piece

-- a set, its pieces and their plans
abbrev pub can_all : TraceSet → ℕ → List Piece → Type 0
can_all set registers ps = AllByRecursion (λ (p : Piece). CanPlan set p registers) ps
