-- An image to some of whose guards bridges are attached, and what one more attachment makes of it.
use Rattle.std.specs.Prelude.{◌≡◌, ℕ, ◌+◌, ◌*◌, ◌^◌, ◌<◌, ◌≤◌, ◌==◌, Bool, true, false, ℤ, List, [], ◌∷◌, ◌++◌, length, map, take, drop, Option, Some, None, slice_get, option_and_then, if◌then◌else◌, ◌⊎◌}
use Rattle.std.specs.Int.{to_le_bytes, cast_unsigned, w32}
use Rattle.std.specs.List.{All, AllByRecursion, AllZip, Contains, list_any}
use Rattle.trace_ops.specs.declared.trace.BoxId.{BoxId}
use Rattle.trace_ops.specs.declared.trace.Trace.{Trace}
use Rattle.trace_ops.specs.declared.trace.TraceSet.{TraceSet}
use Rattle.trace_ops.specs.declared.piece.Half.{Half}
use Rattle.trace_ops.specs.declared.piece.PieceId.{PieceId}
use Rattle.trace_ops.specs.declared.piece.OptOp.{OptOp}
use Rattle.trace_ops.specs.declared.piece.OptOp.TheVariants as opt
use Rattle.trace_ops.specs.declared.piece.Piece.{Piece}
use Rattle.trace_ops.specs.Pieces.{size_of, FitsLabel}
use Rattle.trace_ops.specs.Sound.{IsSound, AreApart as AreDifferent}
use Rattle.trace_ops.specs.InRange.{IsInRange}
use Rattle.trace_ops.specs.WellFormed.{IsWellFormed}
use Rattle.trace_ops.specs.Weights.{trace_weight, weight_of, sum_below}
use Rattle.opt_meaning.specs.Pieces.{same_piece}
use Rattle.opt_meaning.specs.Worded.{OpHasWords}
use Rattle.target_base.specs.declared.reg.Reg.{Reg}
use Rattle.target_base.specs.declared.place.Place.{Place}
use Rattle.target_base.specs.declared.place.Place.TheVariants.{In, Word}
use Rattle.x64_encode.specs.declared.instr.Instr.{Instr}
use Rattle.x64_encode.specs.declared.instr.Instr.TheVariants.{Store}
use Rattle.linear_scan.specs.declared.places.Places.{Places}
use Rattle.linear_scan.specs.Placing.{Allocated, words_used}
use Rattle.guard_exit.specs.declared.row.ExitRow.{ExitRow}
use Rattle.guard_exit.specs.Codes.{common_code, frame_mem}
use Rattle.asm_select.specs.declared.told.Told.TheVariants as tell
use Rattle.asm_select.specs.Slots.{sizes_of}
use Rattle.asm_select.specs.Valued.{MayHold}
use Rattle.asm_select.specs.Reached.{AreApart}
use Rattle.asm_select.specs.Ended.{TableServes}
use Rattle.asm_select.specs.Asked.{AreSafe, AreChosen}
use Rattle.asm_select.specs.Given.{where_in}
use Rattle.asm_select.specs.Exited.{shown_by}
use Rattle.code_layout.specs.Leading.{way, patched}
use Rattle.code_layout.specs.Emitting.{total_size}
use Rattle.bridge_patch.specs.declared.image.PieceHere.{PieceHere}
use Rattle.bridge_patch.specs.declared.image.Change.{Change}
use Rattle.bridge_patch.specs.Pieces.{Placed, body_of, stub_of, exits_in, spelled, all_bytes, AreLaid, start_in, all_rows, label_at}
use Rattle.bridge_patch.specs.Image.{Imaged, AreHere, KeepsItsGuard, label_in}
use Rattle.bridge_patch.specs.Planning.{CanPlan}
use Rattle.bridge_patch.specs.Bridged.{IsBridge, LacksParent, bridge_on, is_from}

-- ---- where jumps lead now

-- the places of the label of the piece of this name, and where what stands in front of it begins
abbrev pub places_in : List Placed → PieceId → List Place
places_in [] q = []
places_in (pl ∷ pls) q = if same_piece q pl.piece.id then label_at pl else places_in pls q

abbrev pub begin_in : List Placed → PieceId → ℕ
begin_in [] q = 0
begin_in (pl ∷ pls) q = if same_piece q pl.piece.id then pl.at else begin_in pls q

-- a guard leads to its stub, or in front of the piece of its bridge
abbrev pub behind_guard : ℕ → List Placed → Half → Option ℕ → ℕ
behind_guard stub placed h None = stub
behind_guard stub placed h (Some b) = begin_in placed (record { trace = b; half = h })

-- Operation k leads, when these bridges are attached, to the start of the piece to which it jumps, with the arguments at the places
-- of that label; or to its stub; or, a guard with a bridge, in front of the bridge's piece of the same half.
abbrev pub LeadsNow : List Trace → List ℕ → List Placed → Placed → ℕ → OptOp → Type 0
LeadsNow traces bs placed pl k (opt.Plain operation r args d) = Unit {0}
LeadsNow traces bs placed pl k (opt.Guard operation args n snap) = pl.to k ≡ behind_guard (stub_of pl k) placed pl.piece.id.half (bridge_on traces bs pl.piece.id.trace n)
LeadsNow traces bs placed pl k (opt.Exit n snap) = pl.to k ≡ behind_guard (stub_of pl k) placed pl.piece.id.half (bridge_on traces bs pl.piece.id.trace n)
LeadsNow traces bs placed pl k (opt.Jump to args) = (pl.to k ≡ start_in placed to) × (pl.setting.to ≡ places_in placed to)
LeadsNow traces bs placed pl k (opt.Finish value) = pl.to k ≡ stub_of pl k

abbrev pub AllLeadNow : List Trace → List ℕ → List Placed → Placed → Type 0
AllLeadNow traces bs placed pl = (done rest : List OptOp) (op : OptOp) → pl.piece.ops ≡ done ++ op ∷ rest → LeadsNow traces bs placed pl (length done) op

-- ---- an image at any moment

-- The boxes of a piece stand where an allocation of so many registers put them, its label's boxes in frame words below a bound where
-- in frame words at all, and its operations' instructions do what they do.
pub record IsStanding (set : TraceSet) (registers words : ℕ) (pl : Placed) : Type 0 where
  pub can : CanPlan set pl.piece registers
  pub places : Places
  pub at : pl.setting.at ≡ where_in places.at
  pub allocated : Allocated pl.piece registers (label_at pl) places
  pub few : words_used (label_at pl) ≤ words
  pub table : pl.setting.table ≡ set.table
  pub serves : TableServes pl.setting.table
  pub hold : (b : ℕ) → MayHold (pl.setting.at b)
  pub apart : AreApart pl.setting.at pl.piece.ops
  pub safe : AreSafe pl.setting.at pl.piece.ops
  pub chosen : AreChosen pl.setting 0 tell.Nothing pl.piece.ops
  pub short : sizes_of (body_of pl) + 16 * exits_in pl.piece.ops ≤ 32 * size_of pl.piece

-- whether a trace is one of these, and how many traces are
abbrev pub is_among : List ℕ → ℕ → Bool
is_among bs k = list_any (λ (b : ℕ). b == k) bs

abbrev pub taken : TraceSet → List ℕ → ℕ
taken set bs = sum_below (λ (k : ℕ). if is_among bs k then 1 else 0) (length set.traces)

-- the frame words of labels are fewer: those of loops' labels are as many as boxes may be, and each bridge takes at most 16 more
abbrev pub words_for : TraceSet → List ℕ → ℕ
words_for set bs = 262272 + 16 * taken set bs

-- a trace is a loop, or one of these bridges
abbrev pub IsKnown : TraceSet → List ℕ → ℕ → Type 0
IsKnown set bs k = ¬ IsBridge set k ⊎ Contains bs k

-- so many bytes are enough for the pieces of this trace, unless it is one of these
abbrev pub bytes_unless : Bool → ℕ → ℕ
bytes_unless true weight = 0
bytes_unless false weight = 128 + 256 * weight

-- and for those of all traces
abbrev pub room_left : TraceSet → List ℕ → ℕ
room_left set bs = sum_below (λ (k : ℕ). bytes_unless (is_among bs k) (trace_weight set k)) (length set.traces)

-- each jump of a piece goes to a piece of these names, with a value of the right kind for each box of its label
abbrev pub JumpsAmong : (PieceId → Option (List BoxId)) → Placed → Type 0
JumpsAmong label_of pl = All (FitsLabel label_of) pl.piece.ops

-- The image of placed pieces, among them those of the bridges that are attached. The code is the common exit and then, one behind the
-- other, the pieces; each jump leads where it should now, and to one of the pieces; there is a row for each exit; and the parent of an
-- attached bridge is a loop or attached too.
pub record IsImageOf (set : TraceSet) (placed : List Placed) (image : Imaged) : Type 0 where
  pub code : image.bytes ≡ spelled common_code ++ all_bytes placed
  pub last : ℕ
  pub laid : AreLaid (length (spelled common_code)) 0 placed (length image.bytes) last
  pub standing : AllByRecursion (IsStanding set image.registers (words_for set image.attached)) placed
  pub leads : AllByRecursion (AllLeadNow set.traces image.attached placed) placed
  pub closed : AllByRecursion (JumpsAmong (label_in (map (λ (pl : Placed). pl.piece) placed))) placed
  pub exits : image.exits ≡ all_rows placed
  pub heres : AreHere placed image.pieces
  pub known : AllByRecursion (λ (pl : Placed). IsKnown set image.attached pl.piece.id.trace) placed
  pub parents : (b : ℕ) → Contains image.attached b → ¬ LacksParent set image.attached b
  pub room : length image.bytes + room_left set image.attached < 2 ^ 30

-- ---- the pieces of a bridge

-- the guard that an operation is
abbrev pub guard_of : OptOp → Option ℕ
guard_of (opt.Plain operation r args d) = None
guard_of (opt.Guard operation args n snap) = Some n
guard_of (opt.Exit n snap) = Some n
guard_of (opt.Jump to args) = None
guard_of (opt.Finish value) = None

-- an operation of a piece of this half is a copy of the guard from which a bridge comes
pub record IsCopy (traces : List Trace) (bridge : ℕ) (placed : List Placed) (h : Half) (op : OptOp) : Type 0 where
  pub pl : Placed
  pub there : Contains placed pl
  pub half : pl.piece.id.half ≡ h
  pub among : Contains pl.piece.ops op
  pub from : is_from traces bridge pl.piece.id.trace (guard_of op) ≡ true

-- Sound pieces of a bridge, one for each half in which its guard is kept, with the label of the boxes that the guard shows there. Each
-- piece to which one of them jumps is in the image.
pub record AreOfBridge (set : TraceSet) (placed : List Placed) (bridge : ℕ) (pieces : List Piece) : Type 0 where
  pub sound : AllByRecursion (IsSound set (label_in (map (λ (pl : Placed). pl.piece) placed))) pieces
  pub words : AllByRecursion (λ (p : Piece). All OpHasWords p.ops) pieces
  pub guards : AllByRecursion (λ (p : Piece). All KeepsItsGuard p.ops) pieces
  pub named : AllByRecursion (λ (p : Piece). p.id.trace ≡ bridge) pieces
  pub once : AreDifferent (map (λ (p : Piece). p.id.half) pieces)
  pub kept : AllByRecursion (λ (p : Piece). (op : OptOp) × IsCopy set.traces bridge placed p.id.half op) pieces
  pub each : (h : Half) (op : OptOp) → IsCopy set.traces bridge placed h op → (p : Piece) × Contains pieces p × (p.id.half ≡ h)
  pub labels : (p : Piece) (op : OptOp) → Contains pieces p → IsCopy set.traces bridge placed p.id.half op
      → map (λ (b : BoxId). b.kind) p.label ≡ map (λ (b : BoxId). b.kind) (shown_by op)

-- A bridge of a well-formed set in range that isn't too heavy may be attached to an image of that set, with these pieces.
pub record CanAttach (set : TraceSet) (image : Imaged) (bridge : ℕ) (pieces : List Piece) : Type 0 where
  pub range : IsInRange set
  pub formed : IsWellFormed set
  pub light : weight_of set ≤ 131072
  pub placed : List Placed
  pub image_of : IsImageOf set placed image
  pub is_bridge : IsBridge set bridge
  pub fresh : ¬ Contains image.attached bridge
  pub parent : ¬ LacksParent set image.attached bridge
  pub pieces_fit : AreOfBridge set placed bridge pieces

-- ---- an attachment, in bytes

-- the rows of the copies of the guard from which a bridge comes
abbrev pub copies_among : List Trace → ℕ → List ExitRow → List ExitRow
copies_among traces bridge [] = []
copies_among traces bridge (row ∷ rows) =
    if is_from traces bridge row.id.trace row.guard then row ∷ copies_among traces bridge rows else copies_among traces bridge rows

-- where what stands in front of the piece of this name begins
abbrev pub begin_among : List PieceHere → PieceId → ℕ
begin_among [] q = 0
begin_among (here ∷ heres) q = if same_piece q here.id then here.at else begin_among heres q

-- the four bytes at a place are this displacement
abbrev pub StandsAt : List ℕ → ℕ → ℤ → Type 0
StandsAt bytes at displacement = take 4 (drop at bytes) ≡ to_le_bytes w32 (cast_unsigned w32 displacement)

-- The patch of a copy of the guard: at its displacement, which led elsewhere, and leads to the bridge's piece of the same half.
pub record IsPatch (bridge : ℕ) (old : List ℕ) (heres : List PieceHere) (row : ExitRow) (patch : ℕ × ℤ × ℤ) : Type 0 where
  pub at : patch.0 ≡ row.at
  pub before : StandsAt old row.at patch.1
  pub after : patch.2 ≡ way (row.at + 4) (begin_among heres (record { trace = bridge; half = row.id.half }))

-- in order
abbrev pub all_patched : List (ℕ × ℤ × ℤ) → List ℕ → List ℕ
all_patched [] code = code
all_patched (p ∷ ps) code = all_patched ps (patched p.0 p.2 code)

-- The bytes of the bridge's pieces are appended, and then each copy of its guard is patched, and no other byte is changed. Rows and
-- pieces are appended, and the change is noted.
pub record IsChanged (set : TraceSet) (bridge : ℕ) (pieces : List Piece) (old new : Imaged) : Type 0 where
  pub appended : List ℕ
  pub rows : List ExitRow
  pub heres : List PieceHere
  pub change : Change
  pub bytes : new.bytes ≡ all_patched change.patches (old.bytes ++ appended)
  pub exits : new.exits ≡ old.exits ++ rows
  pub pieces_here : new.pieces ≡ old.pieces ++ heres
  pub names : map (λ (h : PieceHere). h.id) heres ≡ map (λ (p : Piece). p.id) pieces
  pub attached : new.attached ≡ old.attached ++ bridge ∷ []
  pub changes : new.changes ≡ old.changes ++ change ∷ []
  pub named : change.bridge ≡ bridge
  pub from : change.from ≡ length old.bytes
  pub len : change.len ≡ length appended
  pub patches : AllZip (IsPatch bridge old.bytes heres) (copies_among set.traces bridge old.exits) change.patches

-- ---- an attachment, in pieces

-- a box that stands in a register at the guard and in a frame word at the label is stored there; each other has one place
abbrev pub store : Reg → ℕ → Instr
store r k = Store (frame_mem k) r

abbrev pub entry_step : Place → Place → List Instr
entry_step (In r) (Word k) = store r k ∷ []
entry_step _ _ = []

abbrev pub entry_code : List Place → List Place → List Instr
entry_code [] to = []
entry_code (p ∷ from) [] = []
entry_code (p ∷ from) (q ∷ to) = entry_step p q ++ entry_code from to

-- The places of a label behind a guard: the guard's own, but that some registers' boxes get frame words in which none of the guard's
-- boxes stands.
abbrev pub IsMoved : List Place → Place → Place → Type 0
IsMoved guards (In r) (In q) = r ≡ q
IsMoved guards (In r) (Word k) = (16 ≤ k) × ¬ Contains guards (Word k)
IsMoved guards (Word j) (In q) = ⊥
IsMoved guards (Word j) (Word k) = j ≡ k

-- in front of a bridge's piece stand the moves from the guard's places to the label's, of at most 64 bytes
pub record IsEntered (traces : List Trace) (bridge : ℕ) (rows : List ExitRow) (pl : Placed) : Type 0 where
  pub row : ExitRow
  pub there : Contains (copies_among traces bridge rows) row
  pub half : row.id.half ≡ pl.piece.id.half
  pub front : pl.front ≡ entry_code (map (λ (x : BoxId × Place). x.1) row.places) (label_at pl)
  pub moved : AllZip (IsMoved (map (λ (x : BoxId × Place). x.1) row.places)) (map (λ (x : BoxId × Place). x.1) row.places) (label_at pl)
  pub short : total_size pl.front ≤ 64

-- whether operation k of a piece is a copy of the guard from which a bridge comes
abbrev pub is_copy_at : List Trace → ℕ → Placed → ℕ → Bool
is_copy_at traces bridge pl k = is_from traces bridge pl.piece.id.trace (option_and_then guard_of (slice_get pl.piece.ops k))

-- the copies lead in front of the bridge's piece of the same half, and all other jumps where they led
abbrev pub led_on : List Trace → ℕ → List Placed → Placed → Placed
led_on traces bridge news pl = record pl {
  to = λ (k : ℕ). if is_copy_at traces bridge pl k then begin_in news (record { trace = bridge; half = pl.piece.id.half }) else pl.to k;
}

-- New placed pieces stand behind the old ones, whose jumps lead where they led but for the copies of the guard.
pub record IsGrown (set : TraceSet) (bridge : ℕ) (pieces : List Piece) (placed : List Placed) (old new : Imaged) : Type 0 where
  pub news : List Placed
  pub are : map (λ (pl : Placed). pl.piece) news ≡ pieces
  pub entered : AllByRecursion (IsEntered set.traces bridge old.exits) news
  pub image_of : IsImageOf set (map (led_on set.traces bridge news) placed ++ news) new
  pub registers : new.registers ≡ old.registers

-- Behind an attachment each further bridge may be attached that isn't yet and whose parent is there, with fitting pieces.
abbrev pub AttachesAgain : Type 0
AttachesAgain = (set : TraceSet) (bridge : ℕ) (pieces : List Piece) (placed : List Placed) (old new : Imaged) → CanAttach set old bridge pieces → (grown : IsGrown set bridge pieces placed old new)
    → (next : ℕ) (more : List Piece) → IsBridge set next → ¬ Contains new.attached next → ¬ LacksParent set new.attached next
    → AreOfBridge set (map (led_on set.traces bridge grown.news) placed ++ grown.news) next more → CanAttach set new next more
