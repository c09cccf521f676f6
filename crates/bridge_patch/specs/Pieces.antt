-- A piece in the code: what stands in front of its first operation, its operations, and behind them the stubs of its exits.
use Rattle.std.specs.Prelude.{◌≡◌, ◌<◌, ℕ, zero, suc, ◌+◌, ◌*◌, ◌==◌, if◌then◌else◌, Option, Some, None, List, [], ◌∷◌, ◌++◌, length, map, take}
use Rattle.std.specs.List.{AllZip}
use Rattle.trace_ops.specs.declared.trace.BoxId.{BoxId}
use Rattle.trace_ops.specs.declared.trace.Arg.{Arg}
use Rattle.trace_ops.specs.declared.trace.TraceSet.{TraceSet}
use Rattle.trace_ops.specs.declared.piece.Half.{Half}
use Rattle.trace_ops.specs.declared.piece.Half.TheVariants.{Pre, Body}
use Rattle.trace_ops.specs.declared.piece.PieceId.{PieceId}
use Rattle.trace_ops.specs.declared.piece.OptOp.{OptOp}
use Rattle.trace_ops.specs.declared.piece.OptOp.TheVariants as opt
use Rattle.trace_ops.specs.declared.piece.Piece.{Piece}
use Rattle.trace_ops.specs.Parts.{parts_of, boxes_of_arg}
use Rattle.opt_meaning.specs.Pieces.{same_piece}
use Rattle.target_base.specs.declared.place.Place.{Place}
use Rattle.target_base.specs.declared.place.Place.TheVariants.{Word}
use Rattle.x64_encode.specs.declared.instr.Instr.{Instr}
use Rattle.x64_encode.specs.Form.{spelling}
use Rattle.guard_exit.specs.declared.row.ExitRow.{ExitRow}
use Rattle.guard_exit.specs.Codes.{stub_code}
use Rattle.asm_select.specs.declared.told.Told.TheVariants as tell
use Rattle.asm_select.specs.Slots.{Slot, sizes_of}
use Rattle.asm_select.specs.Valued.{MayHold}
use Rattle.asm_select.specs.Chosen.{Where, Setting, all_code}
use Rattle.asm_select.specs.Reached.{AreApart}
use Rattle.asm_select.specs.Ended.{TableServes}
use Rattle.asm_select.specs.Asked.{AreSafe, AreChosen}
use Rattle.asm_select.specs.Laid.{has_stub}
use Rattle.asm_select.specs.Exited.{entry_instr}
use Rattle.code_layout.specs.Leading.{way, led_bytes, jumps_at}
use Rattle.code_layout.specs.Emitting.{total_size}

-- A piece, the instructions in front of its first operation, how the instructions of its operations are chosen, where all this
-- begins, the number of its first exit, and where the jump of each operation leads.
pub record Placed : Type 0 where
  pub piece : Piece
  pub front : List Instr
  pub setting : Setting
  pub at : ℕ
  pub exit : ℕ
  pub to : ℕ → ℕ

abbrev pub body_of : Placed → List Slot
body_of pl = all_code pl.setting 0 tell.Nothing pl.piece.ops

abbrev pub start_of : Placed → ℕ
start_of pl = pl.at + total_size pl.front

abbrev pub stubs_of : Placed → ℕ
stubs_of pl = start_of pl + sizes_of (body_of pl)

-- how many of the operations have an exit: guards, exits and finishes
abbrev pub exits_in : List OptOp → ℕ
exits_in [] = 0
exits_in (op ∷ ops) = (if has_stub op then 1 else 0) + exits_in ops

-- the number of operation k's exit, and where its stub begins: each has 16 bytes
abbrev pub exit_of : Placed → ℕ → ℕ
exit_of pl k = pl.exit + exits_in (take k pl.piece.ops)

abbrev pub stub_of : Placed → ℕ → ℕ
stub_of pl k = stubs_of pl + 16 * exits_in (take k pl.piece.ops)

abbrev pub end_of : Placed → ℕ
end_of pl = stubs_of pl + 16 * exits_in pl.piece.ops

-- ---- bytes

abbrev pub spelled : List Instr → List ℕ
spelled [] = []
spelled (i ∷ more) = spelling i ++ spelled more

-- so many stubs from a place on, the first of them that of this exit; each jumps to the common exit, at place 0
abbrev pub stubs_from : ℕ → ℕ → ℕ → List Instr
stubs_from p exit zero = []
stubs_from p exit (suc n) = stub_code (way (p + 16) 0) exit ++ stubs_from (p + 16) (exit + 1) n

abbrev pub bytes_in : Placed → List ℕ
bytes_in pl = spelled pl.front ++ (led_bytes pl.to (start_of pl) (body_of pl) ++ spelled (stubs_from (stubs_of pl) pl.exit (exits_in pl.piece.ops)))

abbrev pub all_bytes : List Placed → List ℕ
all_bytes [] = []
all_bytes (pl ∷ pls) = bytes_in pl ++ all_bytes pls

-- pieces one behind the other, and their exits, from a place and a number on up to others
abbrev pub AreLaid : ℕ → ℕ → List Placed → ℕ → ℕ → Type 0
AreLaid at exit [] end last = (at ≡ end) × (exit ≡ last)
AreLaid at exit (pl ∷ pls) end last = (pl.at ≡ at) × (pl.exit ≡ exit) × AreLaid (end_of pl) (exit + exits_in pl.piece.ops) pls end last

-- ---- places and instructions

-- so many frame words from word k on
abbrev pub words_from : ℕ → ℕ → List Place
words_from k zero = []
words_from k (suc n) = Word k ∷ words_from (k + 1) n

-- the places of a label of so many boxes
abbrev pub label_places : ℕ → List Place
label_places n = words_from 16 n

-- where the boxes of a piece's label stand
abbrev pub label_at : Placed → List Place
label_at pl = map (λ (b : BoxId). pl.setting.at b.number) pl.piece.label

-- the instructions of a piece's operations do what they do wherever the boxes of its label stand at the label's places
pub record IsChosen (set : TraceSet) (pl : Placed) : Type 0 where
  pub table : pl.setting.table ≡ set.table
  pub label : AllZip (λ (p : Place) (b : BoxId). pl.setting.at b.number ≡ p) (label_places (length pl.piece.label)) pl.piece.label
  pub serves : TableServes pl.setting.table
  pub hold : (b : ℕ) → MayHold (pl.setting.at b)
  pub apart : AreApart pl.setting.at pl.piece.ops
  pub safe : AreSafe pl.setting.at pl.piece.ops
  pub chosen : AreChosen pl.setting 0 tell.Nothing pl.piece.ops

-- a loop is entered in front of its first piece, where the frame's base is set
abbrev pub loop_front : Half → List Instr
loop_front Pre = entry_instr ∷ []
loop_front Body = []

-- ---- where jumps lead

-- where the first operation of the piece of this name stands
abbrev pub start_in : List Placed → PieceId → ℕ
start_in [] q = 0
start_in (pl ∷ pls) q = if same_piece q pl.piece.id then start_of pl else start_in pls q

-- Operation k leads to the start of the piece to which it jumps, with the arguments at the places of that label, or to its stub.
abbrev pub Leads : (PieceId → ℕ) → Placed → ℕ → OptOp → Type 0
Leads starts pl k (opt.Plain operation r args d) = Unit {0}
Leads starts pl k (opt.Guard operation args n snap) = pl.to k ≡ stub_of pl k
Leads starts pl k (opt.Exit n snap) = pl.to k ≡ stub_of pl k
Leads starts pl k (opt.Jump to args) = (pl.to k ≡ starts to) × (pl.setting.to ≡ label_places (length args))
Leads starts pl k (opt.Finish value) = pl.to k ≡ stub_of pl k

abbrev pub AllLead : (PieceId → ℕ) → Placed → Type 0
AllLead starts pl = (done rest : List OptOp) (op : OptOp) → pl.piece.ops ≡ done ++ op ∷ rest → Leads starts pl (length done) op

-- ---- rows of exits

-- the place of the displacement of operation k's jump, or else `other`
abbrev pub place_among : ℕ → ℕ → List (ℕ × ℕ) → ℕ
place_among k other [] = other
place_among k other ((j, at) ∷ jumps) = place_among k (if j == k then at else other) jumps

-- boxes with their places
abbrev pub boxes_at : Where → List BoxId → List (BoxId × Place)
boxes_at at bs = map (λ (b : BoxId). (b, at b.number)) bs

-- the box that a finish shows
abbrev pub finished_boxes : Option Arg → List BoxId
finished_boxes None = []
finished_boxes (Some a) = boxes_of_arg a

-- the row of an operation's exit, which has this number; a finish has no guard, and no displacement is told
abbrev pub rows_of_op : Where → PieceId → ℕ → ℕ → OptOp → List ExitRow
rows_of_op at id exit place (opt.Plain operation r args d) = []
rows_of_op at id exit place (opt.Guard operation args n snap) = record { exit = exit; id = id; guard = Some n; at = place; places = boxes_at at (parts_of snap) } ∷ []
rows_of_op at id exit place (opt.Exit n snap) = record { exit = exit; id = id; guard = Some n; at = place; places = boxes_at at (parts_of snap) } ∷ []
rows_of_op at id exit place (opt.Jump to args) = []
rows_of_op at id exit place (opt.Finish value) = record { exit = exit; id = id; guard = None; at = 0; places = boxes_at at (finished_boxes value) } ∷ []

-- those of operations from operation k on
abbrev pub rows_from : Where → PieceId → (ℕ → ℕ) → ℕ → ℕ → List OptOp → List ExitRow
rows_from at id place exit k [] = []
rows_from at id place exit k (op ∷ ops) =
    rows_of_op at id exit (place k) op ++ rows_from at id place (exit + (if has_stub op then 1 else 0)) (k + 1) ops

abbrev pub displacement_of : Placed → ℕ → ℕ
displacement_of pl k = place_among k 0 (jumps_at (start_of pl) (body_of pl))

abbrev pub rows_of : Placed → List ExitRow
rows_of pl = rows_from pl.setting.at pl.piece.id (displacement_of pl) pl.exit 0 pl.piece.ops

abbrev pub all_rows : List Placed → List ExitRow
all_rows [] = []
all_rows (pl ∷ pls) = rows_of pl ++ all_rows pls

-- each pair has an operation that is one of so many
abbrev pub FirstsBelow : ℕ → List (ℕ × ℕ) → Type 0
FirstsBelow count [] = Unit {0}
FirstsBelow count ((k, at) ∷ jumps) = (k < count) × FirstsBelow count jumps
