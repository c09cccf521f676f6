-- What selection gives is such as the laws on code ask for.
use Rattle.std.specs.Prelude.{◌≡◌, ℕ, ◌+◌, ◌*◌, ◌≤◌, ℤ, List, length, map}
use Rattle.std.specs.List.{All, sum_by}
use Rattle.trace_ops.specs.declared.trace.TraceSet.{TraceSet}
use Rattle.trace_ops.specs.declared.piece.Piece.{Piece}
use Rattle.trace_ops.specs.InRange.{IsTableInRange}
use Rattle.trace_ops.specs.Pieces.{size_of}
use Rattle.opt_meaning.specs.Worded.{OpHasWords}
use Rattle.target_base.specs.declared.place.Place.{Place}
use Rattle.linear_scan.specs.declared.places.Places.{Places}
use Rattle.x64_encode.specs.declared.instr.Instr.{Instr}
use Rattle.x64_encode.specs.Form.{spelling}
use Rattle.asm_select.specs.declared.selected.Selected.{Selected}
use Rattle.asm_select.specs.declared.told.Told.TheVariants as tell
use Rattle.asm_select.specs.Slots.{instrs_of, jumps_from}
use Rattle.asm_select.specs.Valued.{MayHold}
use Rattle.asm_select.specs.Chosen.{Setting, all_code, starts_from}
use Rattle.asm_select.specs.Reached.{AreApart}
use Rattle.asm_select.specs.Ended.{TableServes}
use Rattle.asm_select.specs.Asked.{AreSafe, AreChosen}
use Rattle.asm_select.specs.Given.{where_in}
use Rattle.asm_select.specs.Laid.{stub_sizes}
use Rattle.asm_select.specs.Selecting.{CanSelect, IsSelected}

-- a jump, where the piece's first operation has this key
abbrev pub with_key : ℕ → ℕ × ℕ → ℕ × ℕ
with_key key jump = (jump.0, key + jump.1)

-- The instructions are those of the code of the piece in a setting of which all is known that the laws ask for. The first
-- operation has this key, and the others the next ones.
pub record Fits (set : TraceSet) (piece : Piece) (places : Places) (targets : List Place) (key : ℕ) (s : Selected) : Type 0 where
  pub c : Setting
  pub table : c.table ≡ set.table
  pub at : c.at ≡ where_in places.at
  pub to : c.to ≡ targets
  pub instrs : s.instrs ≡ instrs_of (all_code c key tell.Nothing piece.ops)
  pub starts : s.starts ≡ starts_from 0 c key tell.Nothing piece.ops
  pub jumps : map (with_key key) s.jumps ≡ jumps_from 0 (all_code c key tell.Nothing piece.ops)
  pub serves : TableServes c.table
  pub hold : (b : ℕ) → MayHold (c.at b)
  pub apart : AreApart c.at piece.ops
  pub safe : AreSafe c.at piece.ops
  pub chosen : AreChosen c key tell.Nothing piece.ops

-- Where the table is in range and constants are words, what is selected fits the laws.
abbrev pub SelectedFits : Type 0
SelectedFits =
    (set : TraceSet) (piece : Piece) (places : Places) (to : List Place) (key : ℕ) (s : Selected)
    → CanSelect set piece places to → IsTableInRange set.table → All OpHasWords piece.ops → IsSelected set piece places to s
    → Fits set piece places to key s

-- the bytes of instructions
abbrev pub bytes_in : List Instr → ℕ
bytes_in is = sum_by (λ (i : Instr). length (spelling i)) is

-- Where the table is in range, the instructions, with the stubs of the exits, have at most 32 bytes a unit of the piece's size.
abbrev pub IsShort : TraceSet → Piece → Selected → Type 0
IsShort set piece s =
    IsTableInRange set.table → (to : ℕ → ℤ) (exit_of : ℕ → ℕ) → bytes_in s.instrs + stub_sizes to exit_of 0 piece.ops ≤ 32 * size_of piece
