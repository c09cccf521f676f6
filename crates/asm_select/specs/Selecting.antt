-- What selection asks for, and what it gives.
use Rattle.std.specs.Prelude.{◌≡◌, ℕ, ◌+◌, ◌<◌, ◌≤◌, ◌^◌, Option, Some, List, length, slice_get, drop}
use Rattle.std.specs.List.{AllZip}
use Rattle.trace_ops.specs.declared.table.Table.{Table}
use Rattle.trace_ops.specs.declared.trace.BoxId.{BoxId}
use Rattle.trace_ops.specs.declared.trace.Arg.{Arg}
use Rattle.trace_ops.specs.declared.trace.TraceSet.{TraceSet}
use Rattle.trace_ops.specs.declared.piece.PieceId.{PieceId}
use Rattle.trace_ops.specs.declared.piece.OptOp.{OptOp}
use Rattle.trace_ops.specs.declared.piece.OptOp.TheVariants as opt
use Rattle.trace_ops.specs.declared.piece.Piece.{Piece}
use Rattle.trace_ops.specs.Sound.{IsSound}
use Rattle.target_base.specs.declared.place.Place.{Place}
use Rattle.target_base.specs.declared.place.Place.TheVariants.{In, Word}
use Rattle.linear_scan.specs.declared.living.Live.{Live}
use Rattle.linear_scan.specs.declared.places.Places.{Places}
use Rattle.linear_scan.specs.Registers.{IsValueRegister}
use Rattle.linear_scan.specs.Placing.{AreDistinct, Allocated}
use Rattle.parallel_move.specs.declared.moving.Move.{Move}
use Rattle.asm_select.specs.declared.selected.Selected.{Selected}
use Rattle.asm_select.specs.declared.told.Told.TheVariants as tell
use Rattle.asm_select.specs.Slots.{instrs_of, jumps_from}
use Rattle.asm_select.specs.Chosen.{Setting, all_code, starts_from}
use Rattle.asm_select.specs.Given.{where_in}
use Rattle.asm_select.specs.Drafting.{Scene, setting, IsPlanned, LivesTell}

-- a place of a label: a register for values, or a frame word for values
abbrev pub IsLabelWord : Place → Type 0
IsLabelWord (In r) = IsValueRegister 12 r.0
IsLabelWord (Word k) = (16 ≤ k) × (k < 1048320)

-- the places of the label to which the piece jumps, one an argument
pub record AreTargets (piece : Piece) (to : List Place) : Type 0 where
  pub each : (i : ℕ) (p : Place) → slice_get to i ≡ Some p → IsLabelWord p
  pub distinct : AreDistinct to
  pub count : (k : ℕ) (target : PieceId) (args : List Arg) → slice_get piece.ops k ≡ Some (opt.Jump target args) → length args ≡ length to

-- a sound piece over the places that an allocation gave for it, which leave the stack's words alone
pub record CanSelect (set : TraceSet) (piece : Piece) (places : Places) (to : List Place) : Type 0 where
  pub label_of : PieceId → Option (List BoxId)
  pub sound : IsSound set label_of piece
  pub few : length piece.ops + 1 < 2 ^ 32
  pub registers : ℕ
  pub label : List Place
  pub allocated : Allocated piece registers label places
  pub words : places.words + length to ≤ 1048320
  pub targets : AreTargets piece to

-- the lives tell of each operation's result whether it is needed again
abbrev pub AllTell : List Live → List OptOp → Type 0
AllTell lives ops = (k : ℕ) (op : OptOp) → slice_get ops k ≡ Some op → LivesTell lives k op (drop (k + 1) ops)

-- the instructions, starts and jumps are those of the code of these operations
pub record IsCodeOf (c : Setting) (ops : List OptOp) (s : Selected) : Type 0 where
  pub instrs : s.instrs ≡ instrs_of (all_code c 0 tell.Nothing ops)
  pub starts : s.starts ≡ starts_from 0 c 0 tell.Nothing ops
  pub jumps : s.jumps ≡ jumps_from 0 (all_code c 0 tell.Nothing ops)

-- the setting of a piece of which these moves are planned
abbrev pub scene_of : Table → Places → List Place → List (List Move) → Scene
scene_of t places to plan = record { table = t; at = places.at; to = to; plan = plan }

-- With some moves that bring the arguments of jumps and calls where they are to be, the code is that of the piece.
pub record IsSelected (set : TraceSet) (piece : Piece) (places : Places) (to : List Place) (s : Selected) : Type 0 where
  pub plan : List (List Move)
  pub planned : AllZip (IsPlanned (where_in places.at) to) piece.ops plan
  pub code : IsCodeOf (setting (scene_of set.table places to plan)) piece.ops s
