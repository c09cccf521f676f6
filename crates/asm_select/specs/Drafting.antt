-- What selection works with, and what is chosen so far.
use Rattle.std.specs.Prelude.{◌≡◌, ℕ, ◌+◌, ◌-◌, ◌≤◌, nat_lt, Bool, false, ◌||◌, Option, Some, None, pos, List, [], ◌∷◌, ◌++◌, length, slice_get, slice_index_or}
use Rattle.std.specs.List.{flat_map, list_any}
use Rattle.trace_ops.specs.declared.code.OpCode.{OpCode}
use Rattle.trace_ops.specs.declared.code.OpCode.TheVariants as code
use Rattle.trace_ops.specs.declared.table.Table.{Table}
use Rattle.trace_ops.specs.declared.table.ShapeOf.TheVariants.{Size}
use Rattle.trace_ops.specs.declared.trace.BoxId.{BoxId}
use Rattle.trace_ops.specs.declared.trace.Arg.{Arg}
use Rattle.trace_ops.specs.declared.trace.Arg.TheVariants.{Of, Class, Func}
use Rattle.trace_ops.specs.declared.piece.OptOp.{OptOp}
use Rattle.trace_ops.specs.declared.piece.OptOp.TheVariants as opt
use Rattle.trace_ops.specs.Parts.{boxes_of}
use Rattle.trace_ops.specs.Pieces.{snapshots_of}
use Rattle.target_base.specs.declared.place.Place.{Place}
use Rattle.x64_encode.specs.declared.instr.Cc.{Cc}
use Rattle.x64_encode.specs.declared.instr.Cc.TheVariants as cc_is
use Rattle.x64_encode.specs.declared.instr.Instr.{Instr}
use Rattle.x64_encode.specs.declared.instr.Instr.TheVariants.{Jcc, Jmp}
use Rattle.parallel_move.specs.declared.moving.Move.{Move}
use Rattle.parallel_move.specs.Moving.{at_once, after}
use Rattle.parallel_move.specs.Moving as moving
use Rattle.linear_scan.specs.declared.living.Live.{Live}
use Rattle.trace_meaning.specs.Boxes.{same_box}
use Rattle.arena_objects.specs.Layout.{header_of}
use Rattle.asm_select.specs.Given.{where_in}
use Rattle.asm_select.specs.declared.told.Told.{Told}
use Rattle.asm_select.specs.Chosen.{Where, Setting, operand_of, tells, opposite, test_code, compare_code, class_code, nonnull_class_code, access_form, plain_code, jump_code, arg_places, is_needed}

-- what a piece's instructions are chosen by: for each operation moves are planned, and those of the last one are its jump's
pub record Scene : Type 0 where
  pub table : Table
  pub at : List Place
  pub to : List Place
  pub plan : List (List Move)

abbrev pub setting : Scene → Setting
setting s = record {
  table = s.table;
  at = where_in s.at;
  to = s.to;
  moves = slice_index_or s.plan (length s.plan - 1) [];
  call_moves = λ k. slice_index_or s.plan k [];
}

-- ---- what is chosen so far

pub record Drafted : Type 0 where
  pub instrs : List Instr
  pub starts : List ℕ
  pub jumps : List (ℕ × ℕ)

-- operation k, which is the next one, starts here
abbrev pub with_start : Drafted → Drafted
with_start d = record d { starts = d.starts ++ length d.instrs ∷ [] }

abbrev pub with_instrs : List Instr → Drafted → Drafted
with_instrs more d = record d { instrs = d.instrs ++ more }

-- a jump of operation k comes next, whose displacement is still to be set
abbrev pub with_jump : Instr → ℕ → Drafted → Drafted
with_jump i k d = record d { instrs = d.instrs ++ i ∷ []; jumps = d.jumps ++ (length d.instrs, k) ∷ [] }

abbrev pub with_leave : Cc → ℕ → Drafted → Drafted
with_leave cond k d = with_jump (Jcc cond (pos 0)) k d

abbrev pub with_leave_false : Setting → ℕ → Option Cc → Arg → Drafted → Drafted
with_leave_false c k (Some cond) a d = with_leave (opposite cond) k d
with_leave_false c k None a d = with_leave cc_is.E k (with_instrs (test_code (operand_of c a)) d)

abbrev pub with_leave_true : Setting → ℕ → Option Cc → Arg → Drafted → Drafted
with_leave_true c k (Some cond) a d = with_leave cond k d
with_leave_true c k None a d = with_leave cc_is.Ne k (with_instrs (test_code (operand_of c a)) d)

-- a guard on overflow, whatever its arguments are
abbrev pub with_bare : ℕ → OpCode → Drafted → Drafted
with_bare k code.GuardNoOverflow d = with_leave cc_is.O k d
with_bare k code.GuardOverflow d = with_leave cc_is.No k d
with_bare k operation d = d

abbrev pub with_one : Setting → ℕ → Told → OpCode → Arg → Drafted → Drafted
with_one c k told code.GuardTrue a d = with_leave_false c k (tells told a) a d
with_one c k told code.GuardFalse a d = with_leave_true c k (tells told a) a d
with_one c k told code.GuardNonnull a d = with_leave_false c k None a d
with_one c k told code.GuardIsnull a d = with_leave_true c k None a d
with_one c k told code.GuardNoOverflow a d = with_leave cc_is.O k d
with_one c k told code.GuardOverflow a d = with_leave cc_is.No k d
with_one c k told operation a d = d

abbrev pub with_value : Setting → ℕ → Arg → Arg → Drafted → Drafted
with_value c k a b d = with_leave cc_is.Ne k (with_instrs (compare_code (operand_of c a) (operand_of c b)) d)

abbrev pub with_class : Setting → ℕ → Arg → Arg → Drafted → Drafted
with_class c k a (Class n) d = with_leave cc_is.Ne k (with_instrs (class_code (operand_of c a) (header_of c.table (Size n))) d)
with_class c k a b d = d

abbrev pub with_nonnull_class : Setting → ℕ → Arg → Arg → Drafted → Drafted
with_nonnull_class c k a (Class n) d = with_leave cc_is.Ne k (with_instrs (nonnull_class_code (operand_of c a) (header_of c.table (Size n))) d)
with_nonnull_class c k a b d = d

abbrev pub with_two : Setting → ℕ → OpCode → Arg → Arg → Drafted → Drafted
with_two c k code.GuardValue a b d = with_value c k a b d
with_two c k code.GuardClass a b d = with_class c k a b d
with_two c k code.GuardNonnullClass a b d = with_nonnull_class c k a b d
with_two c k code.GuardNoOverflow a b d = with_leave cc_is.O k d
with_two c k code.GuardOverflow a b d = with_leave cc_is.No k d
with_two c k operation a b d = d

abbrev pub with_guard : Setting → ℕ → Told → OpCode → List Arg → Drafted → Drafted
with_guard c k told operation (a ∷ []) d = with_one c k told operation a d
with_guard c k told operation (a ∷ b ∷ []) d = with_two c k operation a b d
with_guard c k told operation args d = with_bare k operation d

-- operation k's instructions, in front of these operations
abbrev pub with_body : Setting → ℕ → Told → OptOp → List OptOp → Drafted → Drafted
with_body c k told (opt.Plain operation r args e) ops d = with_instrs (plain_code c k operation (access_form operation) r args e ops) d
with_body c k told (opt.Guard operation args n snap) ops d = with_guard c k told operation args d
with_body c k told (opt.Exit n snap) ops d = with_jump (Jmp (pos 0)) k d
with_body c k told (opt.Jump to args) ops d = with_jump (Jmp (pos 0)) k (with_instrs (jump_code c args) d)
with_body c k told (opt.Finish value) ops d = with_jump (Jmp (pos 0)) k d

abbrev pub with_op : Setting → ℕ → Told → OptOp → List OptOp → Drafted → Drafted
with_op c k told op ops d = with_body c k told op ops (with_start d)

-- ---- moves

-- the pairs of places of those arguments that stand at places
abbrev pub pair_at : Where → Place → Arg → List (Place × Place)
pair_at at target (Of b) = (target, at b.number) ∷ []
pair_at at target a = []

abbrev pub pairs_at : Where → List Arg → List Place → List (Place × Place)
pairs_at at [] targets = []
pairs_at at (a ∷ args) [] = []
pairs_at at (a ∷ args) (target ∷ targets) = pair_at at target a ++ pairs_at at args targets

-- these moves have the effect of all pairs at once, and touch no other places
pub record Moved (pairs : List (Place × Place)) (ms : List Move) : Type 0 where
  pub acts : (words : moving.State) (p : Place) → after ms words p ≡ at_once pairs words p
  pub among : moving.MovesAmong pairs ms
  pub few : length ms ≤ length pairs

-- the moves of a call's arguments and of a jump's
abbrev pub CallIsPlanned : Where → List Arg → List Move → Type 0
CallIsPlanned at (Func f ∷ args) ms = Moved (pairs_at at args arg_places) ms
CallIsPlanned at args ms = Unit {0}

abbrev pub IsPlanned : Where → List Place → OptOp → List Move → Type 0
IsPlanned at to (opt.Plain operation r args d) ms = CallIsPlanned at args ms
IsPlanned at to (opt.Jump target args) ms = Moved (pairs_at at args to) ms
IsPlanned at to op ms = Unit {0}

-- ---- boxes that are needed again

-- the last operation at which a box lives
abbrev pub end_of_life : Option Live → ℕ
end_of_life None = 0
end_of_life (Some live) = live.to

abbrev pub end_in : List Live → ℕ → ℕ
end_in lives b = end_of_life (slice_get lives b)

-- the next operation has the box in its snapshot
abbrev pub in_next : BoxId → List OptOp → Bool
in_next r [] = false
in_next r (op ∷ ops) = list_any (same_box r) (flat_map boxes_of (snapshots_of op))

-- the lives tell whether this box, the result of operation k, is needed behind the operation that tests it
abbrev pub Tells : List Live → ℕ → List OptOp → BoxId → Type 0
Tells lives k ops r = is_needed r ops ≡ (in_next r ops || nat_lt (k + 1) (end_in lives r.number))

abbrev pub LivesTell : List Live → ℕ → OptOp → List OptOp → Type 0
LivesTell lives k (opt.Plain operation (Some r) args d) ops = Tells lives k ops r
LivesTell lives k op ops = Unit {0}
