-- When an instruction counts a failure: it takes the jump of a guard's row. It is told by the flags in front of the
-- instruction and not by where it went, since a displacement may be 0, and then both ways lead to one place.
use Rattle.std.specs.Prelude.{◌≡◌, ℕ, ◌+◌, Some, true, List}
use Rattle.std.specs.List.{Contains}
use Rattle.x64_encode.specs.declared.instr.Instr.{Instr}
use Rattle.x64_encode.specs.declared.instr.Instr.TheVariants.{Jcc, Jmp}
use Rattle.x64_machine.specs.declared.state.Flags.{Flags}
use Rattle.x64_encode.specs.Listing.{Stands}
use Rattle.x64_machine.specs.Words.{holds}
use Rattle.x64_machine.specs.State.{State}
use Rattle.guard_exit.specs.declared.row.ExitRow.{ExitRow}

-- the instruction at a place jumps by the displacement whose bytes stand at a place
abbrev pub JumpsBy : Instr → ℕ → ℕ → Flags → Type 0
JumpsBy (Jcc cond d) place at f = (at ≡ place + 2) × (holds cond f ≡ Some true)
JumpsBy (Jmp d) place at f = at ≡ place + 1
JumpsBy _ place at f = ⊥

-- the next instruction of the machine does
pub record TakesJump (code : List ℕ) (at : ℕ) (s : State) : Type 0 where
  pub place : ℕ
  pub instr : Instr
  pub here : s.at ≡ 0x40000000 + place
  pub stands : Stands code place instr
  pub jumps : JumpsBy instr place at s.flags

-- the row is a guard's
abbrev pub IsGuards : ExitRow → Type 0
IsGuards row = (n : ℕ) × (row.guard ≡ Some n)

-- it takes the jump of a guard's row
abbrev pub CountsFailure : List ℕ → List ExitRow → State → Type 0
CountsFailure code rows s = (row : ExitRow) × Contains rows row × IsGuards row × TakesJump code row.at s
