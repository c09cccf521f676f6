-- The laws of the crates below on which those of this crate rest.
use Rattle.std.specs.Prelude.{◌≡◌, ℕ, ◌≤◌, List, ◌++◌, length}
use Rattle.x64_encode.specs.declared.instr.Instr.{Instr}
use Rattle.x64_encode.specs.Form.{InstrForm, spelling}
use Rattle.x64_machine.specs.Running.{OneOutcome, InstructionsAreCounted}
use Rattle.asm_select.specs.Laid.{SlotsStand}

-- no spelling begins another, and each stands for one instruction
abbrev pub OneInstruction : Type 0
OneInstruction = (i j : Instr) (a b x y : List ℕ) → InstrForm i a → InstrForm j b → a ++ x ≡ b ++ y → (i ≡ j) × (a ≡ b)

-- what instructions, the machine and slots do
pub record Relies : Type 0 where
  pub instruction : OneInstruction
  pub least : (i : Instr) → 1 ≤ length (spelling i)
  pub outcome : OneOutcome
  pub counted : InstructionsAreCounted
  pub stand : SlotsStand
