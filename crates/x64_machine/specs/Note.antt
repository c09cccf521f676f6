-- Bytes that were read once, and the instruction that they begin with.
use Rattle.std.specs.Prelude.{ℕ, List}
use Rattle.x64_encode.specs.declared.instr.Instr.{Instr}

pub record Note : Type 0 where
  pub window : List ℕ
  pub count : ℕ
  pub instr : Instr
  pub len : ℕ
