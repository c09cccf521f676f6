-- The jumps of a piece's code.
use Rattle.std.specs.Prelude.{◌≡◌, ℕ, ◌+◌, Bool, true, false, List, ◌∷◌, ◌++◌, length}
use Rattle.trace_ops.specs.declared.code.OpCode.{OpCode}
use Rattle.trace_ops.specs.declared.code.OpCode.TheVariants as code
use Rattle.trace_ops.specs.declared.piece.OptOp.{OptOp}
use Rattle.trace_ops.specs.declared.piece.OptOp.TheVariants as opt
use Rattle.asm_select.specs.declared.told.Told.{Told}
use Rattle.asm_select.specs.Slots.{jumps_from}
use Rattle.asm_select.specs.Chosen.{Setting, all_code}
use Rattle.asm_select.specs.Asked.{AreChosen}
use Rattle.code_layout.specs.Leading.{JumpIs, JumpsOnce}
use Rattle.code_layout.specs.Emitting.{KeysBelow}

-- a guard on an exception always passes
abbrev pub can_fail : OpCode → Bool
can_fail code.GuardNoException = false
can_fail operation = true

-- the operation is left by a jump
abbrev pub has_jump : OptOp → Bool
has_jump (opt.Plain operation result args d) = false
has_jump (opt.Guard operation args n snap) = can_fail operation
has_jump (opt.Exit n snap) = true
has_jump (opt.Jump to args) = true
has_jump (opt.Finish value) = true

-- In the code of operations, of which the first is operation k, no operation has two jumps, and each that is left by one has one.
pub record JumpsAreTheirs (c : Setting) (k : ℕ) (told : Told) (ops : List OptOp) : Type 0 where
  pub once : JumpsOnce (all_code c k told ops)
  pub below : (n : ℕ) → KeysBelow (k + length ops) (jumps_from n (all_code c k told ops))
  pub each : (done rest : List OptOp) (op : OptOp) (p : ℕ) → ops ≡ done ++ op ∷ rest → has_jump op ≡ true → (at : ℕ) × JumpIs (k + length done) at p (all_code c k told ops)

abbrev pub ChosenJumps : Type 0
ChosenJumps = (c : Setting) (k : ℕ) (told : Told) (ops : List OptOp) → AreChosen c k told ops → JumpsAreTheirs c k told ops
