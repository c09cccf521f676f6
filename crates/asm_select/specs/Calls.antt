-- Calls of the host, and the allocations that are asked of it.
use Rattle.std.specs.Prelude.{◌≡◌, ◌≢◌, ℕ, ◌+◌, ◌^◌, ◌<◌, ◌≤◌, ℤ, pos, List, length, slice_set}
use Rattle.trace_ops.specs.Words.{IsWord}
use Rattle.guard_exit.specs.Codes.{register}
use Rattle.x64_encode.specs.declared.instr.Instr.TheVariants.{CallReg}
use Rattle.target_base.specs.declared.place.Place.{Place}
use Rattle.target_base.specs.declared.place.Place.TheVariants.{In, Word}
use Rattle.target_base.specs.Arena.{Arena}
use Rattle.x64_encode.specs.Form.{spelling}
use Rattle.x64_encode.specs.Listing.{Stands as StandsInCode}
use Rattle.x64_machine.specs.declared.state.Stop.TheVariants.{HostCall}
use Rattle.x64_machine.specs.declared.state.Turn.TheVariants.{Stopped}
use Rattle.x64_machine.specs.State.{State, acted, rsp, with_reg, resumed}
use Rattle.x64_machine.specs.Step.{MachineStep}
use Rattle.asm_select.specs.Valued.{value, IsFit}
use Rattle.asm_select.specs.Chosen.{entry_of}

-- the state at the host's entry: the address to return to stands in the word below the top one
abbrev pub called : ℕ → ℕ → State → State
called entry back s = record (with_reg rsp (pos 0x207FFFF0) (record s { frame = slice_set s.frame 1048574 (pos back) })) { at = entry; instructions = s.instructions + 1 }

-- the state behind the call, with the arena that the host left
abbrev pub answered : ℤ → ℤ → ℕ → Arena → State → State
answered given lost back arena u = resumed given lost (pos back) (record u { arena = arena })

-- a place whose word a call keeps: none of the registers that calls lose, and not the word that the call writes
pub record Survives (q : Place) : Type 0 where
  pub not_0 : q ≢ In (register 0)
  pub not_1 : q ≢ In (register 1)
  pub not_2 : q ≢ In (register 2)
  pub not_6 : q ≢ In (register 6)
  pub not_7 : q ≢ In (register 7)
  pub not_8 : q ≢ In (register 8)
  pub not_9 : q ≢ In (register 9)
  pub not_10 : q ≢ In (register 10)
  pub not_11 : q ≢ In (register 11)
  pub not_pushed : q ≢ Word 1048574

-- what a call and its answer leave
pub record Answered (given : ℤ) (back : ℕ) (arena_left : Arena) (s t : State) : Type 0 where
  pub at : t.at ≡ back
  pub given_is : value t (In (register 0)) ≡ given
  pub kept : (q : Place) → Survives q → value t q ≡ value s q
  pub arena : t.arena ≡ arena_left
  pub loads : t.loads ≡ s.loads
  pub stores : t.stores ≡ s.stores
  pub fit : IsFit t

-- a call through a register of an entry of the host
abbrev pub CallsHost : Type 0
CallsHost =
    (code : List ℕ) (p k r : ℕ) (s : State)
    → length code < 2 ^ 32 → StandsInCode code p (CallReg (register r)) → IsFit s → 1 ≤ k → k < 2 ^ 20 → value s (In (register r)) ≡ pos (entry_of k) → s.at ≡ 0x40000000 + p
    → MachineStep code s (acted (Stopped (HostCall k)) (called (entry_of k) (0x40000000 + (p + length (spelling (CallReg (register r))))) s))

abbrev pub HostAnswers : Type 0
HostAnswers =
    (entry back : ℕ) (given lost : ℤ) (arena : Arena) (s : State)
    → IsFit s → back < 2 ^ 63 → IsWord given → IsWord lost → Answered given back arena s (answered given lost back arena (called entry back s))
