-- What a run comes to, with the places that its instruction pointer goes through.
use Rattle.std.specs.Prelude.{◌≡◌, ℕ, ◌+◌, List, ◌++◌}
use Rattle.std.specs.List.{AllByRecursion}
use Rattle.x64_machine.specs.State.{State}
use Rattle.asm_select.specs.Slots.{Slot, Put, Leave, Go, sizes_of}
use Rattle.asm_select.specs.Reached.{Reach}

-- the state stands in front of or behind one of the slots from a place on
abbrev pub IsSpot : ℕ → List Slot → State → Type 0
IsSpot p xs u = (front : List Slot) × (back : List Slot) × (xs ≡ front ++ back) × (u.at ≡ 0x40000000 + (p + sizes_of front))

-- From a state before some slots, a run comes to a state before other slots; and where the instruction pointer is followed,
-- each state of the path stands in front of or behind a slot.
pub record Comes (followed : Type 0) (p : ℕ) (xs : List Slot) (s : State) (ys : List Slot) (R : State → Type 0) : Type 0 where
  pub run : Reach p xs s ys R
  pub spots : followed → AllByRecursion (IsSpot p xs) run.path

-- the slot is the jump with this key
abbrev pub IsJumpOf : Slot → ℕ → Type 0
IsJumpOf (Put i) e = ⊥
IsJumpOf (Leave cond x) e = x ≡ e
IsJumpOf (Go x) e = x ≡ e
