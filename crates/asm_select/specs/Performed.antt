-- What the code of an operation on objects comes to.
use Rattle.std.specs.Prelude.{◌≡◌, ◌≢◌, ℕ, ◌+◌, ◌<◌, ◌≤◌, List, Option, Some, length}
use Rattle.trace_ops.specs.Words.{IsWord}
use Rattle.trace_ops.specs.declared.table.Table.{Table}
use Rattle.trace_meaning.specs.declared.value.Value.{Value}
use Rattle.trace_meaning.specs.declared.value.Object.{Object}
use Rattle.target_base.specs.declared.place.Place.{Place}
use Rattle.x64_machine.specs.State.{State}
use Rattle.asm_select.specs.declared.operand.Operand.{Operand}
use Rattle.asm_select.specs.declared.operand.Operand.TheVariants.{At, Imm}
use Rattle.asm_select.specs.Valued.{r11, r15, value, MayHold, IsFit}
use Rattle.asm_select.specs.Reached.{read}
use Rattle.arena_objects.specs.Layout.{address_of, word_of}
use Rattle.arena_objects.specs.Standing.{IsPart, Stands}

-- an operand that code may read
abbrev pub CanBeRead : Operand → Type 0
CanBeRead (At p) = MayHold p
CanBeRead (Imm w) = IsWord w

-- an operand holds a value, where these are the objects
abbrev pub IsHeld : List Object → State → Operand → Value → Type 0
IsHeld objects s a x = read s a ≡ word_of (address_of objects) x

-- The objects after an operation stand in the arena, no object has moved, the place holds what is given, and all but
-- the place and the scratch registers is as before.
pub record Performed (t : Table) (d : Place) (given : Option Value) (old new : List Object) (more_loads more_stores : ℕ) (s u : State) : Type 0 where
  pub stands : Stands t new u.arena
  pub result : (x : Value) → given ≡ Some x → value u d ≡ word_of (address_of new) x
  pub part : (x : Value) → given ≡ Some x → IsPart (length new) x
  pub more : length old ≤ length new
  pub kept : (m : ℕ) → m < length old → address_of new m ≡ address_of old m
  pub others : (q : Place) → q ≢ r11 → q ≢ r15 → q ≢ d → value u q ≡ value s q
  pub loads : u.loads ≡ s.loads + more_loads
  pub stores : u.stores ≡ s.stores + more_stores
  pub fit : IsFit u
