-- What the code of operations on objects does.
use Rattle.std.specs.Prelude.{◌≡◌, ℕ, ◌+◌, ℤ, List, [], ◌∷◌, ◌++◌, length, Option}
use Rattle.trace_ops.specs.declared.trace.Descr.TheVariants as descr
use Rattle.trace_ops.specs.declared.piece.Spot.TheVariants.{Field, Item}
use Rattle.trace_ops.specs.declared.table.Table.{Table}
use Rattle.trace_meaning.specs.declared.value.Value.{Value}
use Rattle.trace_meaning.specs.declared.value.Value.TheVariants as v
use Rattle.trace_meaning.specs.World.{World}
use Rattle.trace_meaning.specs.Performing.{Gave, get_field, set_field, get_item, set_item, get_length}
use Rattle.target_base.specs.declared.place.Place.{Place}
use Rattle.x64_machine.specs.State.{State}
use Rattle.asm_select.specs.declared.operand.Operand.{Operand}
use Rattle.asm_select.specs.Slots.{Slot, puts}
use Rattle.asm_select.specs.Valued.{r11, MayHold, IsFit}
use Rattle.asm_select.specs.Reached.{Reach}
use Rattle.arena_objects.specs.Standing.{IsPart, Stands}
use Rattle.arena_objects.specs.Spots.{spot_offset, ListsItsFields}
use Rattle.asm_select.specs.Chosen.{read_code, write_code, read_item_code, write_item_code}
use Rattle.asm_select.specs.Performed.{CanBeRead, IsHeld, Performed}

-- a state before some code, in which the objects of a world stand
pub record IsBefore (t : Table) (w : World) (p : ℕ) (s : State) : Type 0 where
  pub lists : ListsItsFields t
  pub stands : Stands t w.objects s.arena
  pub fit : IsFit s
  pub at : s.at ≡ 0x40000000 + p

abbrev pub GetsField : Type 0
GetsField =
    (t : Table) (f : ℕ) (base : Value) (given : Option Value) (w u : World) (p : ℕ) (d : Place) (a : Operand) (ys : List Slot) (s : State)
    → get_field t (descr.Field f) (base ∷ []) w ≡ Gave given u → IsBefore t w p s → MayHold d → CanBeRead a → IsHeld w.objects s a base
    → Reach p (puts (read_code d a (spot_offset t (Field f))) ++ ys) s ys (Performed t d given w.objects u.objects 1 0 s)

abbrev pub SetsField : Type 0
SetsField =
    (t : Table) (f : ℕ) (base x : Value) (given : Option Value) (w u : World) (p : ℕ) (a c : Operand) (ys : List Slot) (s : State)
    → set_field t (descr.Field f) (base ∷ x ∷ []) w ≡ Gave given u → IsBefore t w p s → CanBeRead a → CanBeRead c → IsHeld w.objects s a base → IsHeld w.objects s c x → IsPart (length w.objects) x
    → Reach p (puts (write_code a (spot_offset t (Field f)) c) ++ ys) s ys (Performed t r11 given w.objects u.objects 0 1 s)

-- an item, where the index is known before the run, and where it isn't
abbrev pub GetsKnownItem : Type 0
GetsKnownItem =
    (t : Table) (array : ℕ) (i : ℤ) (base : Value) (given : Option Value) (w u : World) (p : ℕ) (d : Place) (a : Operand) (ys : List Slot) (s : State)
    → get_item t (descr.Array array) (base ∷ v.Int i ∷ []) w ≡ Gave given u → IsBefore t w p s → MayHold d → CanBeRead a → IsHeld w.objects s a base
    → Reach p (puts (read_code d a (spot_offset t (Item array i))) ++ ys) s ys (Performed t d given w.objects u.objects 1 0 s)

abbrev pub GetsItem : Type 0
GetsItem =
    (t : Table) (array : ℕ) (i : ℤ) (base : Value) (given : Option Value) (w u : World) (p : ℕ) (d : Place) (a c : Operand) (ys : List Slot) (s : State)
    → get_item t (descr.Array array) (base ∷ v.Int i ∷ []) w ≡ Gave given u → IsBefore t w p s → MayHold d → CanBeRead a → CanBeRead c → IsHeld w.objects s a base → IsHeld w.objects s c (v.Int i)
    → Reach p (puts (read_item_code d a c) ++ ys) s ys (Performed t d given w.objects u.objects 1 0 s)

abbrev pub SetsKnownItem : Type 0
SetsKnownItem =
    (t : Table) (array : ℕ) (i : ℤ) (base x : Value) (given : Option Value) (w u : World) (p : ℕ) (a c : Operand) (ys : List Slot) (s : State)
    → set_item t (descr.Array array) (base ∷ v.Int i ∷ x ∷ []) w ≡ Gave given u → IsBefore t w p s → CanBeRead a → CanBeRead c → IsHeld w.objects s a base → IsHeld w.objects s c x → IsPart (length w.objects) x
    → Reach p (puts (write_code a (spot_offset t (Item array i)) c) ++ ys) s ys (Performed t r11 given w.objects u.objects 0 1 s)

abbrev pub SetsItem : Type 0
SetsItem =
    (t : Table) (array : ℕ) (i : ℤ) (base x : Value) (given : Option Value) (w u : World) (p : ℕ) (a b c : Operand) (ys : List Slot) (s : State)
    → set_item t (descr.Array array) (base ∷ v.Int i ∷ x ∷ []) w ≡ Gave given u → IsBefore t w p s → CanBeRead a → CanBeRead b → CanBeRead c → IsHeld w.objects s a base → IsHeld w.objects s b (v.Int i) → IsHeld w.objects s c x → IsPart (length w.objects) x
    → Reach p (puts (write_item_code a b c) ++ ys) s ys (Performed t r11 given w.objects u.objects 0 1 s)

abbrev pub GetsLength : Type 0
GetsLength =
    (t : Table) (array : ℕ) (base : Value) (given : Option Value) (w u : World) (p : ℕ) (d : Place) (a : Operand) (ys : List Slot) (s : State)
    → get_length (descr.Array array) (base ∷ []) w ≡ Gave given u → IsBefore t w p s → MayHold d → CanBeRead a → IsHeld w.objects s a base
    → Reach p (puts (read_code d a 8) ++ ys) s ys (Performed t d given w.objects u.objects 1 0 s)
