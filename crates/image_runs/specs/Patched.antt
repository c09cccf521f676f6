-- The bytes of an attachment: slots are appended, then four bytes change a copy.
use Rattle.std.specs.Prelude.{◌≡◌, ◌≢◌, ℕ, ◌+◌, ◌==◌, if◌then◌else◌, ℤ, List, [], ◌∷◌, ◌++◌, map}
use Rattle.std.specs.List.{AllByRecursion}
use Rattle.asm_select.specs.Slots.{Slot, Put, Leave, Go, Jumps, bytes_of, sizes_of}
use Rattle.image_runs.specs.Printed.{Patch, Part}
use Rattle.image_runs.specs.Reached.{IsJumpOf}
use Rattle.image_runs.specs.Image.{Image, disp_in}
use Rattle.image_runs.specs.Attached.{Grown}

-- the jumps with another displacement at one key
abbrev pub with_jump : ℕ → ℤ → Jumps → Jumps
with_jump e d by x = if x == e then d else by x

-- no jump has this key
abbrev pub IsAway : ℕ → List Slot → Type 0
IsAway e [] = Unit {0}
IsAway e (Put i ∷ xs) = IsAway e xs
IsAway e (Leave cond x ∷ xs) = (x ≢ e) × IsAway e xs
IsAway e (Go x ∷ xs) = (x ≢ e) × IsAway e xs

-- a copy of a guard among the slots, and where its jump leads before and after
pub record Copy : Type 0 where
  pub key : ℕ
  pub before : ℤ
  pub after : ℤ
  pub front : List Slot
  pub slot : Slot
  pub behind : List Slot

-- it is the one jump of its key
pub record IsCopy (xs : List Slot) (c : Copy) : Type 0 where
  pub split : xs ≡ c.front ++ c.slot ∷ c.behind
  pub jump : IsJumpOf c.slot c.key
  pub front : IsAway c.key c.front
  pub behind : IsAway c.key c.behind

-- its patch
abbrev pub patch_of : Copy → Patch
patch_of c = record { at = sizes_of c.front + disp_in c.slot; before = c.before; after = c.after }

-- with all copies patched, in order
abbrev pub with_copies : List Copy → Jumps → Jumps
with_copies [] by = by
with_copies (c ∷ cs) by = with_copies cs (with_jump c.key c.after by)

-- the appended part of a printed image is that of an attachment
pub record IsPart (g h : Image) (grown : Grown g h) (x : Part) : Type 0 where
  pub by : Jumps  -- displacements when the slots were appended, before any patch
  pub old : (e : ℕ) (front behind : List Slot) (y : Slot) → g.slots ≡ front ++ y ∷ behind → IsJumpOf y e → by e ≡ g.by e
  pub copies : List Copy
  pub are : AllByRecursion (IsCopy h.slots) copies
  pub bytes : x.bytes ≡ bytes_of by grown.more
  pub patches : x.patches ≡ map patch_of copies
  pub now : (e : ℕ) → h.by e ≡ with_copies copies by e
