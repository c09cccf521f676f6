-- What holds of slots whose jumps lead to places.
use Rattle.std.specs.Prelude.{◌≡◌, ◌≢◌, ℕ, ◌+◌, ◌<◌, ◌^◌, List, ◌++◌, length}
use Rattle.x64_encode.specs.Listing.{IsWhole}
use Rattle.asm_select.specs.Slots.{Slot, Jumps, instrs_of, jumps_from, sizes_of, unset, HaveRows, Lists}
use Rattle.asm_select.specs.Laid.{AreNear}
use Rattle.asm_select.specs.Exited.{AllLead}
use Rattle.code_layout.specs.Leading.{way, led_bytes, jumps_at, JumpIs, JumpsOnce, patched}
use Rattle.code_layout.specs.Emitting.{AllHaveRows, total_size, emitted, noted}

-- the instructions and jumps of slots, emitted, are the bytes and the jumps of the slots
abbrev pub SlotsAreEmitted : Type 0
SlotsAreEmitted = (to : ℕ → ℕ) (p : ℕ) (xs : List Slot) → emitted to p 0 (instrs_of xs) (jumps_from 0 xs) ≡ led_bytes to p xs

abbrev pub JumpsAreNoted : Type 0
JumpsAreNoted = (p : ℕ) (xs : List Slot) → noted p 0 (instrs_of xs) (jumps_from 0 xs) ≡ jumps_at p xs

abbrev pub SizesAreTold : Type 0
SizesAreTold = (to : ℕ → ℕ) (p : ℕ) (xs : List Slot) → (total_size (instrs_of xs) ≡ sizes_of xs) × (length (led_bytes to p xs) ≡ sizes_of xs)

abbrev pub SlotsHaveRows : Type 0
SlotsHaveRows = (xs : List Slot) → HaveRows unset xs → AllHaveRows (instrs_of xs)

-- displacements for which slots stand in a code from a place on, and their jumps lead so
pub record AreLed (to : ℕ → ℕ) (p : ℕ) (xs : List Slot) (code : List ℕ) : Type 0 where
  pub by : Jumps
  pub near : AreNear by
  pub lists : Lists by code p xs
  pub leads : AllLead by to p xs

-- slots below 2^31 are led so where their bytes stand
abbrev pub LedSlotsStand : Type 0
LedSlotsStand =
    (to : ℕ → ℕ) (xs : List Slot) (before behind : List ℕ)
    → JumpsOnce xs → HaveRows unset xs → length before + sizes_of xs < 2 ^ 31 → ((k : ℕ) → to k < 2 ^ 31)
    → AreLed to (length before) xs (before ++ (led_bytes to (length before) xs ++ behind)) × IsWhole (led_bytes to (length before) xs)

-- Where the jump of one operation leads elsewhere, four bytes are others: its displacement, which counts from behind it.
abbrev pub JumpsArePatched : Type 0
JumpsArePatched =
    (to next : ℕ → ℕ) (k at : ℕ) (xs : List Slot) (before behind : List ℕ)
    → ((j : ℕ) → j ≢ k → next j ≡ to j) → JumpsOnce xs → JumpIs k at (length before) xs
    → before ++ (led_bytes next (length before) xs ++ behind) ≡ patched at (way (at + 4) (next k)) (before ++ (led_bytes to (length before) xs ++ behind))
