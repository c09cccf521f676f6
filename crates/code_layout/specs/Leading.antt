-- The bytes of slots whose jumps lead to places.
use Rattle.std.specs.Prelude.{◌≡◌, ◌≢◌, ◌⊎◌, ℕ, ◌+◌, ℤ, pos, ◌-ℤ◌, List, [], ◌∷◌, ◌++◌, take, drop}
use Rattle.std.specs.Int.{to_le_bytes, cast_unsigned, w32}
use Rattle.x64_encode.specs.declared.instr.Instr.{Instr}
use Rattle.x64_encode.specs.declared.instr.Instr.TheVariants.{Jcc, Jmp}
use Rattle.x64_encode.specs.Form.{spelling}
use Rattle.asm_select.specs.Slots.{Slot, Put, Leave, Go, size_of}

-- the displacement of a jump, from the place behind it
abbrev pub way : ℕ → ℕ → ℤ
way from to = pos to -ℤ pos from

-- the slot at a place, where the jump of operation k leads to the place `to k`
abbrev pub led : (ℕ → ℕ) → ℕ → Slot → Instr
led to p (Put i) = i
led to p (Leave cond k) = Jcc cond (way (p + 6) (to k))
led to p (Go k) = Jmp (way (p + 5) (to k))

-- slots from a place on
abbrev pub led_bytes : (ℕ → ℕ) → ℕ → List Slot → List ℕ
led_bytes to p [] = []
led_bytes to p (x ∷ xs) = spelling (led to p x) ++ led_bytes to (p + size_of x) xs

-- the jumps among slots from a place on: operation, and the place of the four bytes of its displacement
abbrev pub jumps_at : ℕ → List Slot → List (ℕ × ℕ)
jumps_at p [] = []
jumps_at p (Put i ∷ xs) = jumps_at (p + size_of (Put i)) xs
jumps_at p (Leave cond k ∷ xs) = (k, p + 2) ∷ jumps_at (p + 6) xs
jumps_at p (Go k ∷ xs) = (k, p + 1) ∷ jumps_at (p + 5) xs

-- a jump of operation k stands among slots from a place on, and its displacement at a place
abbrev pub JumpIs : ℕ → ℕ → ℕ → List Slot → Type 0
JumpIs k at p [] = ⊥
JumpIs k at p (Put i ∷ xs) = JumpIs k at (p + size_of (Put i)) xs
JumpIs k at p (Leave cond j ∷ xs) = ((j ≡ k) × (at ≡ p + 2)) ⊎ JumpIs k at (p + 6) xs
JumpIs k at p (Go j ∷ xs) = ((j ≡ k) × (at ≡ p + 1)) ⊎ JumpIs k at (p + 5) xs

-- no jump of operation k is among the slots
abbrev pub IsAway : ℕ → List Slot → Type 0
IsAway k [] = Unit {0}
IsAway k (Put i ∷ xs) = IsAway k xs
IsAway k (Leave cond j ∷ xs) = (j ≢ k) × IsAway k xs
IsAway k (Go j ∷ xs) = (j ≢ k) × IsAway k xs

-- no operation has two
abbrev pub JumpsOnce : List Slot → Type 0
JumpsOnce [] = Unit {0}
JumpsOnce (Put i ∷ xs) = JumpsOnce xs
JumpsOnce (Leave cond k ∷ xs) = IsAway k xs × JumpsOnce xs
JumpsOnce (Go k ∷ xs) = IsAway k xs × JumpsOnce xs

-- a code in which the four bytes at a place are another displacement
abbrev pub patched : ℕ → ℤ → List ℕ → List ℕ
patched at value code = take at code ++ to_le_bytes w32 (cast_unsigned w32 value) ++ drop (at + 4) code
