-- What emitting instructions does: instructions and jumps one beside the other, as selection gives them.
use Rattle.std.specs.Prelude.{ℕ, ◌+◌, ◌-◌, ◌<◌, ◌==◌, if◌then◌else◌, List, [], ◌∷◌, ◌++◌, length, Option, Some, None, slice_index_or}
use Rattle.std.specs.Option.{option_map}
use Rattle.x64_encode.specs.declared.instr.Instr.{Instr}
use Rattle.x64_encode.specs.declared.instr.Instr.TheVariants.{Jcc, Jmp}
use Rattle.x64_encode.specs.Form.{HasRow, spelling}
use Rattle.code_layout.specs.Leading.{way}

-- the operation whose jump instruction n is
abbrev pub key_at : ℕ → List (ℕ × ℕ) → Option ℕ
key_at n [] = None
key_at n ((m, k) ∷ jumps) = if m == n then Some k else None

-- the jumps behind instruction n
abbrev pub jumps_behind : ℕ → List (ℕ × ℕ) → List (ℕ × ℕ)
jumps_behind n [] = []
jumps_behind n ((m, k) ∷ jumps) = if m == n then jumps else (m, k) ∷ jumps

-- a jump that ends at a place leads to another one
abbrev pub aimed : ℕ → ℕ → Instr → Instr
aimed from to (Jcc cond d) = Jcc cond (way from to)
aimed from to (Jmp d) = Jmp (way from to)
aimed from to i = i

-- an instruction at a place, which leads to another one where it is a jump that is to be set
abbrev pub aimed_if : ℕ → Option ℕ → Instr → Instr
aimed_if p None i = i
aimed_if p (Some to) i = aimed (p + length (spelling i)) to i

abbrev pub emitted : (ℕ → ℕ) → ℕ → ℕ → List Instr → List (ℕ × ℕ) → List ℕ
emitted to p n [] jumps = []
emitted to p n (i ∷ more) jumps =
    spelling (aimed_if p (option_map to (key_at n jumps)) i) ++ emitted to (p + length (spelling i)) (n + 1) more (jumps_behind n jumps)

-- the displacement is an instruction's last four bytes
abbrev pub noted_if : Option ℕ → ℕ → List (ℕ × ℕ)
noted_if None end = []
noted_if (Some k) end = (k, end - 4) ∷ []

abbrev pub noted : ℕ → ℕ → List Instr → List (ℕ × ℕ) → List (ℕ × ℕ)
noted p n [] jumps = []
noted p n (i ∷ more) jumps =
    noted_if (key_at n jumps) (p + length (spelling i)) ++ noted (p + length (spelling i)) (n + 1) more (jumps_behind n jumps)

abbrev pub total_size : List Instr → ℕ
total_size [] = 0
total_size (i ∷ more) = length (spelling i) + total_size more

abbrev pub AllHaveRows : List Instr → Type 0
AllHaveRows [] = Unit {0}
AllHaveRows (i ∷ more) = HasRow i × AllHaveRows more

-- where each operation's jump leads, by a list
abbrev pub listed : List ℕ → ℕ → ℕ
listed to k = slice_index_or to k 0

-- each jump is that of one of so many operations
abbrev pub KeysBelow : ℕ → List (ℕ × ℕ) → Type 0
KeysBelow count [] = Unit {0}
KeysBelow count ((m, k) ∷ jumps) = (k < count) × KeysBelow count jumps
