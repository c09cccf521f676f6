-- The places of a code that decoding from 0 on reaches.
use Rattle.std.specs.Prelude.{◌≡◌, ℕ, ◌+◌, ◌≤◌, ◌<◌, List, [], ◌∷◌, length, take, drop}
use Rattle.x64_encode.specs.declared.instr.Instr.{Instr}
use Rattle.x64_encode.specs.Form.{HasRow, spelling}

-- the instruction stands at the place
pub record Stands (code : List ℕ) (place : ℕ) (i : Instr) : Type 0 where
  pub row : HasRow i
  pub room : place < length code
  pub inside : place + length (spelling i) ≤ length code
  pub spelled : take (length (spelling i)) (drop place code) ≡ spelling i

-- decoding at the first place goes through these places, an instruction at each, to the last place
abbrev pub Leads : List ℕ → ℕ → List ℕ → ℕ → Type 0
Leads code from [] to = from ≡ to
Leads code from (place ∷ places) to =
    (place ≡ from) × ((i : Instr) × Stands code from i × Leads code (from + length (spelling i)) places to)

-- the places at which decoding from 0 on finds an instruction; it ends where none stands
pub record Listing (code places : List ℕ) : Type 0 where
  pub to : ℕ
  pub leads : Leads code 0 places to
  pub ends : (i : Instr) → Stands code to i → ⊥

-- decoding reaches the code's end with no rest
abbrev pub IsWhole : List ℕ → Type 0
IsWhole code = (places : List ℕ) × Leads code 0 places (length code)
