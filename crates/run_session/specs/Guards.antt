-- Where the jumps of guards have their displacements, and by which of them an instruction jumps.
use Rattle.std.specs.Prelude.{◌≡◌, ℕ, ◌+◌, Bool, true, false, List, [], ◌∷◌, Option, Some, None}
use Rattle.std.specs.List.{Contains, flat_map}
use Rattle.std.specs.List.Sorted.{IsNonDecreasing}
use Rattle.x64_encode.specs.declared.instr.Instr.{Instr}
use Rattle.x64_encode.specs.declared.instr.Instr.TheVariants.{Jcc, Jmp}
use Rattle.x64_machine.specs.declared.state.Flags.{Flags}
use Rattle.x64_machine.specs.Words.{holds}
use Rattle.guard_exit.specs.declared.row.ExitRow.{ExitRow}
use Rattle.image_runs.specs.Counted.{IsGuards}

-- the places are those of the rows of guards, and no place is below one before it
pub record AreGuardPlaces (rows : List ExitRow) (places : List ℕ) : Type 0 where
  pub rise : IsNonDecreasing places
  pub each : (at : ℕ) → Contains places at → (row : ExitRow) × Contains rows row × IsGuards row × (row.at ≡ at)
  pub all : (row : ExitRow) → Contains rows row → IsGuards row → Contains places row.at

abbrev pub place_in : Option ℕ → ℕ → List ℕ
place_in None at = []
place_in (Some guard) at = at ∷ []

-- the places of the rows of guards, in the order of the rows
abbrev pub places_of : List ExitRow → List ℕ
places_of rows = flat_map (λ (row : ExitRow). place_in row.guard row.at) rows

-- how far behind its first byte an instruction has the displacement by which it jumps, where it does
abbrev pub ahead_where : Option Bool → Option ℕ
ahead_where None = None
ahead_where (Some true) = Some 2
ahead_where (Some false) = None

abbrev pub ahead_of : Instr → Flags → Option ℕ
ahead_of (Jcc cond d) f = ahead_where (holds cond f)
ahead_of (Jmp d) f = Some 1
ahead_of _ f = None

-- one of the places is that of the displacement by which an instruction at a place jumps
abbrev pub TakesOne : Instr → Flags → ℕ → List ℕ → Type 0
TakesOne i f place places = (d : ℕ) × (ahead_of i f ≡ Some d) × Contains places (place + d)
