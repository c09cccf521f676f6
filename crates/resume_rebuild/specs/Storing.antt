-- Stores behind addresses, as the code does them.
use Rattle.std.specs.Prelude.{◌≡◌, ℕ, ◌≤◌, Option, Some, None}
use Rattle.target_base.specs.Arena.{Arena}
use Rattle.resume_rebuild.specs.Rebuilding.{Stored, stored_at}

-- so many bytes, or more than an arena has
abbrev pub IsOffset : Option ℕ → ℕ → Type 0
IsOffset (Some o) n = (o ≡ n) × (o ≤ 0x20000000)
IsOffset None n = 0x20000000 ≤ n

abbrev pub stored_by : Stored → Arena → Arena
stored_by s arena = stored_at s.base s.offset s.word arena
