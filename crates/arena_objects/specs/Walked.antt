-- The addresses of an arena's objects, found once, and the numbers of objects by them.
use Rattle.std.specs.Prelude.{◌≡◌, ℕ, suc, ◌<◌, ℤ, pos, negsuc, List, [], ◌∷◌, Option, Some, None, length, map, nat_eq, if◌then◌else◌, slice_index_or}
use Rattle.trace_ops.specs.declared.table.Table.{Table}
use Rattle.target_base.specs.Arena.{Arena}
use Rattle.arena_objects.specs.declared.walk.Found.{Found}
use Rattle.arena_objects.specs.Walk.{objects_found, object_at}

-- the addresses that were found, and room for how many there is
pub record Addresses : Type 0 where
  pub found : List ℕ
  pub room : ℕ

-- each address is below those behind it
abbrev pub Rise : List ℕ → Type 0
Rise xs = (i j : ℕ) → i < j → j < length xs → slice_index_or xs i 0 < slice_index_or xs j 0

-- the addresses of the objects that the walk finds
abbrev pub addresses_found : Table → Arena → List ℕ
addresses_found t arena = map (λ (f : Found). f.at) (objects_found t arena)

-- the place of an address among others, counted from n
abbrev pub place_from : ℕ → ℕ → List ℕ → Option ℕ
place_from n a [] = None
place_from n a (b ∷ bs) = if nat_eq b a then Some n else place_from (suc n) a bs

-- the place of a word among addresses
abbrev pub number_in : ℤ → List ℕ → Option ℕ
number_in (pos a) xs = place_from 0 a xs
number_in (negsuc a) xs = None

-- among the addresses of an arena it is the number of the object at this address
abbrev pub AddressesNumber : Type 0
AddressesNumber = (t : Table) (arena : Arena) (w : ℤ) → number_in w (addresses_found t arena) ≡ object_at t arena w
