-- What is relied on of the crates below.
use Rattle.trace_ops.specs.Words.{ShiftsMultiply}
use Rattle.arena_objects.specs.Laws.{AddressesAreApart, HeadersAreFound, HeadersTell, SpotsAreFound, SpotsAreWritten, LengthsAreLoaded}

-- laws of words and of objects in an arena
pub record Relied : Type 0 where
  pub shifts : ShiftsMultiply
  pub apart : AddressesAreApart
  pub headers : HeadersAreFound
  pub tell : HeadersTell
  pub found : SpotsAreFound
  pub written : SpotsAreWritten
  pub lengths : LengthsAreLoaded
