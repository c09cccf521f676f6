-- What contracts see of a region.
use Rattle.std.specs.Prelude.{ℕ, List}

-- the bytes of the code, and how many more fit without memory
pub record Code : Type 0 where
  pub bytes : List ℕ
  pub spare : ℕ
