-- What a row in code tells.
use Rattle.std.specs.Prelude.{◌≡◌}
use Rattle.trace_ops.specs.declared.rows.Row.{Row}
use Rattle.trace_ops.specs.Rows.{OpRow}

-- the row of an operation, as it is defined
pub record Tells (row : Row) (of : OpRow) : Type 0 where
  pub name : row.name.now ≡ of.name
  pub takes : row.takes ≡ of.takes
  pub gives : row.gives ≡ of.gives
  pub cites : row.cites ≡ of.cites
  pub part : row.part ≡ of.part
