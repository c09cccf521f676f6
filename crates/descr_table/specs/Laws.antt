-- What holds of each table that some text stands for.
use Rattle.std.specs.Prelude.{◌≡◌, ℕ, List, Ok}
use Rattle.trace_ops.specs.declared.table.Table.{Table}
use Rattle.trace_ops.specs.InRange.{IsTableInRange}
use Rattle.descr_table.specs.Reading.{table_at}
use Rattle.descr_table.specs.Writing.{table_text}

abbrev pub TablesAreInRange : Type 0
TablesAreInRange = (first : ℕ) (text : List ℕ) (t : Table) → table_at first text ≡ Ok t → IsTableInRange t

-- what is written of it is read back, whatever the number of its first line
abbrev pub TablesAreReadBack : Type 0
TablesAreReadBack = (first again : ℕ) (text : List ℕ) (t : Table) → table_at first text ≡ Ok t → table_at again (table_text t) ≡ Ok t
