-- The integers of prebuilt objects.
use Rattle.std.specs.Prelude.{◌≡◌, ℕ, List, Ok}
use Rattle.std.specs.List.{All}
use Rattle.trace_ops.specs.declared.table.PrebuiltRow.{PrebuiltRow}
use Rattle.trace_ops.specs.declared.table.Table.{Table}
use Rattle.trace_ops.specs.Constants.{InitialHasWord}
use Rattle.descr_table.specs.Reading.{table_at}

-- in the table that lines stand for, they are words
abbrev pub TablesHaveWords : Type 0
TablesHaveWords = (first : ℕ) (text : List ℕ) (t : Table) → table_at first text ≡ Ok t → All (λ (row : PrebuiltRow). All InitialHasWord row.parts) t.prebuilts
