-- Shapes of the adopted table.
use Rattle.std.specs.Prelude.{ℕ, List}
use Rattle.std.specs.List.{All, Contains}
use Rattle.trace_ops.specs.declared.table.Table.{Table}
use Rattle.trace_ops.specs.declared.table.ShapeOf.{ShapeOf}
use Rattle.trace_ops.specs.Kinds.{NamesShape}
use Rattle.resume_numbering.specs.declared.rows.VirtualRow.{VirtualRow}
use Rattle.resume_numbering.specs.declared.rows.GuardRow.{GuardRow}
use Rattle.resume_numbering.specs.declared.rows.ResumeTable.{ResumeTable}
use Rattle.resume_numbering.specs.Reading.{IsRowOf}
use Rattle.resume_rebuild.specs.Rows.{rows_at}

-- a size or an array of the table
abbrev pub IsKnown : Table → ShapeOf → Type 0
IsKnown t s = Contains t.shapes s × NamesShape t s

abbrev pub RowsAreKnown : Table → List VirtualRow → Type 0
RowsAreKnown t rows = All (λ (row : VirtualRow). IsKnown t row.of) rows

-- the virtual objects of a guard are of such shapes
abbrev pub ShapesAreKnown : Table → ResumeTable → ℕ → Type 0
ShapesAreKnown t table guard = (row : GuardRow) → IsRowOf table guard row → RowsAreKnown t (rows_at table.virtuals row.virtuals)
