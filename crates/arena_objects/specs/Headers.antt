-- The header numbers of a table's shapes, by their rows.
use Rattle.std.specs.Prelude.{◌≡◌, ℕ, List, slice_set, slice_index_or}
use Rattle.std.specs.List.{Contains}
use Rattle.trace_ops.specs.declared.table.Table.{Table}
use Rattle.trace_ops.specs.declared.table.ShapeOf.{ShapeOf}
use Rattle.trace_ops.specs.declared.table.ShapeOf.TheVariants.{Size, Array}
use Rattle.trace_ops.specs.Kinds.{NamesShape}
use Rattle.arena_objects.specs.Layout.{header_of}

-- a number for each size and for each array, 0 where it has none
pub record HeaderNumbers : Type 0 where
  pub sizes : List ℕ
  pub arrays : List ℕ

-- the number of a shape
abbrev pub header_in : HeaderNumbers → ShapeOf → ℕ
header_in h (Size s) = slice_index_or h.sizes s 0
header_in h (Array a) = slice_index_or h.arrays a 0

-- with a number for a shape that there is
abbrev pub with_header : ShapeOf → ℕ → HeaderNumbers → HeaderNumbers
with_header (Size s) n h = record h { sizes = slice_set h.sizes s n }
with_header (Array a) n h = record h { arrays = slice_set h.arrays a n }

-- the number of each shape of a table that names a row is its header number
abbrev pub HaveHeaders : Table → HeaderNumbers → Type 0
HaveHeaders t h = (s : ShapeOf) → Contains t.shapes s → NamesShape t s → header_in h s ≡ header_of t s
