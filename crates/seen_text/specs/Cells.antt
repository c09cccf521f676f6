-- The text of the cells of a listing.
use Rattle.std.specs.Prelude.{ℕ, ◌+◌, List, [], ◌∷◌, ◌++◌, codes, length}
use Rattle.trace_ops.specs.declared.table.ShapeOf.{ShapeOf}
use Rattle.trace_ops.specs.declared.table.ShapeOf.TheVariants as shape
use Rattle.trace_ops.specs.declared.table.Table.{Table}
use Rattle.heap_shape.specs.declared.cell.Ref.{Ref}
use Rattle.heap_shape.specs.declared.cell.Cell.{Cell}
use Rattle.descr_table.specs.Names.{size_name, field_name, array_name, fields_of}
use Rattle.seen_text.specs.Values.{object_text, value_text, values_text, count_text}

-- F=v behind a space
unfoldable pub part_text : Table → ℕ → Ref → List ℕ
part_text t f x = (((32 ∷ []) ++ field_name t f) ++ 61 ∷ []) ++ value_text x

-- the fields in their order, each with its value
unfoldable pub parts_text : Table → List ℕ → List Ref → List ℕ
parts_text t [] ps = []
parts_text t (f ∷ fs) [] = []
parts_text t (f ∷ fs) (p ∷ ps) = part_text t f p ++ parts_text t fs ps

-- SIZE F=v F=v, or ARRAY [v, v]
unfoldable pub shape_text : Table → ShapeOf → List Ref → List ℕ
shape_text t (shape.Size k) ps = size_name t k ++ parts_text t (fields_of t k) ps
shape_text t (shape.Array k) ps = ((array_name t k ++ codes " [") ++ values_text ps) ++ 93 ∷ []

-- a cell behind its number
unfoldable pub cell_line : Table → ℕ → Cell → List ℕ
cell_line t k c = ((object_text k ++ 32 ∷ []) ++ shape_text t c.of c.parts) ++ 10 ∷ []

-- cells from this number on
abbrev pub cell_lines : Table → ℕ → List Cell → List ℕ
cell_lines t k [] = []
cell_lines t k (c ∷ cs) = cell_line t k c ++ cell_lines t (k + 1) cs

-- how many cells there are, and a line for each
unfoldable pub cells_text : Table → List Cell → List ℕ
cells_text t cs = count_text (codes "cells ") (length cs) ++ cell_lines t 0 cs
