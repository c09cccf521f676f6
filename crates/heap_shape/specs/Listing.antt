-- Listings: what the roots reach, with numbers by first visit in place of the store's.
use Rattle.std.specs.Prelude.{ℕ, List, [], ◌∷◌, Option, Some, None, map, slice_get}
use Rattle.std.specs.Option.{unwrap_or}
use Rattle.trace_meaning.specs.declared.value.Value.{Value}
use Rattle.trace_meaning.specs.declared.value.Value.TheVariants as v
use Rattle.trace_meaning.specs.declared.value.Object.{Object}
use Rattle.heap_shape.specs.declared.cell.Ref.{Ref}
use Rattle.heap_shape.specs.declared.cell.Ref.TheVariants as r
use Rattle.heap_shape.specs.declared.cell.Cell.{Cell}
use Rattle.heap_shape.specs.Visiting.{number_of, visited}

-- the value with the number of the object, which was visited
abbrev pub ref_of : List ℕ → Value → Ref
ref_of seen (v.Int w) = r.Int w
ref_of seen v.Null = r.Null
ref_of seen (v.Obj n) = r.Num (unwrap_or (number_of seen n) 0)

abbrev pub cell_of : List ℕ → Object → Cell
cell_of seen x = record { of = x.of; parts = map (ref_of seen) x.parts }

abbrev pub cell_before : List ℕ → Option Object → List Cell → List Cell
cell_before seen None rest = rest
cell_before seen (Some x) rest = cell_of seen x ∷ rest

-- a cell for each of the objects in the second list
abbrev pub cells : List Object → List ℕ → List ℕ → List Cell
cells objects seen [] = []
cells objects seen (n ∷ ns) = cell_before seen (slice_get objects n) (cells objects seen ns)

-- the cells in number order, and the roots
abbrev pub listing : List Object → List Value → List Cell × List Ref
listing objects roots = let seen = visited objects roots in (cells objects seen seen, map (ref_of seen) roots)
