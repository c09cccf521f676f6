-- Spots: which lie apart, and those of a shape; and shapes of new objects.
use Rattle.std.specs.Prelude.{◌≡◌, ◌≢◌, ℕ, zero, suc, ◌+◌, List, [], ◌∷◌, length, map, ℤ, pos}
use Rattle.std.specs.List.{AllZip}
use Rattle.trace_ops.specs.declared.trace.Arg.TheVariants as arg
use Rattle.trace_ops.specs.declared.table.Table.{Table}
use Rattle.trace_ops.specs.declared.table.ShapeOf.{ShapeOf}
use Rattle.trace_ops.specs.declared.table.ShapeOf.TheVariants as shape
use Rattle.trace_ops.specs.declared.piece.Val.{Val}
use Rattle.trace_ops.specs.declared.piece.Val.TheVariants.{Known}
use Rattle.trace_ops.specs.declared.piece.Shape.{Shape}
use Rattle.trace_ops.specs.declared.piece.Spot.{Spot}
use Rattle.trace_ops.specs.declared.piece.Spot.TheVariants as spot
use Rattle.trace_meaning.specs.declared.value.Value.{Value}
use Rattle.trace_meaning.specs.declared.value.Value.TheVariants as v
use Rattle.trace_meaning.specs.Objects.{fields_of, zeroed, cleared}
use Rattle.heap_shape.specs.Visiting.{IsOnce}
use Rattle.opt_meaning.specs.Agrees.{Place, ValIs}
use Rattle.agreement.specs.Reading.{AreApart}
use Rattle.agreement.specs.Making.{AreSpots}

-- two spots that aren't one lie apart
abbrev pub SpotsLieApart : Type 0
SpotsLieApart = (t : Table) (x y : Spot) → x ≢ y → AreApart t x y

abbrev pub IsItemOf : ℕ → Spot → Type 0
IsItemOf array (spot.Item a i) = a ≡ array
IsItemOf array (spot.Field f) = ⊥

-- an item at any index, from all spots but the items of its array
abbrev pub ItemsLieApart : Type 0
ItemsLieApart = (t : Table) (array : ℕ) (i : ℤ) (y : Spot) → ¬ IsItemOf array y → AreApart t (spot.Item array i) y

-- so many items of an array, from an index on
abbrev pub items_from : ℕ → ℕ → ℕ → List Spot
items_from array i zero = []
items_from array i (suc n) = spot.Item array (pos i) ∷ items_from array (i + 1) n

abbrev pub spots_of : Table → ShapeOf → ℕ → List Spot
spots_of t (shape.Size s) n = map (λ f. spot.Field f) (fields_of t s)
spots_of t (shape.Array a) n = items_from a 0 n

-- a size has no field twice, and one part a field
abbrev pub HasPartsOf : Table → ShapeOf → ℕ → Type 0
HasPartsOf t (shape.Size s) n = IsOnce (fields_of t s) × (length (fields_of t s) ≡ n)
HasPartsOf t (shape.Array a) n = Unit {0}

abbrev pub ShapesHaveSpots : Type 0
ShapesHaveSpots = (t : Table) (s : Shape) → HasPartsOf t s.of (length s.parts) → AreSpots t s (spots_of t s.of (length s.parts))

-- a value as a constant
abbrev pub constant : Value → Val
constant (v.Int z) = Known (arg.Const z)
constant v.Null = Known arg.Null
constant (v.Obj n) = Known (arg.Ptr n)

-- the parts of a new object are those of a shape of constants
abbrev pub NewShapes : Type 0
NewShapes =
    (t : Table) (at : Place) (row n : ℕ)
    → AllZip (ValIs at) (map constant (zeroed t row).parts) (zeroed t row).parts × AllZip (ValIs at) (map constant (cleared t row n).parts) (cleared t row n).parts
