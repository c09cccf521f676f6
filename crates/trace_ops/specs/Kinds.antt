-- What values are, and which rows of a table they name.
use Rattle.std.specs.Prelude.{◌≡◌, ℕ, ◌<◌, Option, Some, None, List, length, map, slice_get, IsSome}
use Rattle.std.specs.Option.{option_map, IsSomeAnd}
use Rattle.std.specs.List.{All}
use Rattle.trace_ops.specs.declared.trace.Kind.{Kind}
use Rattle.trace_ops.specs.declared.trace.Kind.TheVariants as kind
use Rattle.trace_ops.specs.declared.trace.Arg.{Arg}
use Rattle.trace_ops.specs.declared.trace.Arg.TheVariants as arg
use Rattle.trace_ops.specs.declared.trace.Descr.{Descr}
use Rattle.trace_ops.specs.declared.trace.Descr.TheVariants as descr
use Rattle.trace_ops.specs.declared.table.Table.{Table}
use Rattle.trace_ops.specs.declared.table.ShapeOf.{ShapeOf}
use Rattle.trace_ops.specs.declared.table.ShapeOf.TheVariants as shape
use Rattle.trace_ops.specs.declared.table.FieldRow.{FieldRow}
use Rattle.trace_ops.specs.declared.table.ArrayRow.{ArrayRow}
use Rattle.trace_ops.specs.declared.table.SizeRow.{SizeRow}
use Rattle.trace_ops.specs.declared.table.Initial.{Initial}
use Rattle.trace_ops.specs.declared.table.Initial.TheVariants as initial
use Rattle.trace_ops.specs.declared.piece.Val.{Val}
use Rattle.trace_ops.specs.declared.piece.Val.TheVariants.{Known, Virtual}
use Rattle.trace_ops.specs.declared.piece.Spot.{Spot}
use Rattle.trace_ops.specs.declared.piece.Spot.TheVariants as spot

-- an integer or a reference; a class and a function are neither
abbrev pub kind_of_arg : Arg → Option Kind
kind_of_arg (arg.Of b) = Some b.kind
kind_of_arg (arg.Const z) = Some kind.Int
kind_of_arg arg.Null = Some kind.Ref
kind_of_arg (arg.Class k) = None
kind_of_arg (arg.Func k) = None
kind_of_arg (arg.Ptr k) = Some kind.Ref

-- a virtual object is a reference
abbrev pub kind_of_val : Val → Option Kind
kind_of_val (Known a) = kind_of_arg a
kind_of_val (Virtual k) = Some kind.Ref

-- of a part of a prebuilt object
abbrev pub kind_of_initial : Initial → Option Kind
kind_of_initial (initial.Int z) = Some kind.Int
kind_of_initial initial.Null = Some kind.Ref
kind_of_initial (initial.Ptr k) = Some kind.Ref

-- what the field of this row holds, and the items of the array of this row
abbrev pub kind_of_field : Table → ℕ → Option Kind
kind_of_field t f = option_map (λ (row : FieldRow). row.kind) (slice_get t.fields f)

abbrev pub kind_of_item : Table → ℕ → Option Kind
kind_of_item t a = option_map (λ (row : ArrayRow). row.kind) (slice_get t.arrays a)

-- what the spot holds
abbrev pub kind_of_spot : Table → Spot → Option Kind
kind_of_spot t (spot.Field f) = kind_of_field t f
kind_of_spot t (spot.Item a i) = kind_of_item t a

-- parts of these kinds make such an object: the kinds of the fields of its size, one by one, or all of them its array's
abbrev pub HasParts : Table → ShapeOf → List (Option Kind) → Type 0
HasParts t (shape.Size s) kinds = IsSomeAnd (slice_get t.sizes s) (λ (row : SizeRow). kinds ≡ map (kind_of_field t) row.fields)
HasParts t (shape.Array a) kinds = IsSomeAnd (slice_get t.arrays a) (λ (row : ArrayRow). All (λ k. k ≡ Some row.kind) kinds)

-- the row is there
abbrev pub NamesShape : Table → ShapeOf → Type 0
NamesShape t (shape.Size s) = s < length t.sizes
NamesShape t (shape.Array a) = a < length t.arrays

-- a size with a vtable
abbrev pub NamesClass : Table → ℕ → Type 0
NamesClass t k = IsSomeAnd (slice_get t.sizes k) (λ (row : SizeRow). IsSome row.vtable)

-- and those that an argument, a value, a spot or a descr names
abbrev pub NamesArg : Table → Arg → Type 0
NamesArg t (arg.Of b) = Unit {0}
NamesArg t (arg.Const z) = Unit {0}
NamesArg t arg.Null = Unit {0}
NamesArg t (arg.Class k) = NamesClass t k
NamesArg t (arg.Func k) = k < length t.functions
NamesArg t (arg.Ptr k) = k < length t.prebuilts

abbrev pub NamesVal : Table → Val → Type 0
NamesVal t (Known a) = NamesArg t a
NamesVal t (Virtual k) = Unit {0}

abbrev pub NamesSpot : Table → Spot → Type 0
NamesSpot t (spot.Field f) = f < length t.fields
NamesSpot t (spot.Item a i) = a < length t.arrays

abbrev pub NamesDescr : Table → Descr → Type 0
NamesDescr t descr.No = Unit {0}
NamesDescr t (descr.Size k) = k < length t.sizes
NamesDescr t (descr.Field k) = k < length t.fields
NamesDescr t (descr.Array k) = k < length t.arrays
NamesDescr t (descr.Call k) = k < length t.calls
NamesDescr t (descr.Target name) = Unit {0}
