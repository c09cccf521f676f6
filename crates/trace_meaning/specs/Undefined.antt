-- The causes for which a recorded operation goes wrong; it goes wrong for no other.
use Rattle.std.specs.Prelude.{◌≡◌, ◌≢◌, ◌⊎◌, ℕ, ◌-◌, IsSome, ◌<◌, ◌≤◌, true, List, [], ◌∷◌, Option, Some, None, length, map, slice_get, ℤ, pos, negsuc}
use Rattle.std.specs.List.{All}
use Rattle.trace_ops.specs.declared.code.OpCode.{OpCode}
use Rattle.trace_ops.specs.declared.code.OpCode.TheVariants as code
use Rattle.trace_ops.specs.declared.trace.Kind.{Kind}
use Rattle.trace_ops.specs.declared.trace.Arg.{Arg}
use Rattle.trace_ops.specs.declared.trace.Descr.{Descr}
use Rattle.trace_ops.specs.declared.trace.Op.{Op}
use Rattle.trace_ops.specs.declared.trace.Trace.{Trace}
use Rattle.trace_ops.specs.declared.trace.TraceSet.{TraceSet}
use Rattle.trace_ops.specs.declared.trace.Descr.TheVariants as descr
use Rattle.trace_ops.specs.declared.table.Table.{Table}
use Rattle.trace_ops.specs.declared.table.FieldRow.{FieldRow}
use Rattle.trace_ops.specs.declared.table.ShapeOf.TheVariants as shape
use Rattle.trace_ops.specs.Facts.{takes_of, gives_of, cites_of}
use Rattle.trace_ops.specs.Classes.{is_guard, is_plain}
use Rattle.trace_ops.specs.Fits.{FitsDescr}
use Rattle.trace_ops.specs.Kinds.{kind_of_arg}
use Rattle.trace_ops.specs.Rules.{AreTaken, known_before}
use Rattle.trace_ops.specs.InRange.{IsTableInRange}
use Rattle.trace_meaning.specs.declared.value.Value.{Value}
use Rattle.trace_meaning.specs.declared.value.Value.TheVariants as v
use Rattle.trace_meaning.specs.declared.value.Object.{Object}
use Rattle.trace_meaning.specs.World.{World}
use Rattle.trace_meaning.specs.Performing.{Done, Gave, Bad, Waited, Misfitted, perform}
use Rattle.trace_meaning.specs.Passing.{passes}
use Rattle.trace_meaning.specs.Boxes.{HasValue}
use Rattle.trace_meaning.specs.Legs.{Wrong, Off, In, Over}
use Rattle.trace_meaning.specs.Recorded.{Rec, RecordedNow, recorded_step, values_of, slots_of}
use Rattle.trace_meaning.specs.Kinds.{AreOfKinds, OfRuns}
use Rattle.trace_meaning.specs.There.{HasItsParts}

abbrev pub IsNull : Value → Type 0
IsNull v.Null = Unit {0}
IsNull _ = ⊥

-- the object isn't of the field's size
abbrev pub IsNotOfField : Table → World → ℕ → Value → Type 0
IsNotOfField t w field (v.Obj n) = (o : Object) × (slice_get w.objects n ≡ Some o) × (row : FieldRow) × (slice_get t.fields field ≡ Some row) × (o.of ≢ shape.Size row.size)
IsNotOfField t w field _ = ⊥

-- the object isn't of the array
abbrev pub IsNotOfArray : World → ℕ → Value → Type 0
IsNotOfArray w array (v.Obj n) = (o : Object) × (slice_get w.objects n ≡ Some o) × (o.of ≢ shape.Array array)
IsNotOfArray w array _ = ⊥

abbrev pub IsBelowZero : ℤ → Type 0
IsBelowZero (pos i) = ⊥
IsBelowZero (negsuc i) = Unit {0}

-- below 0, or not below so many
abbrev pub IsOutside : ℕ → ℤ → Type 0
IsOutside n (pos i) = n ≤ i
IsOutside n (negsuc i) = Unit {0}

-- the index is below 0 or not below the length of the array
abbrev pub HasNoItem : World → ℤ → Value → Type 0
HasNoItem w i (v.Obj n) = (o : Object) × (slice_get w.objects n ≡ Some o) × IsOutside (length o.parts) i
HasNoItem w i _ = ⊥

-- an immutable field of a prebuilt object
abbrev pub IsImmutable : Table → ℕ → Value → Type 0
IsImmutable t field (v.Obj n) = (n < length t.prebuilts) × (row : FieldRow) × (slice_get t.fields field ≡ Some row) × (row.immutable ≡ true)
IsImmutable t field _ = ⊥

abbrev pub HasNoField : Table → World → ℕ → Value → Type 0
HasNoField t w field base = IsNull base ⊎ IsNotOfField t w field base

abbrev pub HasNoItems : World → ℕ → ℤ → Value → Type 0
HasNoItems w array i base = IsNull base ⊎ IsNotOfArray w array base ⊎ HasNoItem w i base

-- an operation on these values is undefined
abbrev pub IsUndefined : Table → OpCode → Descr → List Value → World → Type 0
IsUndefined t code.GetfieldGcI (descr.Field f) (base ∷ []) w = HasNoField t w f base
IsUndefined t code.GetfieldGcR (descr.Field f) (base ∷ []) w = HasNoField t w f base
IsUndefined t code.SetfieldGc (descr.Field f) (base ∷ x ∷ []) w = HasNoField t w f base ⊎ IsImmutable t f base
IsUndefined t code.GetarrayitemGcI (descr.Array a) (base ∷ v.Int i ∷ []) w = HasNoItems w a i base
IsUndefined t code.GetarrayitemGcR (descr.Array a) (base ∷ v.Int i ∷ []) w = HasNoItems w a i base
IsUndefined t code.SetarrayitemGc (descr.Array a) (base ∷ v.Int i ∷ x ∷ []) w = HasNoItems w a i base
IsUndefined t code.ArraylenGc (descr.Array a) (base ∷ []) w = IsNull base ⊎ IsNotOfArray w a base
IsUndefined t code.NewArrayClear (descr.Array a) (v.Int z ∷ []) w = IsBelowZero z
IsUndefined t code.GuardClass d (base ∷ []) w = IsNull base
IsUndefined t _ d vs w = ⊥

-- a value where one is wanted
abbrev pub GivesIf : Option Kind → Option Value → Type 0
GivesIf None x = Unit {0}
GivesIf (Some k) None = ⊥
GivesIf (Some k) (Some x) = Unit {0}

-- it gives what is wanted, or is wrong for this cause
abbrev pub GoesRight : Option Kind → Type 0 → Done → Type 0
GoesRight k cause (Gave x u) = GivesIf k x
GoesRight k cause Bad = cause
GoesRight k cause (Waited u) = Unit {0}
GoesRight k cause (Misfitted u) = Unit {0}

-- an operation and its values as lawful sets have them, where objects have the parts of their shapes
pub record IsLawfulHere (t : Table) (operation : OpCode) (d : Descr) (args : List Arg) (vs : List Value) (w : World) : Type 0 where
  pub range : IsTableInRange t
  pub whole : All (HasItsParts t) w.objects
  pub takes : AreTaken t (cites_of operation) d (takes_of operation) args
  pub cites : FitsDescr t (cites_of operation) d
  pub kinds : AreOfKinds (length w.objects) (map kind_of_arg args) vs

-- a plain operation gives a value where its code does, or is undefined; and a guard passes or fails, or is undefined
pub record OnlyUndefinedGoWrong : Type 0 where
  pub performs : (t : Table) (operation : OpCode) (d : Descr) (args : List Arg) (vs : List Value) (w : World) → is_plain operation ≡ true → IsLawfulHere t operation d args vs w
      → GoesRight (gives_of operation) (IsUndefined t operation d vs w) (perform t operation d args vs w)
  pub tests : (t : Table) (operation : OpCode) (d : Descr) (args : List Arg) (vs : List Value) (w : World) → is_guard operation ≡ true → IsLawfulHere t operation d args vs w
      → passes operation args vs w ≡ None → IsUndefined t operation d vs w

-- the boxes that an operation uses have values, and it goes wrong only where it is undefined on them
pub record Progresses (t : Table) (op : Op) (s : Rec) : Type 0 where
  pub values : List Value
  pub args : values_of s op.args ≡ Some values
  pub slots : IsSome (values_of s (slots_of op.snapshot))
  pub only_undefined : (w : World) → recorded_step t op s ≡ Off (Wrong w) → IsUndefined t op.code op.descr values s.world

-- a run inside a trace has an operation to come, and each box that is known there has a value
abbrev pub MakesProgress : TraceSet → RecordedNow → Type 0
MakesProgress set (In p [] s) = ⊥
MakesProgress set (In p (op ∷ rest) s) = Progresses set.table op s
    × ((t : Trace) → slice_get set.traces p ≡ Some t → All (HasValue s.boxes) (known_before t (length t.ops - length (op ∷ rest))))
MakesProgress set (Over p l) = Unit {0}

-- in each run of a lawful set
abbrev pub RunsMakeProgress : Type 0
RunsMakeProgress = OfRuns MakesProgress
