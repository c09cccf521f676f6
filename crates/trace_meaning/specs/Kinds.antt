-- Values of their kinds: in boxes, in objects and in every run.
use Rattle.std.specs.Prelude.{◌≡◌, ℕ, ◌<◌, List, [], ◌∷◌, Option, Some, None, length, map, slice_get, option_and_then, IsSomeAnd}
use Rattle.std.specs.List.{All}
use Rattle.trace_ops.specs.declared.trace.Kind.{Kind}
use Rattle.trace_ops.specs.declared.trace.Kind.TheVariants as kind
use Rattle.trace_ops.specs.declared.trace.BoxId.{BoxId}
use Rattle.trace_ops.specs.declared.trace.Op.{Op}
use Rattle.trace_ops.specs.declared.trace.TraceSet.{TraceSet}
use Rattle.trace_ops.specs.declared.table.Table.{Table}
use Rattle.trace_ops.specs.declared.table.ShapeOf.{ShapeOf}
use Rattle.trace_ops.specs.declared.table.ShapeOf.TheVariants as shape
use Rattle.trace_ops.specs.Kinds.{kind_of_arg, kind_of_field, kind_of_item}
use Rattle.trace_ops.specs.InRange.{IsInRange}
use Rattle.trace_ops.specs.WellFormed.{IsWellFormed}
use Rattle.trace_meaning.specs.declared.value.Value.{Value}
use Rattle.trace_meaning.specs.declared.value.Value.TheVariants as v
use Rattle.trace_meaning.specs.declared.value.Object.{Object}
use Rattle.trace_meaning.specs.declared.call.Answer.{Answer}
use Rattle.trace_meaning.specs.Values.{kind_of_value}
use Rattle.trace_meaning.specs.Boxes.{Boxes, value_in}
use Rattle.trace_meaning.specs.Objects.{fields_of}
use Rattle.trace_meaning.specs.Cuts.{Cuts}
use Rattle.trace_meaning.specs.Legs.{Fails, Jumps, Finishes, Waits, Misfits, Wrong, In, Over}
use Rattle.trace_meaning.specs.Recorded.{RecordedNow, ops_at, slots_of, recorded_run}
use Rattle.trace_meaning.specs.Observed.{guard_in, world_of}
use Rattle.trace_meaning.specs.Starting.{Starts}

-- where there are so many objects: an integer, or else null or one of them
abbrev pub IsValueOf : ℕ → Kind → Value → Type 0
IsValueOf objects kind.Int (v.Int z) = Unit {0}
IsValueOf objects kind.Int v.Null = ⊥
IsValueOf objects kind.Int (v.Obj n) = ⊥
IsValueOf objects kind.Ref (v.Int z) = ⊥
IsValueOf objects kind.Ref v.Null = Unit {0}
IsValueOf objects kind.Ref (v.Obj n) = n < objects

-- values of the kinds that are there one after another
abbrev pub AreOfKinds : ℕ → List (Option Kind) → List Value → Type 0
AreOfKinds n [] [] = Unit {0}
AreOfKinds n [] (x ∷ xs) = ⊥
AreOfKinds n (None ∷ ks) xs = AreOfKinds n ks xs
AreOfKinds n (Some k ∷ ks) [] = ⊥
AreOfKinds n (Some k ∷ ks) (x ∷ xs) = IsValueOf n k x × AreOfKinds n ks xs

-- each box that holds a value holds one of its kind
abbrev pub BoxesHold : ℕ → Boxes → Type 0
BoxesHold objects boxes = (b : BoxId) (x : Value) → value_in boxes b ≡ Some x → IsValueOf objects b.kind x

-- the kind of a part: that of the field at this place of a size, or of the items of an array
abbrev pub kind_of_part : Table → ShapeOf → ℕ → Option Kind
kind_of_part t (shape.Size size) i = option_and_then (kind_of_field t) (slice_get (fields_of t size) i)
kind_of_part t (shape.Array array) i = kind_of_item t array

-- each part holds a value of its kind
abbrev pub PartsHold : Table → ℕ → Object → Type 0
PartsHold t objects o = (i : ℕ) (k : Kind) (x : Value) → kind_of_part t o.of i ≡ Some k → slice_get o.parts i ≡ Some x → IsValueOf objects k x

-- each part of each object does
abbrev pub ObjectsHold : Table → List Object → Type 0
ObjectsHold t objects = (n : ℕ) (o : Object) → slice_get objects n ≡ Some o → PartsHold t (length objects) o

-- an integer, null or an object that is there
abbrev pub IsThere : ℕ → Value → Type 0
IsThere objects x = IsValueOf objects (kind_of_value x) x

-- the values are of the kinds of the slots of guard n of a trace
abbrev pub FitSlots : TraceSet → ℕ → ℕ → List Value → Type 0
FitSlots set p n vs = IsSomeAnd (guard_in (ops_at set p) n) (λ (op : Op). map kind_of_arg (slots_of op.snapshot) ≡ map (λ x. Some (kind_of_value x)) vs)

-- the values with which a run has left its last trace are there, and those of a guard fit its slots
abbrev pub LeftRightly : TraceSet → RecordedNow → Type 0
LeftRightly set (In p rest s) = Unit {0}
LeftRightly set (Over p (Fails n vs w)) = FitSlots set p n vs × All (IsThere (length w.objects)) vs
LeftRightly set (Over p (Jumps vs w)) = Unit {0}
LeftRightly set (Over p (Finishes vs w)) = All (IsThere (length w.objects)) vs
LeftRightly set (Over p (Waits w)) = Unit {0}
LeftRightly set (Over p (Misfits w)) = Unit {0}
LeftRightly set (Over p (Wrong w)) = Unit {0}

-- the boxes of the trace in which a run is, while it is in one
abbrev pub RunHolds : RecordedNow → Type 0
RunHolds (In p rest s) = BoxesHold (length s.world.objects) s.boxes
RunHolds (Over p l) = Unit {0}

-- it holds of each run from a lawful start of a lawful set, whatever is answered and attached
abbrev pub OfRuns : (TraceSet → RecordedNow → Type 0) → Type 0
OfRuns P =
    (set : TraceSet) (start : ℕ) (inputs : List Value) (answers : List Answer) (cuts : Cuts) (n : ℕ)
    → IsInRange set → IsWellFormed set → Starts set start inputs → P set (recorded_run set start inputs answers cuts n)

abbrev pub BoxesKeepKinds : Type 0
BoxesKeepKinds = OfRuns (λ set x. RunHolds x)

abbrev pub PartsKeepKinds : Type 0
PartsKeepKinds = OfRuns (λ set x. ObjectsHold set.table (world_of x).objects)

abbrev pub EndsKeepKinds : Type 0
EndsKeepKinds = OfRuns LeftRightly
