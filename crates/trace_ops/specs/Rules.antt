-- The rules of well-formed sets, each at a trace or at an operation of it.
use Rattle.std.specs.Prelude.{◌≡◌, ◌≢◌, ◌↔◌, ℕ, zero, suc, ◌+◌, ◌<◌, ◌≤◌, Bool, true, false, Option, Some, None, List, [], ◌∷◌, ◌++◌, length, map, take, filter, slice_get, IsTrue, IsSome}
use Rattle.std.specs.List.{All, Contains, flat_map}
use Rattle.std.specs.Option.{option_map, option_and_then, option_to_list, IsSomeAnd}
use Rattle.trace_ops.specs.declared.trace.Kind.{Kind}
use Rattle.trace_ops.specs.declared.trace.Kind.TheVariants as kind
use Rattle.trace_ops.specs.declared.trace.BoxId.{BoxId}
use Rattle.trace_ops.specs.declared.trace.Arg.{Arg}
use Rattle.trace_ops.specs.declared.trace.Arg.TheVariants as arg
use Rattle.trace_ops.specs.declared.trace.Descr.{Descr}
use Rattle.trace_ops.specs.declared.trace.Descr.TheVariants as descr
use Rattle.trace_ops.specs.declared.trace.Frame.{Frame}
use Rattle.trace_ops.specs.declared.trace.Op.{Op}
use Rattle.trace_ops.specs.declared.trace.Origin.{Origin}
use Rattle.trace_ops.specs.declared.trace.Origin.TheVariants.{Loop, Bridge}
use Rattle.trace_ops.specs.declared.trace.Trace.{Trace}
use Rattle.trace_ops.specs.declared.trace.TraceSet.{TraceSet}
use Rattle.trace_ops.specs.declared.table.Table.{Table}
use Rattle.trace_ops.specs.declared.table.CallRow.{CallRow}
use Rattle.trace_ops.specs.declared.facts.Want.{Want}
use Rattle.trace_ops.specs.declared.facts.Want.TheVariants as want
use Rattle.trace_ops.specs.declared.facts.Takes.{Takes}
use Rattle.trace_ops.specs.declared.facts.Takes.TheVariants as takes
use Rattle.trace_ops.specs.declared.facts.Cites.{Cites}
use Rattle.trace_ops.specs.declared.facts.Cites.TheVariants as cites
use Rattle.trace_ops.specs.declared.facts.Part.{Part}
use Rattle.trace_ops.specs.declared.facts.Part.TheVariants as part
use Rattle.trace_ops.specs.Facts.{takes_of, gives_of, cites_of, part_of}
use Rattle.trace_ops.specs.Classes.{is_guard, is_overflowing, reads_overflow}
use Rattle.trace_ops.specs.Fits.{IsOfKind, IsClass, AreCompared, FitsDescr}
use Rattle.trace_ops.specs.Kinds.{kind_of_arg, kind_of_field, kind_of_item}
use Rattle.trace_ops.specs.Lawful.{AreDistinct}
use Rattle.trace_ops.specs.Parts.{boxes_of_arg}
use Rattle.trace_ops.specs.Weights.{place_of, parent_at}

-- 1: no input stands twice
abbrev pub HasDistinctInputs : Trace → Type 0
HasDistinctInputs t = AreDistinct t.inputs

-- the inputs, and the results of the first k operations
abbrev pub known_before : Trace → ℕ → List BoxId
known_before t k = t.inputs ++ flat_map (λ (op : Op). option_to_list op.result) (take k t.ops)

-- 2: what an operation gives was not there before
abbrev pub GivesNewBox : Trace → ℕ → Op → Type 0
GivesNewBox t k op = All (λ b. ¬ Contains (known_before t k) b) (option_to_list op.result)

-- the boxes in the arguments and in the snapshot
abbrev pub boxes_in : Op → List BoxId
boxes_in op = flat_map boxes_of_arg op.args ++ flat_map (λ (f : Frame). flat_map boxes_of_arg f.slots) op.snapshot

-- 3: what an operation uses was there before
abbrev pub UsesKnownBoxes : Trace → ℕ → Op → Type 0
UsesKnownBoxes t k op = All (Contains (known_before t k)) (boxes_in op)

-- the kind that is stored, where the descr is of the class that the operation wants
abbrev pub stored_kind : Table → Cites → Descr → Option Kind
stored_kind t (cites.Field k) (descr.Field f) = kind_of_field t f
stored_kind t (cites.Array k) (descr.Array a) = kind_of_item t a
stored_kind t _ _ = None

-- a value of this kind, or any value where none is known
abbrev pub IsStored : Option Kind → Arg → Type 0
IsStored (Some k) a = kind_of_arg a ≡ Some k
IsStored None a = IsSome (kind_of_arg a)

-- an argument is what is wanted there, as far as the descr tells
abbrev pub Suits : Table → Cites → Descr → Want → Arg → Type 0
Suits t c d want.Stored a = IsStored (stored_kind t c d) a
Suits t c d want.Int a = IsOfKind (Some kind.Int) a
Suits t c d want.Ref a = IsOfKind (Some kind.Ref) a
Suits t c d want.Class a = IsClass t a

-- at most six values of any kind
abbrev pub AreValues : List Arg → Type 0
AreValues args = All (λ a. IsSome (kind_of_arg a)) args × (length args ≤ 6)

-- what the descr's row takes, or any values where it is no call's
abbrev pub ArePassed : Table → Descr → List Arg → Type 0
ArePassed t (descr.Call k) args = IsSomeAnd (slice_get t.calls k) (λ (row : CallRow). map kind_of_arg args ≡ map (λ k. Some k) row.args)
ArePassed t _ args = AreValues args

-- a function, and behind it what is passed
abbrev pub AreCalling : Table → Descr → List Arg → Type 0
AreCalling t d (arg.Func f ∷ rest) = ArePassed t d rest
AreCalling t d _ = ⊥

-- the arguments are what the operation takes, as far as the descr tells
abbrev pub AreTaken : Table → Cites → Descr → Takes → List Arg → Type 0
AreTaken t c d takes.Nothing [] = Unit {0}
AreTaken t c d (takes.One w) (a ∷ []) = Suits t c d w a
AreTaken t c d (takes.Two w v) (a ∷ b ∷ []) = Suits t c d w a × Suits t c d v b
AreTaken t c d (takes.Three w v u) (a ∷ b ∷ e ∷ []) = Suits t c d w a × Suits t c d v b × Suits t c d u e
AreTaken t c d takes.Compared (a ∷ b ∷ []) = AreCompared (kind_of_arg a) b
AreTaken t c d takes.Called args = AreCalling t d args
AreTaken t c d takes.Finished [] = Unit {0}
AreTaken t c d takes.Finished (a ∷ []) = IsSome (kind_of_arg a)
AreTaken t c d takes.Passed args = Unit {0}
AreTaken t c d _ _ = ⊥

-- 4: the arguments are what the operation takes; those of a jump are a rule of their own
abbrev pub TakesItsArguments : Table → Op → Type 0
TakesItsArguments t op = AreTaken t (cites_of op.code) op.descr (takes_of op.code) op.args

-- 5: it gives a box exactly where it is to give one, and of the right kind
abbrev pub GivesItsKind : Op → Type 0
GivesItsKind op = option_map (λ (b : BoxId). b.kind) op.result ≡ gives_of op.code

-- 6: it is about a row of the right sort
abbrev pub CitesItsDescr : Table → Op → Type 0
CitesItsDescr t op = FitsDescr t (cites_of op.code) op.descr

abbrev pub sets_overflow_at : List Op → ℕ → Option Bool
sets_overflow_at ops k = option_map (λ (op : Op). is_overflowing op.code) (slice_get ops k)

abbrev pub tests_overflow_at : List Op → ℕ → Option Bool
tests_overflow_at ops k = option_map (λ (op : Op). reads_overflow op.code) (slice_get ops k)

-- an operation that sets overflow stands directly before
abbrev pub FollowsOverflow : List Op → ℕ → Type 0
FollowsOverflow ops zero = ⊥
FollowsOverflow ops (suc k) = sets_overflow_at ops k ≡ Some true

-- 7: what sets overflow and the guard that reads it stand together
abbrev pub IsBesideItsGuard : Trace → ℕ → Op → Type 0
IsBesideItsGuard t k op = (IsTrue (is_overflowing op.code) → tests_overflow_at t.ops (k + 1) ≡ Some true) × (IsTrue (reads_overflow op.code) → FollowsOverflow t.ops k)

abbrev pub HasFrames : Bool → List Frame → Type 0
HasFrames true frames = 0 < length frames
HasFrames false frames = frames ≡ []

-- 8: a guard has a frame, and nothing else has one
abbrev pub HasItsFrames : Op → Type 0
HasItsFrames op = HasFrames (is_guard op.code) op.snapshot

abbrev pub ends : Part → Bool
ends part.Jump = true
ends part.Finish = true
ends _ = false

-- 9: a trace ends with a jump or a finish and has no other; with at least one operation
abbrev pub IsEndOnlyAtEnd : Trace → ℕ → Op → Type 0
IsEndOnlyAtEnd t k op = IsTrue (ends (part_of op.code)) ↔ (k + 1 ≡ length t.ops)

-- where a jump goes: the first trace of the descr's name, or its own trace without one
abbrev pub target_of : TraceSet → ℕ → Descr → Option ℕ
target_of set i (descr.Target name) = place_of name set.traces
target_of set i descr.No = Some i
target_of set i _ = None

-- a loop whose inputs are of these kinds
abbrev pub IsLoopOf : List (Option Kind) → Trace → Type 0
IsLoopOf kinds t = (t.origin ≡ Loop) × (kinds ≡ map (λ (b : BoxId). Some b.kind) t.inputs)

abbrev pub JumpsRightly : Part → TraceSet → ℕ → Op → Type 0
JumpsRightly part.Jump set i op = IsSomeAnd (option_and_then (slice_get set.traces) (target_of set i op.descr)) (IsLoopOf (map kind_of_arg op.args))
JumpsRightly _ set i op = Unit {0}

-- 11: a jump goes to a loop of the set, with arguments that fit its inputs
abbrev pub JumpsToItsLoop : TraceSet → ℕ → Op → Type 0
JumpsToItsLoop set i op = JumpsRightly (part_of op.code) set i op

-- guard k of a trace, from 0
abbrev pub guard_op : Trace → ℕ → Option Op
guard_op t k = slice_get (filter (λ (op : Op). is_guard op.code) t.ops) k

-- the guard from which a bridge comes
abbrev pub guard_named : TraceSet → Origin → Option Op
guard_named set Loop = None
guard_named set (Bridge name k) = option_and_then (λ (t : Trace). guard_op t k) (option_and_then (slice_get set.traces) (place_of name set.traces))

abbrev pub ComesFrom : TraceSet → Origin → Type 0
ComesFrom set Loop = Unit {0}
ComesFrom set (Bridge name k) = IsSome (guard_named set (Bridge name k))

-- 12: the guard from which a bridge comes is there
abbrev pub HasItsParent : TraceSet → Trace → Type 0
HasItsParent set t = ComesFrom set t.origin

-- the slots of a guard, outermost frame first
abbrev pub slots_of_guard : Op → List Arg
slots_of_guard op = flat_map (λ (f : Frame). f.slots) op.snapshot

abbrev pub Receives : List BoxId → Option Op → Type 0
Receives inputs (Some op) = map kind_of_arg (slots_of_guard op) ≡ map (λ (b : BoxId). Some b.kind) inputs
Receives inputs None = Unit {0}

-- no trace before this place comes from the same guard
abbrev pub IsFirstFrom : TraceSet → ℕ → Origin → Type 0
IsFirstFrom set i Loop = Unit {0}
IsFirstFrom set i (Bridge name k) = (j : ℕ) (t : Trace) → j < i → slice_get set.traces j ≡ Some t → t.origin ≢ Bridge name k

-- 13: a bridge begins with the slots of its guard, and is the first one there
abbrev pub ReceivesItsSlots : TraceSet → ℕ → Trace → Type 0
ReceivesItsSlots set i t = Receives t.inputs (guard_named set t.origin) × IsFirstFrom set i t.origin

-- n parents up
abbrev pub above : TraceSet → ℕ → ℕ → Option ℕ
above set i zero = Some i
above set i (suc n) = option_and_then (parent_at set) (above set i n)

-- 14: the name is new, and parents end at a loop: no path to them is longer than there are traces
pub record IsOrdered (set : TraceSet) (i : ℕ) (t : Trace) : Type 0 where
  pub new_name : (j : ℕ) (other : Trace) → j < i → slice_get set.traces j ≡ Some other → other.name ≢ t.name
  pub ends_above : above set i (length set.traces) ≡ None
