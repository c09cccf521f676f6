-- What a recorded read gives: the value that the piece reads, or one that is known.
use Rattle.std.specs.Prelude.{◌≡◌, ℕ, List, Some, slice_get, length}
use Rattle.std.specs.List.{AllByRecursion}
use Rattle.trace_ops.specs.declared.trace.Arg.{Arg}
use Rattle.trace_ops.specs.declared.table.Table.{Table}
use Rattle.trace_ops.specs.declared.table.ShapeOf.{ShapeOf}
use Rattle.trace_ops.specs.declared.piece.Val.{Val}
use Rattle.trace_ops.specs.declared.piece.Val.TheVariants.{Virtual}
use Rattle.trace_ops.specs.declared.piece.Shape.{Shape}
use Rattle.trace_ops.specs.declared.piece.Spot.{Spot}
use Rattle.trace_ops.specs.declared.piece.Pending.{Pending}
use Rattle.trace_meaning.specs.declared.value.Value.{Value}
use Rattle.trace_meaning.specs.declared.value.Value.TheVariants as v
use Rattle.trace_meaning.specs.declared.value.Object.{Object}
use Rattle.trace_meaning.specs.Objects.{read, place_of, length_at}
use Rattle.heap_shape.specs.Sameness.{MapsIf}
use Rattle.heap_shape.specs.Visiting.{Has}
use Rattle.opt_meaning.specs.Agrees.{Place, MapsAt, ArgIs, ValIs, IsPending, SpotIs}
use Rattle.agreement.specs.Growing.{OfAgreeing}

-- two spots lie apart in each kind of object
abbrev pub AreApart : Table → Spot → Spot → Type 0
AreApart t x y = (of : ShapeOf) (i : ℕ) → place_of t of x ≡ Some i → place_of t of y ≡ Some i → ⊥

-- no pending store will write the spot of this value of the piece
abbrev pub IsSettled : Table → Place → List Pending → Value → Spot → Type 0
IsSettled t at pending u spot = (n i : ℕ) (o : Object) → u ≡ v.Obj n → slice_get at.opt.objects n ≡ Some o → place_of t o.of spot ≡ Some i → IsPending t at pending n i → ⊥

-- where all pending stores lie apart from the spot
abbrev pub ApartIsSettled : Type 0
ApartIsSettled = (t : Table) (at : Place) (pending : List Pending) (spot : Spot) → AllByRecursion (λ (p : Pending). AreApart t spot p.spot) pending → (u : Value) → IsSettled t at pending u spot

-- a spot that isn't pending: both sides read alike, or neither can
abbrev pub ReadsAlike : Type 0
ReadsAlike = OfAgreeing (λ t known boxes at.
    (u b : Value) (spot : Spot) → MapsAt at u b → IsSettled t at known.pending u spot → MapsIf (slice_get at.mapped) (read t spot u at.opt) (read t spot b at.rec))

-- so where the trace reads, so does the piece
abbrev pub ReadAgrees : Type 0
ReadAgrees = OfAgreeing (λ t known boxes at.
    (u b y : Value) (spot : Spot) → MapsAt at u b → IsSettled t at known.pending u spot → read t spot b at.rec ≡ Some y → (x : Value) × (read t spot u at.opt ≡ Some x) × MapsAt at x y)

-- what is known of a spot is what the trace reads there
abbrev pub KnownIsRead : Type 0
KnownIsRead = (t : Table) (at : Place) (base : Arg) (spot : Spot) (x : Val) (b y : Value) → SpotIs t at base spot x → ArgIs at base b → read t spot b at.rec ≡ Some y → ValIs at x y

-- the value of a pending store is what the trace reads there
abbrev pub PendingIsRead : Type 0
PendingIsRead = OfAgreeing (λ t known boxes at.
    (p : Pending) (b y : Value) → Has known.pending p → ArgIs at p.base b → read t p.spot b at.rec ≡ Some y → ValIs at p.value y)

-- what the trace reads of a virtual object is a part of its shape
abbrev pub PartIsRead : Type 0
PartIsRead = OfAgreeing (λ t known boxes at.
    (n : ℕ) (s : Shape) (b y : Value) (spot : Spot) → slice_get known.shapes n ≡ Some (Some s) → ValIs at (Virtual n) b → read t spot b at.rec ≡ Some y
    → (i : ℕ) × (place_of t s.of spot ≡ Some i) × (x : Val) × (slice_get s.parts i ≡ Some x) × ValIs at x y)

abbrev pub LengthsAlike : Type 0
LengthsAlike = OfAgreeing (λ t known boxes at. (u b : Value) (array : ℕ) → MapsAt at u b → length_at array u at.opt ≡ length_at array b at.rec)

abbrev pub ShapeIsLong : Type 0
ShapeIsLong = OfAgreeing (λ t known boxes at.
    (n k array : ℕ) (s : Shape) (b : Value) → slice_get known.shapes n ≡ Some (Some s) → ValIs at (Virtual n) b → length_at array b at.rec ≡ Some k → k ≡ length s.parts)
