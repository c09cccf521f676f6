-- Stores: that the trace does and the piece only keeps, that the piece does later, or that both do at once.
use Rattle.std.specs.Prelude.{◌≡◌, ◌⊎◌, ℕ, ◌<◌, List, [], ◌∷◌, ◌++◌, Option, None, Some, length, slice_get, slice_set}
use Rattle.std.specs.List.{AllByRecursion}
use Rattle.trace_ops.specs.declared.trace.BoxId.{BoxId}
use Rattle.trace_ops.specs.declared.trace.Arg.{Arg}
use Rattle.trace_ops.specs.declared.table.Table.{Table}
use Rattle.trace_ops.specs.declared.piece.Val.{Val}
use Rattle.trace_ops.specs.declared.piece.Val.TheVariants.{Known, Virtual}
use Rattle.trace_ops.specs.declared.piece.Shape.{Shape}
use Rattle.trace_ops.specs.declared.piece.Spot.{Spot}
use Rattle.trace_ops.specs.declared.piece.Pending.{Pending}
use Rattle.trace_ops.specs.declared.piece.Fact.{Fact}
use Rattle.trace_ops.specs.declared.piece.Fact.TheVariants as fact
use Rattle.trace_meaning.specs.declared.value.Value.{Value}
use Rattle.trace_meaning.specs.World.{World}
use Rattle.trace_meaning.specs.Boxes.{arg_value}
use Rattle.trace_meaning.specs.Objects.{place_of, write}
use Rattle.opt_meaning.specs.Rebuilding.{stores_done}
use Rattle.opt_meaning.specs.Agrees.{Place, MapsAt, ArgIs, ValIs, FactHolds, Agrees}
use Rattle.agreement.specs.Growing.{OfAgreeing}
use Rattle.agreement.specs.Reading.{AreApart}

abbrev pub with_rec : Place → World → Place
with_rec at w = record at { rec = w }

abbrev pub with_opt : Place → World → Place
with_opt at w = record at { opt = w }

-- a fact that a store to the spot leaves
abbrev pub IsApartFrom : Table → Spot → Fact → Type 0
IsApartFrom t spot (fact.Between b low high) = Unit {0}
IsApartFrom t spot (fact.Nonnull b) = Unit {0}
IsApartFrom t spot (fact.ClassOf b n) = Unit {0}
IsApartFrom t spot (fact.Holds base other x) = AreApart t spot other
IsApartFrom t spot (fact.Same operation args x) = Unit {0}

-- the stores that lie apart are kept, and all others are to this base and spot
abbrev pub KeptOf : Table → Arg → Spot → List Pending → List Pending → Type 0
KeptOf t base spot [] kept = kept ≡ []
KeptOf t base spot (p ∷ ps) kept =
    ((p.base ≡ base) × (p.spot ≡ spot) × KeptOf t base spot ps kept) ⊎ ((rest : List Pending) × (kept ≡ p ∷ rest) × AreApart t spot p.spot × KeptOf t base spot ps rest)

-- a late store: the trace does it, and for the piece it is pending, in place of those to the same base and spot
abbrev pub LateStoreAgrees : Type 0
LateStoreAgrees = OfAgreeing (λ t known boxes at.
    (base : Arg) (spot : Spot) (value : Val) (b y : Value) (w : World) → ArgIs at base b → ValIs at value y → write t spot b y at.rec ≡ Some w
    → (kept : List Pending) → KeptOf t base spot known.pending kept
    → (facts : List Fact) → AllByRecursion (IsApartFrom t spot) facts → AllByRecursion (FactHolds t at) facts
    → Agrees t (record known { pending = kept ++ record { base = base; spot = spot; value = value } ∷ []; facts = facts }) boxes (with_rec at w))

-- a store into a virtual object changes a part of its shape
abbrev pub VirtualStoreAgrees : Type 0
VirtualStoreAgrees = OfAgreeing (λ t known boxes at.
    (n : ℕ) (s : Shape) (spot : Spot) (value : Val) (b y : Value) (w : World) → slice_get known.shapes n ≡ Some (Some s) → ValIs at (Virtual n) b → ValIs at value y → write t spot b y at.rec ≡ Some w
    → (i : ℕ) × (place_of t s.of spot ≡ Some i) × (i < length s.parts)
    × Agrees t (record known { shapes = slice_set known.shapes n (Some (record { of = s.of; parts = slice_set s.parts i value })) }) boxes (with_rec at w))

-- the value of a store that names no virtual object
abbrev pub known_value : (BoxId → Option Value) → Val → Option Value
known_value box (Known a) = arg_value box a
known_value box (Virtual n) = None

-- a flush: a pending store of a known value is done by the piece, never goes wrong, and is pending no more
abbrev pub FlushAgrees : Type 0
FlushAgrees = OfAgreeing (λ t known boxes at.
    (before later : List Pending) (p : Pending) → known.pending ≡ before ++ p ∷ later
    → (base u : Value) → arg_value at.box p.base ≡ Some base → known_value at.box p.value ≡ Some u
    → (w : World) × (write t p.spot base u at.opt ≡ Some w) × Agrees t (record known { pending = before ++ later }) boxes (with_opt at w))

abbrev pub IsKnown : Val → Type 0
IsKnown (Known a) = Unit {0}
IsKnown (Virtual n) = ⊥

-- so do several, in order
abbrev pub FlushesAgree : Type 0
FlushesAgree = OfAgreeing (λ t known boxes at.
    (before ps later : List Pending) (next : ℕ) → known.pending ≡ before ++ (ps ++ later) → AllByRecursion (λ (p : Pending). IsKnown p.value) ps
    → (w : World) × (stores_done t at.box next ps at.opt ≡ Some w) × Agrees t (record known { pending = before ++ later }) boxes (with_opt at w))

-- a store that both do at once, where no pending store may touch its spot; the index of an item is here what it is in this run
abbrev pub BothStoresAgree : Type 0
BothStoresAgree = OfAgreeing (λ t known boxes at.
    (spot : Spot) (base b u y : Value) (w : World) → MapsAt at base b → MapsAt at u y → write t spot b y at.rec ≡ Some w
    → AllByRecursion (λ (p : Pending). AreApart t spot p.spot) known.pending
    → (facts : List Fact) → AllByRecursion (IsApartFrom t spot) facts → AllByRecursion (FactHolds t at) facts
    → (o : World) × (write t spot base u at.opt ≡ Some o) × Agrees t (record known { facts = facts }) boxes (with_opt (with_rec at w) o))
