-- New objects: virtual ones, those that both sides make, and virtual ones that are made.
use Rattle.std.specs.Prelude.{◌≡◌, ℕ, ◌≤◌, Bool, true, false, ◌==◌, if◌then◌else◌, List, [], ◌∷◌, ◌++◌, Option, None, Some, length, slice_get, slice_set, map, pos}
use Rattle.std.specs.Ordering.{int_eq}
use Rattle.std.specs.Option.{option_map}
use Rattle.std.specs.List.{AllZip, AllByRecursion}
use Rattle.trace_ops.specs.declared.trace.BoxId.{BoxId}
use Rattle.trace_ops.specs.declared.trace.Arg.TheVariants as arg
use Rattle.trace_ops.specs.declared.table.Table.{Table}
use Rattle.trace_ops.specs.declared.piece.Val.{Val}
use Rattle.trace_ops.specs.declared.piece.Val.TheVariants.{Known, Virtual}
use Rattle.trace_ops.specs.declared.piece.Shape.{Shape}
use Rattle.trace_ops.specs.declared.piece.Spot.{Spot}
use Rattle.trace_ops.specs.declared.piece.Pending.{Pending}
use Rattle.trace_meaning.specs.declared.value.Value.{Value}
use Rattle.trace_meaning.specs.declared.value.Value.TheVariants as v
use Rattle.trace_meaning.specs.declared.value.Object.{Object}
use Rattle.trace_meaning.specs.World.{World, bytes_in}
use Rattle.trace_meaning.specs.Boxes.{arg_value}
use Rattle.trace_meaning.specs.Objects.{place_of, with_new, zeroed, cleared}
use Rattle.heap_shape.specs.Sameness.{Maps}
use Rattle.opt_meaning.specs.Rebuilding.{stores_done}
use Rattle.opt_meaning.specs.Agrees.{Facts, Place, MapsAt, ValIs, Agrees}
use Rattle.agreement.specs.Growing.{OfAgreeing}
use Rattle.agreement.specs.Writing.{IsKnown}

-- Allocations

abbrev pub with_shape : Shape → Facts → Facts
with_shape s known = record known { shapes = known.shapes ++ Some s ∷ [] }

-- the trace has one more object, which is virtual
abbrev pub virtual_place : Object → Place → Place
virtual_place o at = record at { rec = with_new o at.rec; virtuals = at.virtuals ++ length at.rec.objects ∷ [] }

abbrev pub NewVirtualAgrees : Type 0
NewVirtualAgrees = OfAgreeing (λ t known boxes at.
    (s : Shape) (o : Object) → o.of ≡ s.of → AllZip (ValIs at) s.parts o.parts
    → Agrees t (with_shape s known) boxes (virtual_place o at) × ValIs (virtual_place o at) (Virtual (length known.shapes)) (v.Obj (length at.rec.objects)))

-- both have one more object
abbrev pub both_place : Object → Object → Place → Place
both_place a o at = record at { opt = with_new a at.opt; rec = with_new o at.rec; mapped = at.mapped ++ length at.rec.objects ∷ [] }

abbrev pub NewBothAgrees : Type 0
NewBothAgrees = OfAgreeing (λ t known boxes at.
    (a o : Object) → a.of ≡ o.of → AllZip (MapsAt (both_place a o at)) a.parts o.parts
    → Agrees t known boxes (both_place a o at) × MapsAt (both_place a o at) (v.Obj (length at.opt.objects)) (v.Obj (length at.rec.objects)))

-- the parts of new objects are one on both sides
abbrev pub ZerosAreOne : Type 0
ZerosAreOne =
    (t : Table) (m : ℕ → Option ℕ) (row n : ℕ)
    → AllZip (Maps m) (zeroed t row).parts (zeroed t row).parts × AllZip (Maps m) (cleared t row n).parts (cleared t row n).parts

-- the piece has allocated no more than the trace
abbrev pub BytesAgree : Type 0
BytesAgree = OfAgreeing (λ t known boxes at. bytes_in t at.opt ≤ bytes_in t at.rec)

-- Making a virtual object

-- a part that needs no store
abbrev pub is_zero : Val → Bool
is_zero (Known (arg.Const w)) = int_eq w (pos 0)
is_zero (Known arg.Null) = true
is_zero (Known (arg.Of b)) = false
is_zero (Known (arg.Class n)) = false
is_zero (Known (arg.Func n)) = false
is_zero (Known (arg.Ptr n)) = false
is_zero (Virtual n) = false

-- the box in place of the virtual object
abbrev pub made_val : ℕ → BoxId → Val → Val
made_val n b (Known a) = Known a
made_val n b (Virtual m) = if m == n then Known (arg.Of b) else Virtual m

abbrev pub made_shape : ℕ → BoxId → Shape → Shape
made_shape n b s = record { of = s.of; parts = map (made_val n b) s.parts }

abbrev pub made_pending : ℕ → BoxId → Pending → Pending
made_pending n b p = record { base = p.base; spot = p.spot; value = made_val n b p.value }

-- the stores of the parts other than 0 and NULL
abbrev pub part_stores : BoxId → List Spot → List Val → List Pending
part_stores b [] xs = []
part_stores b (s ∷ ss) [] = []
part_stores b (s ∷ ss) (x ∷ xs) = if is_zero x then part_stores b ss xs else record { base = arg.Of b; spot = s; value = x } ∷ part_stores b ss xs

-- the virtual object n is the box b, whose parts are at these spots
abbrev pub made_known : ℕ → BoxId → List Spot → Shape → Facts → Facts
made_known n b spots shape known = record {
  names = λ c. option_map (made_val n b) (known.names c);
  shapes = slice_set (map (option_map (made_shape n b)) known.shapes) n None;
  pending = map (made_pending n b) known.pending ++ map (made_pending n b) (part_stores b spots shape.parts);
  facts = known.facts;
}

-- the piece has one more object, which is the recorded object j
abbrev pub made_place : Object → ℕ → Place → Place
made_place o j at = record at { opt = with_new o at.opt; mapped = at.mapped ++ j ∷ [] }

-- the value of a constant
abbrev pub constant_of : Val → Option Value
constant_of (Known a) = arg_value (λ b. None) a
constant_of (Virtual n) = None

-- a fresh object for a shape: as many parts, and the right value where the shape's part is 0 or NULL
pub record IsFresh (shape : Shape) (o : Object) : Type 0 where
  pub of : o.of ≡ shape.of
  pub zeros : AllZip (λ x z. is_zero x ≡ true → constant_of x ≡ Some z) shape.parts o.parts

-- the spots of a shape's parts, in order
pub record AreSpots (t : Table) (shape : Shape) (spots : List Spot) : Type 0 where
  pub long : length spots ≡ length shape.parts
  pub places : (k : ℕ) (s : Spot) → slice_get spots k ≡ Some s → place_of t shape.of s ≡ Some k

-- b is the new object
abbrev pub MakeAgrees : Type 0
MakeAgrees = OfAgreeing (λ t known boxes at.
    (n : ℕ) (b : BoxId) (shape : Shape) (spots : List Spot) (o : Object)
    → slice_get known.shapes n ≡ Some (Some shape) → at.box b ≡ Some (v.Obj (length at.opt.objects)) → IsFresh shape o → AreSpots t shape spots
    → (j : ℕ) × (slice_get at.virtuals n ≡ Some j) × Agrees t (made_known n b spots shape known) boxes (made_place o j at))

-- Forcing: several virtual objects are made, and then their parts are stored

pub record Making : Type 0 where
  pub number : ℕ
  pub box : BoxId
  pub shape : Shape
  pub spots : List Spot
  pub object : Object
  pub recorded : ℕ

abbrev pub known_after : List Making → Facts → Facts
known_after [] known = known
known_after (m ∷ ms) known = known_after ms (made_known m.number m.box m.spots m.shape known)

abbrev pub place_after : List Making → Place → Place
place_after [] at = at
place_after (m ∷ ms) at = place_after ms (made_place m.object m.recorded at)

-- each is live when it is made, and its box is the next object
abbrev pub CanMake : Table → Facts → Place → List Making → Type 0
CanMake t known at [] = Unit {0}
CanMake t known at (m ∷ ms) =
    (slice_get known.shapes m.number ≡ Some (Some m.shape)) × (slice_get at.virtuals m.number ≡ Some m.recorded) × (at.box m.box ≡ Some (v.Obj (length at.opt.objects)))
    × IsFresh m.shape m.object × AreSpots t m.shape m.spots × CanMake t (made_known m.number m.box m.spots m.shape known) (made_place m.object m.recorded at) ms

-- the boxes in place of the virtual objects
abbrev pub renamed_all : List Making → List Pending → List Pending
renamed_all [] ps = ps
renamed_all (m ∷ ms) ps = renamed_all ms (map (made_pending m.number m.box) ps)

-- the stores of the parts of all that were made
abbrev pub all_stores : List Making → List Pending
all_stores [] = []
all_stores (m ∷ ms) = renamed_all ms (map (made_pending m.number m.box) (part_stores m.box m.spots m.shape.parts)) ++ all_stores ms

-- making all and then doing the stores never goes wrong, and keeps what agrees, where no store names a virtual object that wasn't made
abbrev pub ForceAgrees : Type 0
ForceAgrees = OfAgreeing (λ t known boxes at.
    (ms : List Making) (next : ℕ) → CanMake t known at ms → AllByRecursion (λ (p : Pending). IsKnown p.value) (all_stores ms)
    → (w : World) × (stores_done t at.box next (all_stores ms) (place_after ms at).opt ≡ Some w)
    × Agrees t (record (known_after ms known) { pending = renamed_all ms known.pending }) boxes (record (place_after ms at) { opt = w }))
