-- What is known at a point of a piece, and when a recorded state and a piece's state agree with it.
use Rattle.std.specs.Prelude.{◌≡◌, ◌≢◌, ℕ, false, ◌⊎◌, List, [], ◌∷◌, Option, Some, None, length, map, slice_get, ◌≤ℤ◌, ℤ}
use Rattle.std.specs.List.{AllByRecursion, AllZip}
use Rattle.trace_ops.specs.declared.trace.BoxId.{BoxId}
use Rattle.trace_ops.specs.declared.trace.Arg.{Arg}
use Rattle.trace_ops.specs.declared.table.Table.{Table}
use Rattle.trace_ops.specs.declared.table.ShapeOf.TheVariants as shape
use Rattle.trace_ops.specs.declared.piece.Val.{Val}
use Rattle.trace_ops.specs.declared.piece.Val.TheVariants.{Known, Virtual}
use Rattle.trace_ops.specs.declared.piece.Shape.{Shape}
use Rattle.trace_ops.specs.declared.piece.Spot.{Spot}
use Rattle.trace_ops.specs.declared.piece.Pending.{Pending}
use Rattle.trace_ops.specs.declared.piece.Fact.{Fact}
use Rattle.trace_ops.specs.declared.piece.Fact.TheVariants as fact
use Rattle.trace_meaning.specs.declared.value.Value.{Value}
use Rattle.trace_meaning.specs.declared.value.Value.TheVariants as v
use Rattle.trace_meaning.specs.declared.value.Object.{Object}
use Rattle.trace_meaning.specs.World.{World}
use Rattle.trace_meaning.specs.Recorded.{prebuilt_object}
use Rattle.trace_meaning.specs.Growing.{IsLonger, extent, extents}
use Rattle.trace_meaning.specs.Boxes.{Boxes, value_in, arg_value, all_values}
use Rattle.trace_meaning.specs.Objects.{read, place_of, is_frozen}
use Rattle.trace_meaning.specs.Folding.{fold}
use Rattle.heap_shape.specs.Sameness.{Maps, MapsIf}
use Rattle.opt_meaning.specs.Along.{IsOneToOne, SameLogs, AreAlike}

-- the first objects are the prebuilt ones, each of its shape and with as many parts
abbrev pub HasPrebuilts : Table → World → Type 0
HasPrebuilts t w = IsLonger (map (λ row. extent (prebuilt_object row)) t.prebuilts) (extents w)

-- what each recorded box is in the piece; the virtual objects, none in place of one that was made; stores to come; facts
pub record Facts : Type 0 where
  pub names : BoxId → Option Val
  pub shapes : List (Option Shape)
  pub pending : List Pending
  pub facts : List Fact

-- the piece's boxes, both worlds, the recorded object of each object of the piece, and that of each virtual one
pub record Place : Type 0 where
  pub box : BoxId → Option Value
  pub rec : World
  pub opt : World
  pub mapped : List ℕ
  pub virtuals : List ℕ

-- a value of the piece is this recorded one
abbrev pub MapsAt : Place → Value → Value → Type 0
MapsAt at u y = Maps (slice_get at.mapped) u y

abbrev pub ArgIs : Place → Arg → Value → Type 0
ArgIs at a y = (u : Value) × (arg_value at.box a ≡ Some u) × MapsAt at u y

abbrev pub ValIs : Place → Val → Value → Type 0
ValIs at (Known a) y = ArgIs at a y
ValIs at (Virtual n) y = (j : ℕ) × (slice_get at.virtuals n ≡ Some j) × (y ≡ v.Obj j)

-- a box has a value exactly where it has a name, which stands for it
abbrev pub NameIs : Place → Option Val → Option Value → Type 0
NameIs at None None = Unit {0}
NameIs at (Some x) (Some y) = ValIs at x y
NameIs at None (Some y) = ⊥
NameIs at (Some x) None = ⊥

abbrev pub IsLive : List (Option Shape) → ℕ → Type 0
IsLive shapes n = (s : Shape) × (slice_get shapes n ≡ Some (Some s))

-- part i of the piece's object n is what the store will write
abbrev pub Writes : Table → Place → ℕ → ℕ → Pending → Type 0
Writes t at n i p = (arg_value at.box p.base ≡ Some (v.Obj n)) × (o : Object) × (slice_get at.opt.objects n ≡ Some o) × (place_of t o.of p.spot ≡ Some i)

abbrev pub IsPending : Table → Place → List Pending → ℕ → ℕ → Type 0
IsPending t at [] n i = ⊥
IsPending t at (p ∷ ps) n i = Writes t at n i p ⊎ IsPending t at ps n i

-- the recorded object that the base stands for has this value at the spot
abbrev pub SpotIs : Table → Place → Arg → Spot → Val → Type 0
SpotIs t at base spot value = (b : Value) × ArgIs at base b × (y : Value) × (read t spot b at.rec ≡ Some y) × ValIs at value y

-- the base is no prebuilt object of which this field is immutable
abbrev pub IsOpen : Table → Place → Arg → Spot → Type 0
IsOpen t at base spot = (n : ℕ) × (arg_value at.box base ≡ Some (v.Obj n)) × (is_frozen t spot n ≡ false)

abbrev pub StoreIs : Table → Place → Pending → Type 0
StoreIs t at p = SpotIs t at p.base p.spot p.value × IsOpen t at p.base p.spot

abbrev pub FactHolds : Table → Place → Fact → Type 0
FactHolds t at (fact.Between b low high) = (z : ℤ) × (at.box b ≡ Some (v.Int z)) × (low ≤ℤ z) × (z ≤ℤ high)
FactHolds t at (fact.Nonnull b) = (n : ℕ) × (at.box b ≡ Some (v.Obj n))
FactHolds t at (fact.ClassOf b size) = (n : ℕ) × (at.box b ≡ Some (v.Obj n)) × (o : Object) × (slice_get at.opt.objects n ≡ Some o) × (o.of ≡ shape.Size size)
FactHolds t at (fact.Holds base spot value) = SpotIs t at base spot (Known value)
FactHolds t at (fact.Same operation args value) = (xs : List Value) × (all_values (arg_value at.box) args ≡ Some xs) × (y : Value) × (fold operation xs ≡ Some y) × (arg_value at.box value ≡ Some y)

-- an object outside the map for each live virtual one, of its shape and with its parts
pub record ShapeIs (t : Table) (at : Place) (n : ℕ) (s : Shape) : Type 0 where
  pub object : ℕ
  pub names : slice_get at.virtuals n ≡ Some object
  pub recorded : Object
  pub there : slice_get at.rec.objects object ≡ Some recorded
  pub of : recorded.of ≡ s.of
  pub parts : AllZip (ValIs at) s.parts recorded.parts

-- the recorded boxes, the recorded world and the piece's state agree with what is known
pub record Agrees (t : Table) (known : Facts) (boxes : Boxes) (at : Place) : Type 0 where
  -- the first recorded objects are those of the table, with its shapes
  pub first : HasPrebuilts t at.rec
  pub covers : length at.mapped ≡ length at.opt.objects
  pub counts : length at.virtuals ≡ length known.shapes
  pub injective : IsOneToOne (length t.prebuilts) at.mapped
  pub alike : (x j : ℕ) (a : Object) → slice_get at.opt.objects x ≡ Some a → slice_get at.mapped x ≡ Some j → (b : Object) × (slice_get at.rec.objects j ≡ Some b) × AreAlike a b
  pub outside : (n j x : ℕ) → IsLive known.shapes n → slice_get at.virtuals n ≡ Some j → slice_get at.mapped x ≢ Some j
  pub apart : (m n j : ℕ) → IsLive known.shapes m → IsLive known.shapes n → slice_get at.virtuals m ≡ Some j → slice_get at.virtuals n ≡ Some j → m ≡ n
  pub shaped : (n : ℕ) (s : Shape) → slice_get known.shapes n ≡ Some (Some s) → ShapeIs t at n s
  pub names : (b : BoxId) → NameIs at (known.names b) (value_in boxes b)
  pub parts : (x j i : ℕ) (a b : Object) (y : Value) → slice_get at.opt.objects x ≡ Some a → slice_get at.mapped x ≡ Some j → slice_get at.rec.objects j ≡ Some b → slice_get b.parts i ≡ Some y → IsPending t at known.pending x i ⊎ MapsIf (slice_get at.mapped) (slice_get a.parts i) (Some y)
  pub pending : AllByRecursion (StoreIs t at) known.pending
  pub facts : AllByRecursion (FactHolds t at) known.facts
  pub calls : SameLogs at.mapped at.opt.log at.rec.log
  pub answers : at.opt.answers ≡ at.rec.answers
  pub failures : at.opt.failures ≡ at.rec.failures
