-- What a leg tells of the operations that it has passed, of boxes and objects as they are where it stands.
use Rattle.std.specs.Prelude.{◌≡◌, ◌≢◌, ℕ, ℤ, pos, true, List, [], ◌∷◌, ◌++◌, ◌<◌, Option, Some, length, take, slice_get}
use Rattle.std.specs.List.{AllByRecursion, AllZip}
use Rattle.trace_ops.specs.declared.code.OpCode.{OpCode}
use Rattle.trace_ops.specs.declared.code.OpCode.TheVariants as code
use Rattle.trace_ops.specs.declared.facts.Part.TheVariants as part
use Rattle.trace_ops.specs.declared.trace.BoxId.{BoxId}
use Rattle.trace_ops.specs.declared.trace.Arg.{Arg}
use Rattle.trace_ops.specs.declared.trace.Arg.TheVariants.{Of, Const, Null, Class, Func, Ptr}
use Rattle.trace_ops.specs.declared.trace.Op.{Op}
use Rattle.trace_ops.specs.declared.trace.TraceSet.{TraceSet}
use Rattle.trace_ops.specs.declared.table.Table.{Table}
use Rattle.trace_ops.specs.declared.table.ShapeOf.TheVariants as shape
use Rattle.trace_ops.specs.declared.piece.Val.{Val}
use Rattle.trace_ops.specs.declared.piece.Val.TheVariants.{Known}
use Rattle.trace_ops.specs.declared.piece.Fact.{Fact}
use Rattle.trace_ops.specs.declared.piece.Fact.TheVariants as fact
use Rattle.trace_ops.specs.Classes.{is_pure}
use Rattle.trace_ops.specs.Facts.{part_of}
use Rattle.trace_ops.specs.WellFormed.{IsWellFormed}
use Rattle.trace_meaning.specs.declared.value.Value.{Value}
use Rattle.trace_meaning.specs.declared.value.Value.TheVariants as v
use Rattle.trace_meaning.specs.declared.value.Object.{Object}
use Rattle.trace_meaning.specs.World.{World}
use Rattle.trace_meaning.specs.Boxes.{Boxes, value_in, arg_value}
use Rattle.trace_meaning.specs.Legs.{Jumps, On, drive, drive_to}
use Rattle.trace_meaning.specs.Recorded.{Rec, recorded_step, values_of, ops_at, begin_at}
use Rattle.opt_meaning.specs.Agrees.{Place, FactHolds}
use Rattle.agreement.specs.Growing.{OfAgreeing}

-- recorded boxes and objects alone, as a place where facts hold
abbrev pub recorded_place : Boxes → World → Place
recorded_place boxes w = record { box = value_in boxes; rec = w; opt = w; mapped = []; virtuals = [] }

abbrev pub HasNow : Rec → Arg → Value → Type 0
HasNow r a x = arg_value (value_in r.boxes) a ≡ Some x

-- it is an object; of a box, this is the fact Nonnull
abbrev pub IsObject : Rec → Arg → Type 0
IsObject r a = (n : ℕ) × HasNow r a (v.Obj n)

-- it is an object of this size; of a box, this is the fact ClassOf
abbrev pub IsOfSize : Rec → Arg → ℕ → Type 0
IsOfSize r a size = (n : ℕ) × HasNow r a (v.Obj n) × (o : Object) × (slice_get r.world.objects n ≡ Some o) × (o.of ≡ shape.Size size)

-- the operation is this code of these arguments
abbrev pub Is : Op → OpCode → List Arg → Type 0
Is op operation args = (op.code ≡ operation) × (op.args ≡ args)

-- an operation that was passed: the result of a pure one is its value, and of a guard holds what it tested
pub record Tells (t : Table) (r : Rec) (op : Op) : Type 0 where
  pub pure : is_pure op.code ≡ true → (b : BoxId) → op.result ≡ Some b → FactHolds t (recorded_place r.boxes r.world) (fact.Same op.code op.args (Of b))
  pub guard_true : (a : Arg) → Is op code.GuardTrue (a ∷ []) → (z : ℤ) × HasNow r a (v.Int z) × (z ≢ pos 0)
  pub guard_false : (a : Arg) → Is op code.GuardFalse (a ∷ []) → HasNow r a (v.Int (pos 0))
  pub guard_value : (a b : Arg) → Is op code.GuardValue (a ∷ b ∷ []) → (x : Value) × HasNow r a x × HasNow r b x
  pub guard_nonnull : (a : Arg) → Is op code.GuardNonnull (a ∷ []) → IsObject r a
  pub guard_isnull : (a : Arg) → Is op code.GuardIsnull (a ∷ []) → HasNow r a v.Null
  pub guard_class : (a : Arg) (size : ℕ) → Is op code.GuardClass (a ∷ Class size ∷ []) → IsOfSize r a size
  pub guard_nonnull_class : (a : Arg) (size : ℕ) → Is op code.GuardNonnullClass (a ∷ Class size ∷ []) → IsOfSize r a size

-- in a leg of a trace, as far as its operations have gone
abbrev pub LegsTell : Type 0
LegsTell =
    (set : TraceSet) → IsWellFormed set → (p n : ℕ) (vs : List Value) (w : World) (r : Rec)
    → drive_to (recorded_step set.table) (take n (ops_at set p)) (begin_at set p vs w) ≡ On r
    → AllByRecursion (Tells set.table r) (take n (ops_at set p))

-- a leg that jumps with the values us in the world u: the state before its jump, and what it tells there
pub record JumpTells (set : TraceSet) (p : ℕ) (vs us : List Value) (w u : World) : Type 0 where
  pub before : List Op
  pub jump : Op
  pub whole : ops_at set p ≡ before ++ jump ∷ []
  pub jumps : part_of jump.code ≡ part.Jump
  pub state : Rec
  pub stands : drive_to (recorded_step set.table) before (begin_at set p vs w) ≡ On state
  pub values : values_of state jump.args ≡ Some us
  pub world : state.world ≡ u
  pub tells : AllByRecursion (Tells set.table state) before

abbrev pub JumpsTell : Type 0
JumpsTell =
    (set : TraceSet) → IsWellFormed set → (p : ℕ) (vs us : List Value) (w u : World)
    → drive (recorded_step set.table) (λ s. s.world) (ops_at set p) (begin_at set p vs w) ≡ Jumps us u
    → JumpTells set p vs us w u

-- What is told of recorded boxes, of those of a piece

-- the argument of a trace is this one in the piece
abbrev pub IsNamed : Table → (BoxId → Option Val) → Arg → Arg → Type 0
IsNamed t names (Of b) a = names b ≡ Some (Known a)
IsNamed t names (Const z) a = a ≡ Const z
IsNamed t names Null a = a ≡ Null
IsNamed t names (Class k) a = a ≡ Class k
IsNamed t names (Func k) a = a ≡ Func k
IsNamed t names (Ptr k) a = (a ≡ Ptr k) × (k < length t.prebuilts)

-- the same fact, of the boxes of the piece; one of a spot is told there by other laws
abbrev pub IsNamedFact : Table → (BoxId → Option Val) → Fact → Fact → Type 0
IsNamedFact t names (fact.Between b low high) (fact.Between c from to) = (names b ≡ Some (Known (Of c))) × (low ≡ from) × (high ≡ to)
IsNamedFact t names (fact.Nonnull b) (fact.Nonnull c) = names b ≡ Some (Known (Of c))
IsNamedFact t names (fact.ClassOf b size) (fact.ClassOf c other) = (names b ≡ Some (Known (Of c))) × (size ≡ other)
IsNamedFact t names (fact.Same operation args value) (fact.Same other brgs named) = (operation ≡ other) × AllZip (IsNamed t names) args brgs × IsNamed t names value named
IsNamedFact t names _ _ = ⊥

-- what recorded boxes tell, those of the piece tell that they are there
abbrev pub FactsCarryOver : Type 0
FactsCarryOver = OfAgreeing (λ t known boxes at. (x y : Fact) → IsNamedFact t known.names x y → FactHolds t (recorded_place boxes at.rec) x → FactHolds t at y)
