-- When two heaps are the same: an injective map takes the objects that the roots of one reach to those of the other. Objects that no root reaches don't matter.
use Rattle.std.specs.Prelude.{◌≡◌, ℕ, ◌<◌, List, [], Option, None, Some, slice_get}
use Rattle.std.specs.List.{AllZip}
use Rattle.trace_meaning.specs.declared.value.Value.{Value}
use Rattle.trace_meaning.specs.declared.value.Value.TheVariants as v
use Rattle.trace_meaning.specs.declared.value.Object.{Object}
use Rattle.trace_meaning.specs.declared.call.CallEvent.{CallEvent}
use Rattle.heap_shape.specs.Listing.{listing}
use Rattle.heap_shape.specs.Roots.{roots}

-- a value of one heap is this value of the other
abbrev pub Maps : (ℕ → Option ℕ) → Value → Value → Type 0
Maps m (v.Int x) (v.Int y) = x ≡ y
Maps m v.Null v.Null = Unit {0}
Maps m (v.Obj x) (v.Obj y) = m x ≡ Some y
Maps m (v.Int x) v.Null = ⊥
Maps m (v.Int x) (v.Obj y) = ⊥
Maps m v.Null (v.Int y) = ⊥
Maps m v.Null (v.Obj y) = ⊥
Maps m (v.Obj x) (v.Int y) = ⊥
Maps m (v.Obj x) v.Null = ⊥

-- no two objects are one, and an object is one of the same shape whose parts agree; some objects are none
pub record Alongside (m : ℕ → Option ℕ) (one other : List Object) : Type 0 where
  pub one_to_one : (x y j : ℕ) → m x ≡ Some j → m y ≡ Some j → x ≡ y
  pub same : (x j : ℕ) → m x ≡ Some j
      → (a : Object) × (slice_get one x ≡ Some a) × (b : Object) × (slice_get other j ≡ Some b) × (a.of ≡ b.of) × AllZip (Maps m) a.parts b.parts

-- heaps whose roots agree along such a map have one listing
abbrev pub SameListing : Type 0
SameListing =
    (m : ℕ → Option ℕ) (one other : List Object) (us vs : List Value) → Alongside m one other → AllZip (Maps m) us vs → listing one us ≡ listing other vs

abbrev pub MapsIf : (ℕ → Option ℕ) → Option Value → Option Value → Type 0
MapsIf m None None = Unit {0}
MapsIf m (Some x) (Some y) = Maps m x y
MapsIf m None (Some y) = ⊥
MapsIf m (Some x) None = ⊥

-- one call of both runs
pub record SameCall (m : ℕ → Option ℕ) (x y : CallEvent) : Type 0 where
  pub function : x.function ≡ y.function
  pub args : AllZip (Maps m) x.args y.args
  pub seen : AllZip (Maps m) x.seen y.seen
  pub gives : MapsIf m x.gives y.gives

-- a list gives each object of one heap its object of the other; no two are one, and each prebuilt object is itself
pub record IsOneToOne (prebuilts : ℕ) (m : List ℕ) : Type 0 where
  pub one_to_one : (x y j : ℕ) → slice_get m x ≡ Some j → slice_get m y ≡ Some j → x ≡ y
  pub prebuilt : (x : ℕ) → x < prebuilts → slice_get m x ≡ Some x

-- calls that agree one by one have the same root numbers, whatever the heaps hold
abbrev pub SameRootNumbers : Type 0
SameRootNumbers =
    (m : List ℕ) (prebuilts : ℕ) (xs ys : List CallEvent) (one other : List Object) → IsOneToOne prebuilts m → AllZip (SameCall (slice_get m)) xs ys
    → (listing one (roots prebuilts xs [])).1 ≡ (listing other (roots prebuilts ys [])).1

-- the roots of runs whose calls and last values agree, and whose prebuilt objects are the same, agree too
abbrev pub SameRoots : Type 0
SameRoots =
    (m : ℕ → Option ℕ) (prebuilt : ℕ) (xs ys : List CallEvent) (us vs : List Value) → ((n : ℕ) → n < prebuilt → m n ≡ Some n) → AllZip (SameCall m) xs ys → AllZip (Maps m) us vs
    → AllZip (Maps m) (roots prebuilt xs us) (roots prebuilt ys vs)
