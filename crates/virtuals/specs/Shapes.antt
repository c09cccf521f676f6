-- The shapes of virtual objects, by number. One that was forced has none.
use Rattle.std.specs.Prelude.{◌≡◌, ◌≢◌, ℕ, ◌<◌, ◌^◌, pos, Bool, true, false, ◌==◌, if◌then◌else◌, List, [], ◌∷◌, Option, None, Some, map, length, slice_get, slice_set, ◌⊎◌}
use Rattle.std.specs.Ordering.{int_eq}
use Rattle.std.specs.List.{All}
use Rattle.std.specs.Option.{option_map}
use Rattle.trace_ops.specs.declared.trace.Kind.{Kind}
use Rattle.trace_ops.specs.declared.trace.Kind.TheVariants as k
use Rattle.trace_ops.specs.declared.trace.BoxId.{BoxId}
use Rattle.trace_ops.specs.declared.table.ShapeOf.{ShapeOf}
use Rattle.trace_ops.specs.declared.trace.Arg.TheVariants as a
use Rattle.trace_ops.specs.declared.piece.Val.{Val}
use Rattle.trace_ops.specs.declared.piece.Val.TheVariants as l
use Rattle.trace_ops.specs.declared.piece.Shape.{Shape}
use Rattle.trace_ops.specs.Lawful.{IsNumbered}

-- x is in the list
abbrev pub Has : {X : Type 0} → List X → X → Type 0
Has [] x = ⊥
Has (y ∷ ys) x = (y ≡ x) ⊎ Has ys x

-- what a part of a fresh object is
abbrev pub zero_of : Kind → Val
zero_of k.Int = l.Known (a.Const (pos 0))
zero_of k.Ref = l.Known a.Null

-- a part that needs no store
abbrev pub is_zero : Val → Bool
is_zero (l.Known (a.Const w)) = int_eq w (pos 0)
is_zero (l.Known a.Null) = true
is_zero (l.Known (a.Of b)) = false
is_zero (l.Known (a.Class n)) = false
is_zero (l.Known (a.Func n)) = false
is_zero (l.Known (a.Ptr n)) = false
is_zero (l.Virtual n) = false

abbrev pub fresh : ShapeOf → List Kind → Shape
fresh of kinds = record { of = of; parts = map zero_of kinds }

-- the virtual object was made and isn't forced
abbrev pub IsLive : List (Option Shape) → ℕ → Type 0
IsLive shapes n = (shape : Shape) × (slice_get shapes n ≡ Some (Some shape))

-- what is live before is live after
abbrev pub StayLive : List (Option Shape) → List (Option Shape) → Type 0
StayLive old new = (n : ℕ) → IsLive old n → IsLive new n

-- the same of all others
abbrev pub OthersStayLive : ℕ → List (Option Shape) → List (Option Shape) → Type 0
OthersStayLive id old new = (n : ℕ) → n ≢ id → IsLive old n → IsLive new n

-- a virtual object that a value names is live
abbrev pub IsMade : List (Option Shape) → Val → Type 0
IsMade shapes (l.Known x) = Unit {0}
IsMade shapes (l.Virtual n) = IsLive shapes n

-- the parts of a virtual object; a forced one has none
abbrev pub parts_in : Option (Option Shape) → List Val
parts_in None = []
parts_in (Some None) = []
parts_in (Some (Some shape)) = shape.parts

abbrev pub parts_of : List (Option Shape) → ℕ → List Val
parts_of shapes n = parts_in (slice_get shapes n)

abbrev pub part_at : List (Option Shape) → ℕ → ℕ → Option Val
part_at shapes n k = slice_get (parts_of shapes n) k

-- the shape has that part
abbrev pub HasPart : ℕ → Option Shape → Type 0
HasPart part None = Unit {0}
HasPart part (Some shape) = part < length shape.parts

abbrev pub set_part : ℕ → Val → Shape → Shape
set_part k value shape = record { of = shape.of; parts = slice_set shape.parts k value }

abbrev pub put_in : ℕ → ℕ → Val → List (Option Shape) → Option (Option Shape) → List (Option Shape)
put_in n k value shapes None = shapes
put_in n k value shapes (Some shape) = slice_set shapes n (option_map (set_part k value) shape)

-- another value at one part, and no other change
abbrev pub put_part : ℕ → ℕ → Val → List (Option Shape) → List (Option Shape)
put_part n k value shapes = put_in n k value shapes (slice_get shapes n)

-- the box in place of the virtual object
abbrev pub instead : ℕ → BoxId → Val → Val
instead n to (l.Known x) = l.Known x
instead n to (l.Virtual m) = if m == n then l.Known (a.Of to) else l.Virtual m

abbrev pub renamed : ℕ → BoxId → Shape → Shape
renamed n to shape = record { of = shape.of; parts = map (instead n to) shape.parts }

-- the virtual object is forced, and each part that named it is the box
abbrev pub forced : ℕ → BoxId → List (Option Shape) → List (Option Shape)
forced n to shapes = slice_set (map (option_map (renamed n to)) shapes) n None

-- each part names a virtual object that has a shape, and its number is of 32 bits
pub record IsSound (shapes : List (Option Shape)) : Type 0 where
  pub closed : (n m : ℕ) → Has (parts_of shapes n) (l.Virtual m) → IsLive shapes m
  pub short : (n : ℕ) → length (parts_of shapes n) < 2 ^ 32

-- the parts of each of these shapes name virtual objects by their places among them, and fit numbers of 32 bits
pub record AreShapes (shapes : List Shape) : Type 0 where
  pub numbered : All (λ (s : Shape). All (IsNumbered (length shapes)) s.parts) shapes
  pub short : All (λ (s : Shape). length s.parts < 2 ^ 32) shapes
