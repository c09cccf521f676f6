-- What a list of visits is, apart from how it is made.
use Rattle.std.specs.Prelude.{◌≡◌, ℕ, ◌<◌, List, [], ◌∷◌, ◌++◌, Some, length, map, slice_get}
use Rattle.trace_meaning.specs.declared.value.Value.{Value}
use Rattle.trace_meaning.specs.declared.value.Value.TheVariants as v
use Rattle.trace_meaning.specs.declared.value.Object.{Object}
use Rattle.heap_shape.specs.Listing.{ref_of, cell_of, listing}
use Rattle.heap_shape.specs.Visiting.{number_of, visit, parts_at, visited, AreWithin, IsClosed, Has, IsOnce}

-- a path of parts goes from one object to another
abbrev pub Leads : List Object → ℕ → ℕ → List ℕ → Type 0
Leads objects from to [] = from ≡ to
Leads objects from to (n ∷ ns) = Has (parts_at objects from) (v.Obj n) × Leads objects n to ns

-- a root is an object from which a path goes to this one
abbrev pub Reaches : List Object → List Value → ℕ → Type 0
Reaches objects roots n = (root : ℕ) × Has roots (v.Obj root) × (path : List ℕ) × Leads objects root n path

-- the parts of each, one after the other
abbrev pub all_parts : List Object → List ℕ → List Value
all_parts objects [] = []
all_parts objects (n ∷ ns) = parts_at objects n ++ all_parts objects ns

-- the objects that the roots reach, each once, as they first stand in: the roots, then the parts of the first, those of the second, and so on
pub record AreVisits (objects : List Object) (roots : List Value) (seen : List ℕ) : Type 0 where
  pub complete : (n : ℕ) → Reaches objects roots n → Has seen n
  pub sound : (n : ℕ) → Has seen n → Reaches objects roots n
  pub in_store : (n : ℕ) → Has seen n → n < length objects
  pub once : IsOnce seen
  pub in_order : seen ≡ visit [] (roots ++ all_parts objects seen)

abbrev pub VisitsInOrder : Type 0
VisitsInOrder = (objects : List Object) (roots : List Value) → IsClosed objects → AreWithin (length objects) roots → AreVisits objects roots (visited objects roots)

-- each object of the list has its place as number, and no other object has one
abbrev pub NumbersArePlaces : Type 0
NumbersArePlaces = (seen : List ℕ) → IsOnce seen → (n k : ℕ) → ((number_of seen n ≡ Some k) → slice_get seen k ≡ Some n) × ((slice_get seen k ≡ Some n) → number_of seen n ≡ Some k)

-- the numbers of the roots depend on the roots alone, whatever the objects hold
abbrev pub RootsAlone : Type 0
RootsAlone = (objects : List Object) (roots : List Value) → (listing objects roots).1 ≡ map (ref_of (visit [] roots)) roots

-- there is a cell for each object visited, at its place, with its shape and its parts
abbrev pub CellsAreObjects : Type 0
CellsAreObjects =
    (objects : List Object) (roots : List Value) → IsClosed objects → AreWithin (length objects) roots
    → (length (listing objects roots).0 ≡ length (visited objects roots))
    × ((k n : ℕ) → slice_get (visited objects roots) k ≡ Some n
    → (x : Object) × (slice_get objects n ≡ Some x) × (slice_get (listing objects roots).0 k ≡ Some (cell_of (visited objects roots) x)))
