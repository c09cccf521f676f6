-- The order in which objects are visited: the roots from left to right, and then the parts of each object in the order of its visit.
use Rattle.std.specs.Prelude.{◌≡◌, ℕ, zero, suc, ◌+◌, ◌<◌, ◌^◌, ◌==◌, if◌then◌else◌, ◌⊎◌, List, [], ◌∷◌, ◌++◌, Option, Some, None, length, slice_get}
use Rattle.std.specs.Option.{option_map, is_some}
use Rattle.std.specs.List.{AllByRecursion}
use Rattle.trace_meaning.specs.declared.value.Value.{Value}
use Rattle.trace_meaning.specs.declared.value.Value.TheVariants as v
use Rattle.trace_meaning.specs.declared.value.Object.{Object}

-- an object's number is its place among those visited
abbrev pub number_of : List ℕ → ℕ → Option ℕ
number_of [] n = None
number_of (x ∷ xs) n = if x == n then Some 0 else option_map suc (number_of xs n)

-- an object that wasn't visited before comes last
abbrev pub note : List ℕ → ℕ → List ℕ
note seen n = if is_some (number_of seen n) then seen else seen ++ n ∷ []

abbrev pub note_value : List ℕ → Value → List ℕ
note_value seen (v.Obj n) = note seen n
note_value seen (v.Int w) = seen
note_value seen v.Null = seen

-- each of the values is visited, from left to right
abbrev pub visit : List ℕ → List Value → List ℕ
visit seen [] = seen
visit seen (x ∷ xs) = visit (note_value seen x) xs

abbrev pub parts_in : Option Object → List Value
parts_in None = []
parts_in (Some x) = x.parts

abbrev pub parts_at : List Object → ℕ → List Value
parts_at objects n = parts_in (slice_get objects n)

abbrev pub walk_on : (ℕ → List ℕ → List ℕ) → List Object → ℕ → List ℕ → Option ℕ → List ℕ
walk_on go objects i seen None = seen
walk_on go objects i seen (Some n) = go (i + 1) (visit seen (parts_at objects n))

-- from the object with number i on, the parts of each, in number order; of so many objects at most
abbrev pub walk : ℕ → List Object → ℕ → List ℕ → List ℕ
walk zero objects i seen = seen
walk (suc most) objects i seen = walk_on (walk most objects) objects i seen (slice_get seen i)

-- all that the roots reach; each object is visited once, so there are no more than objects
abbrev pub visited : List Object → List Value → List ℕ
visited objects roots = walk (length objects) objects 0 (visit [] roots)

-- Numbers in range

-- an object that the value names is one of so many
abbrev pub IsWithin : ℕ → Value → Type 0
IsWithin count (v.Obj n) = n < count
IsWithin count (v.Int w) = Unit {0}
IsWithin count v.Null = Unit {0}

abbrev pub AreWithin : ℕ → List Value → Type 0
AreWithin count values = AllByRecursion (IsWithin count) values

-- each part names an object of the list
abbrev pub IsClosed : List Object → Type 0
IsClosed objects = AllByRecursion (λ x. AreWithin (length objects) x.parts) objects

-- x is in the list
abbrev pub Has : {X : Type 0} → List X → X → Type 0
Has [] x = ⊥
Has (y ∷ ys) x = (y ≡ x) ⊎ Has ys x

-- no number stands twice
abbrev pub IsOnce : List ℕ → Type 0
IsOnce [] = Unit {0}
IsOnce (n ∷ ns) = (Has ns n → ⊥) × IsOnce ns

-- an object that the value names was visited
abbrev pub IsVisited : List ℕ → Value → Type 0
IsVisited seen (v.Obj n) = Has seen n
IsVisited seen (v.Int w) = Unit {0}
IsVisited seen v.Null = Unit {0}

abbrev pub AllVisited : List ℕ → List Value → Type 0
AllVisited seen values = AllByRecursion (IsVisited seen) values

-- so were the parts of each that was
abbrev pub PartsVisited : List Object → List ℕ → Type 0
PartsVisited objects seen = (n : ℕ) → Has seen n → AllVisited seen (parts_at objects n)

-- by object, its number among those visited
pub record IsNumbered (seen : List ℕ) (numbers : List (Option ℕ)) : Type 0 where
  pub short : length numbers < 2 ^ 32
  pub distinct : IsOnce seen
  pub below : (n : ℕ) → Has seen n → n < length numbers
  pub told : (n : ℕ) → n < length numbers → slice_get numbers n ≡ Some (number_of seen n)
