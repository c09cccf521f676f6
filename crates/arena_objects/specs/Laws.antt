-- What loads, stores and allocations do where objects stand.
use Rattle.std.specs.Prelude.{◌≡◌, ◌↔◌, ℕ, ◌+◌, ◌*◌, ◌%◌, ◌^◌, ◌<◌, ◌≤◌, ℤ, pos, List, [], ◌∷◌, ◌++◌, length, map, Some, slice_get, slice_set, sum_by, take, IsSome, true}
use Rattle.std.specs.Ordering.{int_eq}
use Rattle.std.specs.List.{All, Contains}
use Rattle.trace_ops.specs.declared.piece.Spot.{Spot}
use Rattle.trace_ops.specs.declared.table.Table.{Table}
use Rattle.trace_ops.specs.declared.table.ShapeOf.{ShapeOf}
use Rattle.trace_ops.specs.declared.table.ShapeOf.TheVariants.{Array}
use Rattle.trace_meaning.specs.declared.value.Value.{Value}
use Rattle.trace_meaning.specs.declared.value.Value.TheVariants as v
use Rattle.trace_meaning.specs.declared.value.Object.{Object}
use Rattle.trace_ops.specs.InRange.{IsTableInRange, bytes_of_object}
use Rattle.trace_meaning.specs.Kinds.{ObjectsHold}
use Rattle.trace_meaning.specs.Values.{is_reference, same_reference}
use Rattle.trace_meaning.specs.World.{World, size_of, bytes_in}
use Rattle.trace_meaning.specs.Objects.{with_part, place_of, read_in, length_in, written}
use Rattle.target_base.specs.Arena.{Arena, arena_word, with_arena_word}
use Rattle.arena_objects.specs.Layout.{header_of, address_of, part_offset, word_of, words_in, words_of, bytes_for}
use Rattle.arena_objects.specs.Standing.{IsPart, Stands}
use Rattle.arena_objects.specs.Making.{zeroed_of, arena_with}
use Rattle.arena_objects.specs.Spots.{spot_offset, ListsItsFields}
use Rattle.arena_objects.specs.declared.walk.Found.{Found}
use Rattle.arena_objects.specs.Walk.{words_found, begins_at, objects_found, object_at, as_found}
use Rattle.arena_objects.specs.ReadBack.{reference_to, objects_in, KindsAreKnown}

-- ---- addresses

-- what holds of the address of object n
pub record IsAddress (objects : List Object) (arena : Arena) (n a : ℕ) : Type 0 where
  pub low : 0x10000000 ≤ a
  pub whole : a % 8 ≡ 0
  pub inside : a + 8 ≤ 0x10000000 + arena.taken
  pub high : a < 0x20000000
  pub only : (m : ℕ) → m < length objects → address_of objects m ≡ a → m ≡ n

abbrev pub AddressesAreApart : Type 0
AddressesAreApart =
    (t : Table) (objects : List Object) (arena : Arena) (n : ℕ)
    → Stands t objects arena → n < length objects → IsAddress objects arena n (address_of objects n)

-- ---- loads and stores

-- the header, the length of an array, and each part is found at its place
abbrev pub HeadersAreFound : Type 0
HeadersAreFound =
    (t : Table) (objects : List Object) (arena : Arena) (n : ℕ) (o : Object)
    → Stands t objects arena → slice_get objects n ≡ Some o → arena_word arena (address_of objects n) ≡ Some (pos (header_of t o.of))

abbrev pub LengthsAreFound : Type 0
LengthsAreFound =
    (t : Table) (objects : List Object) (arena : Arena) (n a : ℕ) (o : Object)
    → Stands t objects arena → slice_get objects n ≡ Some o → o.of ≡ Array a → arena_word arena (address_of objects n + 8) ≡ Some (pos (length o.parts))

abbrev pub PartsAreFound : Type 0
PartsAreFound =
    (t : Table) (objects : List Object) (arena : Arena) (n i : ℕ) (o : Object) (x : Value)
    → Stands t objects arena → slice_get objects n ≡ Some o → slice_get o.parts i ≡ Some x
    → arena_word arena (address_of objects n + part_offset o.of i) ≡ Some (word_of (address_of objects) x)

-- a store of a value's word gives the arena of the objects with that part
abbrev pub PartsAreWritten : Type 0
PartsAreWritten =
    (t : Table) (objects : List Object) (arena : Arena) (n i : ℕ) (o : Object) (x : Value)
    → Stands t objects arena → slice_get objects n ≡ Some o → i < length o.parts → IsPart (length objects) x
    → Stands t (slice_set objects n (with_part o i x)) (with_arena_word (address_of objects n + part_offset o.of i) (word_of (address_of objects) x) arena)

-- no write of a part moves an object
abbrev pub WritesMoveNothing : Type 0
WritesMoveNothing =
    (objects : List Object) (n i m : ℕ) (o : Object) (x : Value)
    → slice_get objects n ≡ Some o → address_of (slice_set objects n (with_part o i x)) m ≡ address_of objects m

-- an object of the same size in place of another moves nothing
abbrev pub SizesMoveNothing : Type 0
SizesMoveNothing =
    (objects : List Object) (n m : ℕ) (o p : Object)
    → slice_get objects n ≡ Some o → words_in p ≡ words_in o → address_of (slice_set objects n p) m ≡ address_of objects m

-- ---- spots

-- a spot of an object lies where it is known to lie
abbrev pub SpotsAreKnown : Type 0
SpotsAreKnown = (t : Table) (s : ShapeOf) (at : Spot) (i : ℕ) → ListsItsFields t → place_of t s at ≡ Some i → part_offset s i ≡ spot_offset t at

-- what a spot holds is loaded from its place
abbrev pub SpotsAreFound : Type 0
SpotsAreFound =
    (t : Table) (objects : List Object) (arena : Arena) (at : Spot) (n : ℕ) (x : Value)
    → ListsItsFields t → Stands t objects arena → read_in t at (v.Obj n) objects ≡ Some x
    → (n < length objects) × IsPart (length objects) x × (arena_word arena (address_of objects n + spot_offset t at) ≡ Some (word_of (address_of objects) x))

-- what is written to a spot is stored there
abbrev pub SpotsAreWritten : Type 0
SpotsAreWritten =
    (t : Table) (objects : List Object) (arena : Arena) (at : Spot) (n : ℕ) (o p : Object) (x : Value)
    → ListsItsFields t → Stands t objects arena → IsPart (length objects) x → slice_get objects n ≡ Some o → written t at x o ≡ Some p
    → IsSome (arena_word arena (address_of objects n + spot_offset t at))
    × Stands t (slice_set objects n p) (with_arena_word (address_of objects n + spot_offset t at) (word_of (address_of objects) x) arena)
    × ((m : ℕ) → address_of (slice_set objects n p) m ≡ address_of objects m)

-- an array's length is loaded from behind its header
abbrev pub LengthsAreLoaded : Type 0
LengthsAreLoaded =
    (t : Table) (objects : List Object) (arena : Arena) (array n k : ℕ)
    → Stands t objects arena → length_in array (v.Obj n) objects ≡ Some k
    → (n < length objects) × (k < 2 ^ 21) × (arena_word arena (address_of objects n + 8) ≡ Some (pos k))

-- a header is that of a shape exactly where the object has this shape
abbrev pub HeadersTell : Type 0
HeadersTell = (t : Table) (s u : ShapeOf) → Contains t.shapes s → Contains t.shapes u → header_of t s ≡ header_of t u → s ≡ u

-- ---- new objects

-- where enough bytes are left, the object that is asked for stands behind the others
abbrev pub AllocationsStand : Type 0
AllocationsStand =
    (t : Table) (objects : List Object) (arena : Arena) (s : ShapeOf) (n : ℕ)
    → Stands t objects arena → Contains t.shapes s → 8 * words_in (zeroed_of t s n) + arena.taken ≤ 8 * length arena.words
    → Stands t (objects ++ zeroed_of t s n ∷ []) (arena_with t s n arena)

-- it has the address at which the bytes were taken, and no other object moves
abbrev pub AllocationsAddress : Type 0
AllocationsAddress =
    (t : Table) (objects : List Object) (arena : Arena) (o : Object)
    → Stands t objects arena
    → (address_of (objects ++ o ∷ []) (length objects) ≡ 0x10000000 + arena.taken)
    × ((m : ℕ) → m < length objects → address_of (objects ++ o ∷ []) m ≡ address_of objects m)

-- its words come behind theirs
abbrev pub WordsAreAdded : Type 0
WordsAreAdded = (objects : List Object) (o : Object) → words_of (objects ++ o ∷ []) ≡ words_of objects + words_in o

-- what is there stays there where there are more objects
abbrev pub PartsStay : Type 0
PartsStay = (m n : ℕ) (x : Value) → m ≤ n → IsPart m x → IsPart n x

-- the bytes that are taken are those of the objects
abbrev pub BytesAreTaken : Type 0
BytesAreTaken = (t : Table) (objects : List Object) (arena : Arena) → Stands t objects arena → arena.taken ≡ sum_by size_of objects

-- no more is taken than there is
abbrev pub TakenIsThere : Type 0
TakenIsThere = (t : Table) (objects : List Object) (arena : Arena) → Stands t objects arena → arena.taken ≤ 8 * length arena.words

-- the bytes that are asked for are those that the recorded meaning counts
abbrev pub BytesAreThose : Type 0
BytesAreThose = (s : ShapeOf) (n : ℕ) → bytes_for s n ≡ bytes_of_object s n

-- they are those of the prebuilt objects and those that were allocated
abbrev pub BytesAreCounted : Type 0
BytesAreCounted =
    (t : Table) (w : World) (arena : Arena) → Stands t w.objects arena → arena.taken ≡ sum_by size_of (take (length t.prebuilts) w.objects) + bytes_in t w

-- ---- the walk

-- the walk finds the objects that stand, and no others
abbrev pub WalkFinds : Type 0
WalkFinds = (t : Table) (objects : List Object) (arena : Arena) → Stands t objects arena → objects_found t arena ≡ as_found 0x10000000 objects

-- a word is the address of object k exactly where object_at says so
abbrev pub ObjectsAreNumbered : Type 0
ObjectsAreNumbered =
    (t : Table) (objects : List Object) (arena : Arena) (w : ℤ) (k : ℕ)
    → Stands t objects arena → (object_at t arena w ≡ Some k) ↔ ((k < length objects) × (w ≡ pos (address_of objects k)))

-- the word of a reference to object k is the address of object k
abbrev pub ReferencesAreTold : Type 0
ReferencesAreTold =
    (t : Table) (objects : List Object) (arena : Arena) (k : ℕ)
    → Stands t objects arena → k < length objects → object_at t arena (pos (address_of objects k)) ≡ Some k

-- an object that is found at an address begins there, and all its bytes are taken
abbrev pub FoundAreTaken : Type 0
FoundAreTaken =
    (t : Table) (arena : Arena) (a : ℕ) (f : Found)
    → begins_at t arena a ≡ Some f → (f.at ≡ a) × (f.at + 8 * words_found f ≤ 0x10000000 + arena.taken)

-- the word of a reference leads back to it: 0 to null, and an address to its object
abbrev pub ReferencesAreRead : Type 0
ReferencesAreRead =
    (t : Table) (objects : List Object) (arena : Arena) (x : Value)
    → Stands t objects arena → is_reference x ≡ true → IsPart (length objects) x
    → reference_to (object_at t arena (word_of (address_of objects) x)) ≡ x

-- ---- reading back

-- the objects that stand are read back, where each part holds a value of its kind
abbrev pub ObjectsAreReadBack : Type 0
ObjectsAreReadBack =
    (t : Table) (objects : List Object) (arena : Arena)
    → Stands t objects arena → ObjectsHold t objects → KindsAreKnown t objects → objects_in t arena ≡ objects

-- ---- words that stay

-- a value has the same word where its object hasn't moved
abbrev pub WordsAreKept : Type 0
WordsAreKept =
    (old new : List Object) (x : Value)
    → ((m : ℕ) → m < length old → address_of new m ≡ address_of old m) → IsPart (length old) x → word_of (address_of new) x ≡ word_of (address_of old) x

-- the kinds of all parts are known in a table in range
abbrev pub KindsInRange : Type 0
KindsInRange = (t : Table) (objects : List Object) (arena : Arena) → IsTableInRange t → Stands t objects arena → KindsAreKnown t objects

-- two references have one word exactly where they are the same
abbrev pub ReferencesCompare : Type 0
ReferencesCompare =
    (t : Table) (objects : List Object) (arena : Arena) (x y : Value)
    → Stands t objects arena → is_reference x ≡ true → is_reference y ≡ true → IsPart (length objects) x → IsPart (length objects) y
    → int_eq (word_of (address_of objects) x) (word_of (address_of objects) y) ≡ same_reference x y

-- ---- objects that are filled

-- words are written one behind the other from an address on
abbrev pub arena_filled : ℕ → List ℤ → Arena → Arena
arena_filled a [] arena = arena
arena_filled a (w ∷ ws) arena = arena_filled (a + 8) ws (with_arena_word a w arena)

-- an object whose parts are all written stands with these parts
abbrev pub FilledStands : Type 0
FilledStands =
    (t : Table) (objects : List Object) (arena : Arena) (n : ℕ) (o : Object) (xs : List Value)
    → Stands t objects arena → slice_get objects n ≡ Some o → length xs ≡ length o.parts → All (IsPart (length objects)) xs
    → Stands t (slice_set objects n (record o { parts = xs })) (arena_filled (address_of objects n + part_offset o.of 0) (map (word_of (address_of objects)) xs) arena)
