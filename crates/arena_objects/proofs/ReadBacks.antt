-- Objects are read back as they stand.
use Rattle.std.proofs.Common.{◌≡◌, ℕ, zero, suc, ◌+◌, ◌*◌, Option, Some, None, List, [], ◌∷◌, length, map, slice_get, refl, ap, ◌∙◌, arith, pos}
use Rattle.std.specs.Prelude.{IsSome}
use Rattle.std.proofs.lemmas.Option.{same_Some, slice_get_within}
use Rattle.trace_ops.specs.declared.trace.Kind.{Kind}
use Rattle.trace_ops.specs.declared.trace.Kind.TheVariants as kind
use Rattle.trace_ops.specs.declared.table.Table.{Table}
use Rattle.trace_meaning.specs.declared.value.Value.{Value}
use Rattle.trace_meaning.specs.declared.value.Value.TheVariants as v
use Rattle.trace_meaning.specs.declared.value.Object.{Object}
use Rattle.trace_meaning.specs.Kinds.{kind_of_part, IsValueOf, ObjectsHold}
use Rattle.target_base.specs.Arena.{Arena}
use Rattle.arena_objects.specs.Layout.{words_in, words_before, address_of, word_of}
use Rattle.arena_objects.specs.Standing.{Stands}
use Rattle.arena_objects.specs.declared.walk.Found.{Found}
use Rattle.arena_objects.specs.Walk.{object_at, as_found}
use Rattle.arena_objects.specs.ReadBack.{or_zero, reference_to, value_of, part_in, parts_from, object_in, objects_in, KindsAreKnown}
use Rattle.arena_objects.specs.Laws.{ObjectsAreReadBack, ReferencesAreRead}
use Rattle.arena_objects.proofs.Loads.{parts_are_found}
use Rattle.arena_objects.proofs.Walks.{walk_finds, references_are_told, told}

next_before : (os : List Object) (n : ℕ) (o : Object) → slice_get os n ≡ Some o → words_before os (suc n) ≡ words_before os n + words_in o
next_before [] n o e = absurd (cc)
next_before (x ∷ xs) zero o e =
    let same : words_in x ≡ words_in o = ap (λ (y : Object). words_in y) (same_Some x o e) in
    let none : words_before xs zero ≡ 0 = start xs in
    omega arith
  where
    start : (ys : List Object) → words_before ys zero ≡ 0
    start [] = refl
    start (y ∷ ys) = refl
next_before (x ∷ xs) (suc n) o e =
    let rest : words_before xs (suc n) ≡ words_before xs n + words_in o = next_before xs n o e in
    omega arith

-- no object has the address 0
not_at_zero : (t : Table) (objects : List Object) (arena : Arena) → Stands t objects arena → (r : Option ℕ) → object_at t arena (pos 0) ≡ r → reference_to r ≡ v.Null
not_at_zero t objects arena st None e = refl
not_at_zero t objects arena st (Some k) e =
    let w : pos 0 ≡ pos (address_of objects k) = (told t objects arena (pos 0) k st e).1 in
    let n : 0 ≡ address_of objects k = cc in
    absurd (omega arith)

pub references_are_read : ReferencesAreRead
references_are_read t objects arena (v.Int z) st r part = absurd (cc)
references_are_read t objects arena v.Null st r part = not_at_zero t objects arena st (object_at t arena (pos 0)) refl
references_are_read t objects arena (v.Obj n) st r part = ap reference_to (references_are_told t objects arena n st part)

value_back : (t : Table) (objects : List Object) (arena : Arena) (k : Kind) (x : Value) → Stands t objects arena → IsValueOf (length objects) k x → value_of t arena (Some k) (word_of (address_of objects) x) ≡ x
value_back t objects arena kind.Int (v.Int z) st h = refl
value_back t objects arena kind.Int v.Null st h = absurd h
value_back t objects arena kind.Int (v.Obj n) st h = absurd h
value_back t objects arena kind.Ref (v.Int z) st h = absurd h
value_back t objects arena kind.Ref v.Null st h = not_at_zero t objects arena st (object_at t arena (pos 0)) refl
value_back t objects arena kind.Ref (v.Obj n) st h = ap reference_to (references_are_told t objects arena n st h)

known : (o : Option Kind) → IsSome o → (k : Kind) × (o ≡ Some k)
known None h = absurd (cc)
known (Some k) h = (k, refl)

part_back : (t : Table) (objects : List Object) (arena : Arena) (n i : ℕ) (o : Object) (x : Value) → Stands t objects arena → ObjectsHold t objects → KindsAreKnown t objects → slice_get objects n ≡ Some o → slice_get o.parts i ≡ Some x → part_in t arena (record { at = address_of objects n; of = o.of; parts = length o.parts }) i ≡ x
part_back t objects arena n i o x st h kinds e ex =
    let k = known (kind_of_part t o.of i) (kinds n i o e (slice_get_within o.parts i x ex)) in
    ap (λ w. value_of t arena (kind_of_part t o.of i) (or_zero w)) (parts_are_found t objects arena n i o x st e ex)
    ∙ ap (λ q. value_of t arena q (word_of (address_of objects) x)) k.1
    ∙ value_back t objects arena k.0 x st (h n o e i k.0 x k.1 ex)

parts_back : (t : Table) (objects : List Object) (arena : Arena) (n i : ℕ) (o : Object) (xs : List Value) → Stands t objects arena → ObjectsHold t objects → KindsAreKnown t objects → slice_get objects n ≡ Some o → ((j : ℕ) → slice_get o.parts (i + j) ≡ slice_get xs j) → parts_from t arena (record { at = address_of objects n; of = o.of; parts = length o.parts }) i (length xs) ≡ xs
parts_back t objects arena n i o [] st h kinds e same = refl
parts_back t objects arena n i o (x ∷ xs) st h kinds e same =
    let f : Found = record { at = address_of objects n; of = o.of; parts = length o.parts } in
    let first : i ≡ i + 0 = omega arith in
    let more : (j : ℕ) → slice_get o.parts (suc i + j) ≡ slice_get xs j = λ j. (let on : suc i + j ≡ i + suc j = omega arith in ap (slice_get o.parts) on ∙ same (suc j)) in
    ap (λ y. y ∷ parts_from t arena f (suc i) (length xs)) (part_back t objects arena n i o x st h kinds e (ap (slice_get o.parts) first ∙ same 0))
    ∙ ap (λ l. x ∷ l) (parts_back t objects arena n (suc i) o xs st h kinds e more)

objects_back : (t : Table) (objects : List Object) (arena : Arena) (n : ℕ) (os : List Object) → Stands t objects arena → ObjectsHold t objects → KindsAreKnown t objects → ((j : ℕ) → slice_get objects (n + j) ≡ slice_get os j) → map (object_in t arena) (as_found (address_of objects n) os) ≡ os
objects_back t objects arena n [] st h kinds same = refl
objects_back t objects arena n (o ∷ os) st h kinds same =
    let first : n ≡ n + 0 = omega arith in
    let e : slice_get objects n ≡ Some o = ap (slice_get objects) first ∙ same 0 in
    let more : (j : ℕ) → slice_get objects (suc n + j) ≡ slice_get os j = λ j. (let on : suc n + j ≡ n + suc j = omega arith in ap (slice_get objects) on ∙ same (suc j)) in
    let none : (j : ℕ) → 0 + j ≡ j = λ j. omega arith in
    let place : address_of objects n + 8 * words_in o ≡ address_of objects (suc n) = (let b : words_before objects (suc n) ≡ words_before objects n + words_in o = next_before objects n o e in omega arith) in
    let mine : object_in t arena (record { at = address_of objects n; of = o.of; parts = length o.parts }) ≡ o =
    ap (λ l. record { of = o.of; parts = l }) (parts_back t objects arena n 0 o o.parts st h kinds e (λ j. ap (slice_get o.parts) (none j))) in
    ap (λ x. x ∷ map (object_in t arena) (as_found (address_of objects n + 8 * words_in o) os)) mine
    ∙ ap (λ a. o ∷ map (object_in t arena) (as_found a os)) place
    ∙ ap (λ l. o ∷ l) (objects_back t objects arena (suc n) os st h kinds more)

pub objects_are_read_back : ObjectsAreReadBack
unfolding objects_in
objects_are_read_back t objects arena st h kinds =
    let none : (j : ℕ) → 0 + j ≡ j = λ j. omega arith in
    let start : 0x10000000 ≡ address_of objects 0 = first objects in
    ap (map (object_in t arena)) (walk_finds t objects arena st ∙ ap (λ a. as_found a objects) start)
    ∙ objects_back t objects arena 0 objects st h kinds (λ j. ap (slice_get objects) (none j))
  where
    first : (os : List Object) → 0x10000000 ≡ address_of os 0
    first [] = omega arith
    first (o ∷ os) = omega arith
