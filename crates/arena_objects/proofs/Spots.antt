-- Spots of objects, their loads and their stores.
use Rattle.std.proofs.Common.{◌≡◌, ℕ, zero, suc, ◌+◌, ◌*◌, ◌^◌, ◌<◌, ◌≤◌, Bool, true, false, cond, Option, Some, None, List, [], ◌∷◌, length, set, slice_get, get_or, refl, ap, sym, ◌∙◌, subst, arith, ℤ, pos, negsuc}
use Rattle.std.specs.Prelude.{◌==◌, nat_eq, nat_lt, position, option_and_then, IsSome}
use Rattle.std.specs.Option.{option_map}
use Rattle.std.proofs.lemmas.Option.{same_Some, slice_get_within, slice_get-get_or}
use Rattle.std.proofs.lemmas.List.Quantifiers.{position-Some}
use Rattle.std.proofs.lemmas.Bool.{eqb-true, ltb-true}
use Rattle.trace_ops.specs.declared.piece.Spot.TheVariants.{Field, Item}
use Rattle.trace_ops.specs.declared.table.Table.{Table}
use Rattle.trace_ops.specs.declared.table.FieldRow.{FieldRow}
use Rattle.trace_ops.specs.declared.table.SizeRow.{SizeRow}
use Rattle.trace_ops.specs.declared.table.ShapeOf.{ShapeOf}
use Rattle.trace_ops.specs.declared.table.ShapeOf.TheVariants.{Size, Array}
use Rattle.trace_ops.specs.InRange.{places_from}
use Rattle.trace_meaning.specs.declared.value.Object.{Object}
use Rattle.trace_meaning.specs.Objects.{fields_of, listed, index_of, place_of, part_of_object, is_array, items_in, with_part, within}
use Rattle.target_base.specs.Arena.{arena_word, with_arena_word}
use Rattle.arena_objects.specs.Layout.{words_ahead, words_in, words_before, words_of, address_of, part_offset, word_of}
use Rattle.arena_objects.specs.Standing.{IsPart, IsLawful, Stands}
use Rattle.arena_objects.specs.Spots.{or_first, field_offset, item_offset, spot_offset, ListsItsFields}
use Rattle.arena_objects.specs.Walk.{shape_of}
use Rattle.arena_objects.specs.Laws.{SpotsAreKnown, SpotsAreFound, SpotsAreWritten, LengthsAreLoaded, HeadersTell}
use Rattle.lists.proofs.Alls.{all_at}
use Rattle.lists.proofs.Places.{get_some}
use Rattle.arena_objects.proofs.Places.{within_all, some_ahead}
use Rattle.arena_objects.proofs.Loads.{total, parts_are_found, parts_are_written, writes_move_nothing, lengths_are_found}
use Rattle.arena_objects.proofs.Walks.{header_found}

-- ---- which size has a field

-- the element of a list that is numbered so from k on, and passes the test
abbrev Passes : {X : Type 0} → (X → Bool) → ℕ → List X → ℕ → Type 0
Passes {X} test k xs f = (j : ℕ) × (y : X) × (f ≡ k + j) × (slice_get xs j ≡ Some y) × (test y ≡ true)

passes_on : {X : Type 0} (test : X → Bool) (k : ℕ) (x : X) (xs : List X) (f : ℕ) → Passes test (k + 1) xs f → Passes test k (x ∷ xs) f
passes_on test k x xs f r =
    let a : f ≡ k + 1 + r.0 = r.2 in
    let b : f ≡ k + suc r.0 = omega arith in
    (suc r.0, r.1, b, r.3, r.4)

-- what places_from lists passes the test
listed_passes : {X : Type 0} (test : X → Bool) (k : ℕ) (xs : List X) (i f : ℕ) → slice_get (places_from test k xs) i ≡ Some f → Passes test k xs f
unfolding places_from
listed_passes test k [] i f e = absurd (cc)
listed_passes {X} test k (x ∷ xs) zero f e =
    elim (test x) as (λ b. test x ≡ b → slice_get (cond b (k ∷ places_from test (k + 1) xs) (places_from test (k + 1) xs)) zero ≡ Some f → Passes test k (x ∷ xs) f) [
      | true ↦ λ q h. (let a : k ≡ f = same_Some k f h in let b : f ≡ k + 0 = omega arith in (0, x, b, refl, q))
      | false ↦ λ q h. passes_on test k x xs f (listed_passes test (k + 1) xs zero f h)
    ]
    refl e
listed_passes {X} test k (x ∷ xs) (suc i) f e =
    elim (test x) as (λ b. test x ≡ b → slice_get (cond b (k ∷ places_from test (k + 1) xs) (places_from test (k + 1) xs)) (suc i) ≡ Some f → Passes test k (x ∷ xs) f) [
      | true ↦ λ q h. passes_on test k x xs f (listed_passes test (k + 1) xs i f h)
      | false ↦ λ q h. passes_on test k x xs f (listed_passes test (k + 1) xs (suc i) f h)
    ]
    refl e

pub fields_here : (t : Table) (s i f : ℕ) → ListsItsFields t → slice_get (fields_of t s) i ≡ Some f → (row : FieldRow) × (slice_get t.fields f ≡ Some row) × (row.size ≡ s)
fields_here t s i f lists e = by_row (slice_get t.sizes s) refl e
  where
    by_row : (r : Option SizeRow) → slice_get t.sizes s ≡ r → slice_get (listed r) i ≡ Some f → (row : FieldRow) × (slice_get t.fields f ≡ Some row) × (row.size ≡ s)
    by_row None q h = absurd (cc)
    by_row (Some row) q h =
        let r = listed_passes (λ (x : FieldRow). nat_eq x.size s) 0 t.fields i f (ap (λ l. slice_get l i) (sym (lists s row q)) ∙ h) in
        let none : f ≡ r.0 = (let a : f ≡ 0 + r.0 = r.2 in omega arith) in
        (r.1, ap (slice_get t.fields) none ∙ r.3, eqb-true r.1.size s r.4)

field_known : (t : Table) (s f i : ℕ) → ListsItsFields t → position (λ g. g == f) (fields_of t s) ≡ Some i → 8 * (1 + i) ≡ field_offset t f (slice_get t.fields f)
field_known t s f i lists e =
    let p = position-Some (λ g. g == f) (fields_of t s) i f e in
    let same : get_or (fields_of t s) i f ≡ f = eqb-true (get_or (fields_of t s) i f) f p.1 in
    let there : slice_get (fields_of t s) i ≡ Some f = slice_get-get_or (fields_of t s) i f p.0 ∙ ap Some same in
    let r = fields_here t s i f lists there in
    sym (ap (field_offset t f) r.1 ∙ ap (λ k. 8 * (1 + or_first (position (λ g. g == f) (fields_of t k)))) r.2 ∙ ap (λ o. 8 * (1 + or_first o)) e)

item_known : (a array : ℕ) (z : ℤ) (i : ℕ) → cond (a == array) (index_of z) None ≡ Some i → 8 * (2 + i) ≡ item_offset z
item_known a array (pos k) i e =
    elim (a == array) as (λ b. cond b (Some k) None ≡ Some i → 8 * (2 + i) ≡ 8 * (2 + k)) [
      | true ↦ λ h. (let same : k ≡ i = same_Some k i h in ap (λ n. 8 * (2 + n)) (sym same))
      | false ↦ λ h. absurd (cc)
    ]
    e
item_known a array (negsuc k) i e =
    elim (a == array) as (λ b. cond b None None ≡ Some i → 8 * (2 + i) ≡ 16) [
      | true ↦ λ h. absurd (cc)
      | false ↦ λ h. absurd (cc)
    ]
    e

pub spots_are_known : SpotsAreKnown
spots_are_known t (Size s) (Field f) i lists e = field_known t s f i lists e
spots_are_known t (Array a) (Field f) i lists e = absurd (cc)
spots_are_known t (Size s) (Item array z) i lists e = absurd (cc)
spots_are_known t (Array a) (Item array z) i lists e = item_known a array z i e

-- ---- loads

pub spots_are_found : SpotsAreFound
spots_are_found t objects arena at n x lists st e = by_object (slice_get objects n) refl e
  where
    by_place : (o : Object) → slice_get objects n ≡ Some o → (p : Option ℕ) → place_of t o.of at ≡ p → option_and_then (slice_get o.parts) p ≡ Some x → (n < length objects) × IsPart (length objects) x × (arena_word arena (address_of objects n + spot_offset t at) ≡ Some (word_of (address_of objects) x))
    by_place o eo None q h = absurd (cc)
    by_place o eo (Some i) q h = (
      slice_get_within objects n o eo,
      all_at (IsPart (length objects)) o.parts i x (all_at (IsLawful t (length objects)) objects n o st.lawful eo).parts h,
      ap (λ k. arena_word arena (address_of objects n + k)) (sym (spots_are_known t o.of at i lists q)) ∙ parts_are_found t objects arena n i o x st eo h,
    )

    by_object : (r : Option Object) → slice_get objects n ≡ r → option_and_then (part_of_object t at) r ≡ Some x → (n < length objects) × IsPart (length objects) x × (arena_word arena (address_of objects n + spot_offset t at) ≡ Some (word_of (address_of objects) x))
    by_object None q h = absurd (cc)
    by_object (Some o) q h = by_place o q (place_of t o.of at) refl h

pub lengths_are_loaded : LengthsAreLoaded
lengths_are_loaded t objects arena array n k st e = by_object (slice_get objects n) refl e
  where
    array_is : (s : ShapeOf) (b : Bool) → is_array array s ≡ b → b ≡ true → s ≡ Array array
    array_is (Size s) b q h = absurd (cc)
    array_is (Array a) b q h = ap Array (eqb-true a array (q ∙ h))

    some_if : (b : Bool) (m : ℕ) → cond b (Some m) None ≡ Some k → (b ≡ true) × (m ≡ k)
    some_if true m h = (refl, same_Some m k h)
    some_if false m h = absurd (cc)

    by_object : (r : Option Object) → slice_get objects n ≡ r → option_and_then (items_in array) r ≡ Some k → (n < length objects) × (k < 2 ^ 21) × (arena_word arena (address_of objects n + 8) ≡ Some (pos k))
    by_object None q h = absurd (cc)
    by_object (Some o) q h =
        let both = some_if (is_array array o.of) (length o.parts) h in
        let shape : o.of ≡ Array array = array_is o.of (is_array array o.of) refl both.0 in
        let many : length o.parts ≡ k = both.1 in
        let inside : words_before objects n + words_in o ≤ words_of objects = within_all objects n o q in
        let some : 1 ≤ words_ahead o.of = some_ahead o.of in
        let taken : arena.taken ≡ 8 * words_of objects = st.taken in
        let size : arena.taken ≤ 8 * length arena.words = total t objects arena st in
        let few : length arena.words ≤ 2 ^ 21 = st.few in
        (slice_get_within objects n o q, omega arith, lengths_are_found t objects arena n array o st q shape ∙ ap (λ m. Some (pos m)) many)

-- ---- stores

pub spots_are_written : SpotsAreWritten
spots_are_written t objects arena at n o p x lists st part eo e = by_place (place_of t o.of at) refl e
  where
    some_if : (b : Bool) (i j : ℕ) → cond b (Some i) None ≡ Some j → (b ≡ true) × (i ≡ j)
    some_if true i j h = (refl, same_Some i j h)
    some_if false i j h = absurd (cc)

    is_there : (w : Option ℤ) (z : ℤ) → w ≡ Some z → IsSome w
    is_there None z h = absurd (cc)
    is_there (Some y) z h = refl

    by_within : (i : ℕ) → place_of t o.of at ≡ Some i → (b : Bool) → nat_lt i (length o.parts) ≡ b → option_map (λ j. with_part o j x) (cond b (Some i) None) ≡ Some p → IsSome (arena_word arena (address_of objects n + spot_offset t at)) × Stands t (set objects n p) (with_arena_word (address_of objects n + spot_offset t at) (word_of (address_of objects) x) arena) × ((m : ℕ) → address_of (set objects n p) m ≡ address_of objects m)
    by_within i q false l h = absurd (cc)
    by_within i q true l h =
        let lt : i < length o.parts = ltb-true i (length o.parts) l in
        let same : with_part o i x ≡ p = same_Some (with_part o i x) p h in
        let place : part_offset o.of i ≡ spot_offset t at = spots_are_known t o.of at i lists q in
        let old = get_some o.parts i lt in
        let there = is_there (arena_word arena (address_of objects n + part_offset o.of i)) (word_of (address_of objects) old.0) (parts_are_found t objects arena n i o old.0 st eo old.1) in
        let all = parts_are_written t objects arena n i o x st eo lt part in
        let one = subst (λ (y : Object). Stands t (set objects n y) (with_arena_word (address_of objects n + part_offset o.of i) (word_of (address_of objects) x) arena)) same all in (
          subst (λ k. IsSome (arena_word arena (address_of objects n + k))) place there,
          subst (λ k. Stands t (set objects n p) (with_arena_word (address_of objects n + k) (word_of (address_of objects) x) arena)) place one,
          λ m. ap (λ (y : Object). address_of (set objects n y) m) (sym same) ∙ writes_move_nothing objects n i m o x eo,
        )

    by_place : (q : Option ℕ) → place_of t o.of at ≡ q → option_map (λ i. with_part o i x) (option_and_then (within o) q) ≡ Some p → IsSome (arena_word arena (address_of objects n + spot_offset t at)) × Stands t (set objects n p) (with_arena_word (address_of objects n + spot_offset t at) (word_of (address_of objects) x) arena) × ((m : ℕ) → address_of (set objects n p) m ≡ address_of objects m)
    by_place None q h = absurd (cc)
    by_place (Some i) q h = by_within i q (nat_lt i (length o.parts)) refl h

-- ---- headers

pub headers_tell : HeadersTell
headers_tell t s u cs cu e =
    let same : Some s ≡ Some u = sym (header_found t s cs) ∙ ap (λ n. shape_of t (Some (pos n))) e ∙ header_found t u cu in
    same_Some s u same
