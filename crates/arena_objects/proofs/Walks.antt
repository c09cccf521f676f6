-- The walk over an arena finds the objects that stand in it.
use Rattle.std.proofs.Common.{◌≡◌, ℕ, zero, suc, ◌+◌, ◌*◌, ◌<◌, ◌≤◌, Bool, true, false, cond, Option, Some, None, List, [], ◌∷◌, ◌++◌, length, map, replicate, slice_get, append_assoc, refl, ap, sym, ◌∙◌, subst, arith, ℤ, pos, negsuc}
use Rattle.std.specs.Prelude.{nat_le, nat_eq}
use Rattle.std.specs.Option.{option_map}
use Rattle.std.specs.Int.{w64, cast_unsigned}
use Rattle.std.specs.List.{All, Contains}
use Rattle.std.proofs.lemmas.List.{length-append}
use Rattle.std.proofs.lemmas.Option.{same_Some, slice_get-get_or}
use Rattle.std.proofs.lemmas.Bool.{eqb-true, eq-eqb, ne_eqb, le-leb, lt-leb}
use Rattle.trace_ops.specs.declared.table.Table.{Table}
use Rattle.trace_ops.specs.declared.table.ShapeOf.{ShapeOf}
use Rattle.trace_ops.specs.declared.table.ShapeOf.TheVariants.{Size, Array}
use Rattle.trace_meaning.specs.declared.value.Object.{Object}
use Rattle.target_base.specs.Arena.{Arena, arena_word}
use Rattle.arena_objects.specs.Layout.{same_shape, place_among, header_of, words_ahead, words_in, words_before, words_of, address_of, word_of, object_words, all_words}
use Rattle.arena_objects.specs.Standing.{HasItsParts, IsLawful, Stands}
use Rattle.arena_objects.specs.declared.walk.Found.{Found}
use Rattle.arena_objects.specs.Walk.{words_found, shape_of, parts_at, if_taken, found_with, found_of, begins_at, onward, walk, objects_found, number_from, object_at, as_found}
use Rattle.arena_objects.specs.Laws.{WalkFinds, ObjectsAreNumbered, ReferencesAreTold}
use Rattle.lists.proofs.Appends.{get_left, get_right}
use Rattle.std.proofs.lemmas.List.Elements.{All-head, All-tail}
use Rattle.arena_objects.proofs.Places.{length_object, some_ahead}
use Rattle.arena_objects.proofs.Loads.{arena_at, head_first, head_second}

-- ---- headers

same_shape_is : (x s : ShapeOf) → same_shape x s ≡ true → x ≡ s
same_shape_is (Size a) (Size b) e = ap Size (eqb-true a b e)
same_shape_is (Size a) (Array b) e = absurd (cc)
same_shape_is (Array a) (Size b) e = absurd (cc)
same_shape_is (Array a) (Array b) e = ap Array (eqb-true a b e)

same_shape_self : (s : ShapeOf) → same_shape s s ≡ true
same_shape_self (Size a) = eq-eqb a a refl
same_shape_self (Array a) = eq-eqb a a refl

-- a shape that is there stands at its place
place_found : (s : ShapeOf) (xs : List ShapeOf) (k : ℕ) → slice_get xs k ≡ Some s → slice_get xs (place_among s xs) ≡ Some s
place_found s [] k e = absurd (cc)
place_found s (x ∷ xs) zero e =
    let same : s ≡ x = sym (same_Some x s e) in
    let yes : same_shape x s ≡ true = ap (same_shape x) same ∙ same_shape_self x in
    ap (λ (b : Bool). slice_get (x ∷ xs) (cond b 0 (1 + place_among s xs))) yes ∙ e
place_found s (x ∷ xs) (suc k) e =
    elim (same_shape x s) as (λ b. same_shape x s ≡ b → slice_get (x ∷ xs) (cond b 0 (1 + place_among s xs)) ≡ Some s) [
      | true ↦ λ q. ap Some (same_shape_is x s q)
      | false ↦ λ q. (let one : 1 + place_among s xs ≡ suc (place_among s xs) = omega arith in ap (slice_get (x ∷ xs)) one ∙ place_found s xs k e)
    ]
    refl

pub header_found : (t : Table) (s : ShapeOf) → Contains t.shapes s → shape_of t (Some (pos (header_of t s))) ≡ Some s
header_found t s c =
    let one : header_of t s ≡ suc (place_among s t.shapes) = omega arith in
    let there : slice_get t.shapes c.0 ≡ Some s = slice_get-get_or t.shapes c.0 s c.1 ∙ ap Some c.2 in
    ap (λ n. shape_of t (Some (pos n))) one ∙ place_found s t.shapes c.0 there

-- ---- one object

-- the words from place k on are those of an object
abbrev StandsAt : Table → (ℕ → ℕ) → Arena → ℕ → Object → Type 0
StandsAt t at arena k o = (i : ℕ) → i < words_in o → slice_get arena.words (k + i) ≡ slice_get (object_words t at o) i

parts_found : (t : Table) (at : ℕ → ℕ) (arena : Arena) (k : ℕ) (o : Object) (s : ShapeOf) → o.of ≡ s → HasItsParts t s (length o.parts) → StandsAt t at arena k o → parts_at t arena (0x10000000 + 8 * k) s ≡ Some (length o.parts)
parts_found t at arena k o (Size s) e h st = ap Some (sym h)
parts_found t at arena k o (Array a) e h st =
    let two : words_ahead o.of ≡ 2 = ap words_ahead e in
    let place : 0x10000000 + 8 * k + 8 ≡ 0x10000000 + 8 * (k + 1) = omega arith in
    ap (option_map (cast_unsigned w64)) (ap (arena_word arena) place ∙ arena_at arena (k + 1) ∙ st 1 (omega arith) ∙ head_second t o.of a (length o.parts) (map (word_of at) o.parts) e)

begins : (t : Table) (at : ℕ → ℕ) (m : ℕ) (arena : Arena) (k : ℕ) (o : Object) → IsLawful t m o → StandsAt t at arena k o → 8 * (k + words_in o) ≤ arena.taken → begins_at t arena (0x10000000 + 8 * k) ≡ Some (record { at = 0x10000000 + 8 * k; of = o.of; parts = length o.parts })
begins t at m arena k o l st room =
    let some : 1 ≤ words_ahead o.of = some_ahead o.of in
    let a = 0x10000000 + 8 * k in
    let f : Found = record { at = a; of = o.of; parts = length o.parts } in
    let zero_more : k ≡ k + 0 = omega arith in
    let head : arena_word arena a ≡ Some (pos (header_of t o.of)) = arena_at arena k ∙ ap (slice_get arena.words) zero_more ∙ st 0 (omega arith) ∙ head_first t o.of (length o.parts) (map (word_of at) o.parts) in
    let fits : nat_le (a + 8 * words_in o) (0x10000000 + arena.taken) ≡ true = le-leb (a + 8 * words_in o) (0x10000000 + arena.taken) (omega arith) in
    ap (λ w. found_of t arena a (shape_of t w)) head
    ∙ ap (found_of t arena a) (header_found t o.of l.shape)
    ∙ ap (found_with arena a o.of) (parts_found t at arena k o o.of refl l.extent st)
    ∙ ap (λ (b : Bool). cond b (Some f) None) fits

-- nothing begins where nothing is taken any more
not_taken : (arena : Arena) (f : Found) → 0x10000000 + arena.taken ≤ f.at → if_taken arena f ≡ None
not_taken arena f le =
    let some : 1 ≤ words_ahead f.of = some_ahead f.of in
    let no : nat_le (f.at + 8 * words_found f) (0x10000000 + arena.taken) ≡ false = lt-leb (f.at + 8 * words_found f) (0x10000000 + arena.taken) (omega arith) in
    ap (λ (b : Bool). cond b (Some f) None) no

none_with : (arena : Arena) (a : ℕ) (s : ShapeOf) (n : Option ℕ) → 0x10000000 + arena.taken ≤ a → found_with arena a s n ≡ None
none_with arena a s None le = refl
none_with arena a s (Some n) le = not_taken arena (record { at = a; of = s; parts = n }) le

none_of : (t : Table) (arena : Arena) (a : ℕ) (s : Option ShapeOf) → 0x10000000 + arena.taken ≤ a → found_of t arena a s ≡ None
none_of t arena a None le = refl
none_of t arena a (Some s) le = none_with arena a s (parts_at t arena a s) le

none_begins : (t : Table) (arena : Arena) (a : ℕ) → 0x10000000 + arena.taken ≤ a → begins_at t arena a ≡ None
none_begins t arena a le = none_of t arena a (shape_of t (arena_word arena a)) le

-- ---- all objects

stands_at : (t : Table) (at : ℕ → ℕ) (arena : Arena) (before rest : List ℤ) (k : ℕ) (o : Object) → arena.words ≡ before ++ (object_words t at o ++ rest) → k ≡ length before → StandsAt t at arena k o
stands_at t at arena before rest k o words place i lt =
    let full : length (object_words t at o) ≡ words_in o = length_object t at o in
    ap (λ l. slice_get l (k + i)) words
    ∙ get_right before (object_words t at o ++ rest) (k + i) i (omega arith)
    ∙ get_left (object_words t at o) rest i (omega arith)

walks : (t : Table) (at : ℕ → ℕ) (m : ℕ) (arena : Arena) (n : ℕ) (before rest : List ℤ) (k : ℕ) (os : List Object) → length os ≤ n → All (IsLawful t m) os → arena.words ≡ before ++ (all_words t at os ++ rest) → k ≡ length before → arena.taken ≡ 8 * (k + words_of os) → walk n t arena (0x10000000 + 8 * k) ≡ as_found (0x10000000 + 8 * k) os
walks t at m arena zero before rest k [] le l words place taken = refl
walks t at m arena zero before rest k (o ∷ os) le l words place taken = absurd (omega arith)
walks t at m arena (suc n) before rest k [] le l words place taken = ap (onward (walk n t arena)) (none_begins t arena (0x10000000 + 8 * k) (omega arith))
walks t at m arena (suc n) before rest k (o ∷ os) le l words place taken =
    let mine = object_words t at o in
    let full : length mine ≡ words_in o = length_object t at o in
    let split : arena.words ≡ before ++ (mine ++ (all_words t at os ++ rest)) = words ∙ ap (λ x. before ++ x) (append_assoc mine (all_words t at os) rest) in
    let next : arena.words ≡ (before ++ mine) ++ (all_words t at os ++ rest) = split ∙ sym (append_assoc before mine (all_words t at os ++ rest)) in
    let size : length (before ++ mine) ≡ length before + length mine = length-append before mine in
    let f : Found = record { at = 0x10000000 + 8 * k; of = o.of; parts = length o.parts } in
    let on : 0x10000000 + 8 * k + 8 * words_in o ≡ 0x10000000 + 8 * (k + words_in o) = omega arith in
    let tail : walk n t arena (0x10000000 + 8 * (k + words_in o)) ≡ as_found (0x10000000 + 8 * (k + words_in o)) os =
    walks t at m arena n (before ++ mine) rest (k + words_in o) os (omega arith) (All-tail (IsLawful t m) o os l) next (omega arith) (omega arith) in
    ap (onward (walk n t arena)) (begins t at m arena k o (All-head (IsLawful t m) o os l) (stands_at t at arena before (all_words t at os ++ rest) k o split place) (omega arith))
    ∙ ap (λ x. f ∷ x) (ap (walk n t arena) on ∙ tail ∙ ap (λ a. as_found a os) (sym on))

count_words : (os : List Object) → length os ≤ words_of os
count_words [] = omega arith
count_words (o ∷ os) =
    let some : 1 ≤ words_ahead o.of = some_ahead o.of in
    let rest : length os ≤ words_of os = count_words os in
    omega arith

pub walk_finds : WalkFinds
unfolding objects_found
walk_finds t objects arena st =
    let count : length objects ≤ words_of objects = count_words objects in
    let taken : arena.taken ≡ 8 * words_of objects = st.taken in
    let start : 0x10000000 ≡ 0x10000000 + 8 * 0 = omega arith in
    ap (walk arena.taken t arena) start
    ∙ walks t (address_of objects) (length objects) arena arena.taken [] (replicate st.left (pos 0)) 0 objects (omega arith) st.lawful st.words refl (omega arith)
    ∙ ap (λ a. as_found a objects) (sym start)

-- ---- numbers

-- the number of the object at an address of a list
number_is : (os : List Object) (n a b : ℕ) (k : ℕ) → k < length os → b ≡ a + 8 * words_before os k → number_from n (pos b) (as_found a os) ≡ Some (n + k)
number_is [] n a b k lt e = absurd (omega arith)
number_is (o ∷ os) n a b zero lt e =
    let yes : nat_eq a b ≡ true = eq-eqb a b (omega arith) in
    let same : n ≡ n + 0 = omega arith in
    ap (λ (x : Bool). cond x (Some n) (number_from (suc n) (pos b) (as_found (a + 8 * words_in o) os))) yes ∙ ap Some same
number_is (o ∷ os) n a b (suc k) lt e =
    let some : 1 ≤ words_ahead o.of = some_ahead o.of in
    let no : nat_eq a b ≡ false = ne_eqb a b (λ q. absurd (omega arith)) in
    let more : suc n + k ≡ n + suc k = omega arith in
    ap (λ (x : Bool). cond x (Some n) (number_from (suc n) (pos b) (as_found (a + 8 * words_in o) os))) no
    ∙ number_is os (suc n) (a + 8 * words_in o) b k (omega arith) (omega arith)
    ∙ ap Some more

-- and a word with a number is the address of that object
number_of : (os : List Object) (n a b j : ℕ) → number_from n (pos b) (as_found a os) ≡ Some j → (k : ℕ) × (j ≡ n + k) × (k < length os) × (b ≡ a + 8 * words_before os k)
number_of [] n a b j e = absurd (cc)
number_of (o ∷ os) n a b j e =
    elim (nat_eq a b) as (λ x. nat_eq a b ≡ x → cond x (Some n) (number_from (suc n) (pos b) (as_found (a + 8 * words_in o) os)) ≡ Some j → (k : ℕ) × (j ≡ n + k) × (k < length (o ∷ os)) × (b ≡ a + 8 * words_before (o ∷ os) k)) [
      | true ↦ λ q h. (let same : a ≡ b = eqb-true a b q in let it : n ≡ j = same_Some n j h in (0, omega arith, omega arith, omega arith))
      | false ↦ λ q h. (
          let r = number_of os (suc n) (a + 8 * words_in o) b j h in
          let r1 : j ≡ suc n + r.0 = r.1 in
          let r2 : r.0 < length os = r.2 in
          let r3 : b ≡ a + 8 * words_in o + 8 * words_before os r.0 = r.3 in
          (suc r.0, omega arith, omega arith, omega arith))
    ]
    refl e

pub told : (t : Table) (objects : List Object) (arena : Arena) (w : ℤ) (k : ℕ) → Stands t objects arena → object_at t arena w ≡ Some k → (k < length objects) × (w ≡ pos (address_of objects k))
told t objects arena (pos b) k st e =
    let r = number_of objects 0 0x10000000 b k (ap (number_from 0 (pos b)) (sym (walk_finds t objects arena st)) ∙ e) in
    let same : r.0 ≡ k = (let q : k ≡ 0 + r.0 = r.1 in omega arith) in
    (subst (λ i. i < length objects) same r.2, ap pos (r.3 ∙ ap (address_of objects) same))
told t objects arena (negsuc b) k st e = absurd (cc)

pub references_are_told : ReferencesAreTold
references_are_told t objects arena k st lt =
    let none : 0 + k ≡ k = omega arith in
    ap (number_from 0 (pos (address_of objects k))) (walk_finds t objects arena st)
    ∙ number_is objects 0 0x10000000 (address_of objects k) k lt refl
    ∙ ap Some none

pub objects_are_numbered : ObjectsAreNumbered
objects_are_numbered t objects arena w k st =
    (told t objects arena w k st, λ h. ap (object_at t arena) h.1 ∙ references_are_told t objects arena k st h.0)
