-- New objects behind the others.
use Rattle.std.proofs.Common.{◌≡◌, ℕ, zero, suc, ◌+◌, ◌-◌, ◌*◌, ◌^◌, ◌≤◌, Option, Some, None, List, [], ◌∷◌, ◌++◌, length, map, replicate, set, slice_get, append_assoc, refl, ap, sym, ◌∙◌, subst, arith, ℤ, pos}
use Rattle.std.specs.List.{All, Contains}
use Rattle.std.specs.Prelude.{sum_by}
use Rattle.std.proofs.Math.ListN.{length-set}
use Rattle.std.proofs.lemmas.List.{append-nil, length-append, length-map, length-replicate, replicate-append-replicate}
use Rattle.std.proofs.lemmas.List.Sums.{sum_by-cons, sum_by-take-drop}
use Rattle.trace_ops.specs.declared.trace.Kind.{Kind}
use Rattle.trace_ops.specs.declared.trace.Kind.TheVariants as kind
use Rattle.trace_ops.specs.declared.table.Table.{Table}
use Rattle.trace_ops.specs.declared.table.FieldRow.{FieldRow}
use Rattle.trace_ops.specs.declared.table.ArrayRow.{ArrayRow}
use Rattle.trace_ops.specs.declared.table.ShapeOf.{ShapeOf}
use Rattle.trace_ops.specs.declared.table.ShapeOf.TheVariants.{Size, Array}
use Rattle.trace_ops.specs.Words.{IsWord}
use Rattle.trace_ops.specs.InRange.{bytes_of_object}
use Rattle.trace_meaning.specs.declared.value.Value.{Value}
use Rattle.trace_meaning.specs.declared.value.Value.TheVariants as v
use Rattle.trace_meaning.specs.declared.value.Object.{Object}
use Rattle.trace_meaning.specs.World.{size_of}
use Rattle.trace_meaning.specs.Values.{zero_of}
use Rattle.trace_meaning.specs.Objects.{fields_of, zero_field, zero_item, zeroed, cleared}
use Rattle.target_base.specs.Arena.{Arena, with_arena_word}
use Rattle.arena_objects.specs.Layout.{header_of, words_ahead, words_in, words_before, words_of, address_of, word_of, object_words, all_words}
use Rattle.arena_objects.specs.Standing.{IsPart, IsLawful, Stands}
use Rattle.arena_objects.specs.Making.{zeroed_of, arena_with}
use Rattle.arena_objects.specs.Laws.{AllocationsStand, AllocationsAddress, WordsAreAdded, PartsStay, BytesAreTaken, BytesAreThose, BytesAreCounted}
use Rattle.lists.proofs.Alls.{all_from, all_weaker}
use Rattle.lists.proofs.Places.{set_right}
use Rattle.std.proofs.lemmas.List.Elements.{All-append}
use Rattle.arena_objects.proofs.Places.{length_all, all_before, Agree, all_same}
use Rattle.arena_objects.proofs.Loads.{arena_put, parts_of_lawful}

-- ---- one more object

pub all_push : (t : Table) (at : ℕ → ℕ) (os : List Object) (o : Object) → all_words t at (os ++ o ∷ []) ≡ all_words t at os ++ object_words t at o
all_push t at [] o = append-nil (object_words t at o)
all_push t at (x ∷ xs) o =
    ap (λ l. object_words t at x ++ l) (all_push t at xs o) ∙ sym (append_assoc (object_words t at x) (all_words t at xs) (object_words t at o))

pub before_push : (os : List Object) (o : Object) (k : ℕ) → k ≤ length os → words_before (os ++ o ∷ []) k ≡ words_before os k
before_push [] o zero le = refl
before_push [] o (suc k) le = absurd (omega arith)
before_push (x ∷ xs) o zero le = refl
before_push (x ∷ xs) o (suc k) le = ap (λ m. words_in x + m) (before_push xs o k (omega arith))

pub of_push : WordsAreAdded
of_push [] o = omega arith
of_push (x ∷ xs) o =
    let rest : words_of (xs ++ o ∷ []) ≡ words_of xs + words_in o = of_push xs o in
    omega arith

-- ---- its parts are zeros

kind_zero : (at : ℕ → ℕ) (k : Kind) → word_of at (zero_of k) ≡ pos 0
kind_zero at kind.Int = refl
kind_zero at kind.Ref = refl

field_zero : (at : ℕ → ℕ) (f : Option FieldRow) → word_of at (zero_field f) ≡ pos 0
field_zero at None = refl
field_zero at (Some row) = kind_zero at row.kind

item_zero : (at : ℕ → ℕ) (a : Option ArrayRow) → word_of at (zero_item a) ≡ pos 0
item_zero at None = refl
item_zero at (Some row) = kind_zero at row.kind

zero_fits : IsWord (pos 0)
zero_fits = record { sfits = omega arith }

kind_there : (m : ℕ) (k : Kind) → IsPart m (zero_of k)
kind_there m kind.Int = zero_fits
kind_there m kind.Ref = tt

field_there : (m : ℕ) (f : Option FieldRow) → IsPart m (zero_field f)
field_there m None = zero_fits
field_there m (Some row) = kind_there m row.kind

item_there : (m : ℕ) (a : Option ArrayRow) → IsPart m (zero_item a)
item_there m None = zero_fits
item_there m (Some row) = kind_there m row.kind

fields_zero : (t : Table) (at : ℕ → ℕ) (fs : List ℕ) → map (word_of at) (map (λ f. zero_field (slice_get t.fields f)) fs) ≡ replicate (length (map (λ f. zero_field (slice_get t.fields f)) fs)) (pos 0)
fields_zero t at [] = refl
fields_zero t at (f ∷ fs) =
    ap (λ w. w ∷ map (word_of at) (map (λ f. zero_field (slice_get t.fields f)) fs)) (field_zero at (slice_get t.fields f))
    ∙ ap (λ l. pos 0 ∷ l) (fields_zero t at fs)

items_zero : (at : ℕ → ℕ) (x : Value) (n : ℕ) → word_of at x ≡ pos 0 → map (word_of at) (replicate n x) ≡ replicate (length (replicate n x)) (pos 0)
items_zero at x zero e = refl
items_zero at x (suc n) e = ap (λ w. w ∷ map (word_of at) (replicate n x)) e ∙ ap (λ l. pos 0 ∷ l) (items_zero at x n e)

fields_there : (t : Table) (m : ℕ) (fs : List ℕ) (i : ℕ) (x : Value) → slice_get (map (λ f. zero_field (slice_get t.fields f)) fs) i ≡ Some x → IsPart m x
fields_there t m [] i x e = absurd (cc)
fields_there t m (f ∷ fs) zero x e =
    let same : zero_field (slice_get t.fields f) ≡ x = cc in
    subst (IsPart m) same (field_there m (slice_get t.fields f))
fields_there t m (f ∷ fs) (suc i) x e = fields_there t m fs i x e

items_there : (m : ℕ) (z : Value) (n i : ℕ) (x : Value) → IsPart m z → slice_get (replicate n z) i ≡ Some x → IsPart m x
items_there m z zero i x h e = absurd (cc)
items_there m z (suc n) zero x h e =
    let same : z ≡ x = cc in
    subst (IsPart m) same h
items_there m z (suc n) (suc i) x h e = items_there m z n i x h e

pub zeroed_lawful : (t : Table) (m : ℕ) (s : ShapeOf) (n : ℕ) → Contains t.shapes s → IsLawful t m (zeroed_of t s n)
zeroed_lawful t m (Size s) n c = record {
  shape = c;
  extent = length-map (fields_of t s) (λ f. zero_field (slice_get t.fields f));
  parts = all_from (IsPart m) (zeroed t s).parts (fields_there t m (fields_of t s));
}
zeroed_lawful t m (Array a) n c = record {
  shape = c;
  extent = tt;
  parts = all_from (IsPart m) (cleared t a n).parts (λ i x e. items_there m (zero_item (slice_get t.arrays a)) n i x (item_there m (slice_get t.arrays a)) e);
}

-- ---- where things lie

pub allocations_address : AllocationsAddress
allocations_address t objects arena o st =
    let new = objects ++ o ∷ [] in
    let first : words_before new (length objects) ≡ words_of objects = before_push objects o (length objects) (omega arith) ∙ all_before objects (length objects) (omega arith) in
    let taken : arena.taken ≡ 8 * words_of objects = st.taken in
    (omega arith, λ m lt. ap (λ k. 0x10000000 + 8 * k) (before_push objects o m (omega arith)))

pub part_more : PartsStay
part_more m n (v.Int z) le h = h
part_more m n v.Null le h = tt
part_more m n (v.Obj k) le h = omega (arith, h)

pub lawful_more : (t : Table) (m n : ℕ) (o : Object) → m ≤ n → IsLawful t m o → IsLawful t n o
lawful_more t m n o le l = record {
  shape = l.shape;
  extent = l.extent;
  parts = all_weaker (IsPart m) (IsPart n) o.parts (λ x h. part_more m n x le h) l.parts;
}

-- with an object's words in place of as many zeros, the objects with this one stand
pub pushed_stands : (t : Table) (objects : List Object) (arena after : Arena) (o : Object) (left : ℕ) → Stands t objects arena → IsLawful t (length objects + 1) o → after.words ≡ all_words t (address_of objects) objects ++ (object_words t (address_of (objects ++ o ∷ [])) o ++ replicate left (pos 0)) → after.taken ≡ arena.taken + 8 * words_in o → length after.words ≡ length arena.words → Stands t (objects ++ o ∷ []) after
pushed_stands t objects arena after o left st lawful words taken size =
    let new = objects ++ o ∷ [] in
    let m = length objects in
    let at = address_of objects in
    let to = address_of new in
    let rest = replicate left (pos 0) in
    let one : length (o ∷ []) ≡ 1 = refl in
    let many : length new ≡ m + 1 = length-append objects (o ∷ []) ∙ ap (λ k. m + k) one in
    let agree : Agree m at to = λ k lt. ap (λ j. 0x10000000 + 8 * j) (sym (before_push objects o k (omega arith))) in
    let old : All (IsLawful t (m + 1)) objects = all_weaker (IsLawful t m) (IsLawful t (m + 1)) objects (λ x l. lawful_more t m (m + 1) x (omega arith) l) st.lawful in
    let this : All (IsLawful t (m + 1)) (o ∷ []) = all_from (IsLawful t (m + 1)) (o ∷ []) (λ i x e. alone i x e) in
    record {
      lawful = subst (λ k. All (IsLawful t k) new) (sym many) (All-append (IsLawful t (m + 1)) objects (o ∷ []) old this);
      left = left;
      words =
          words
          ∙ ap (λ l. l ++ (object_words t to o ++ rest)) (all_same t m at to objects agree (parts_of_lawful t m objects st.lawful))
          ∙ sym (append_assoc (all_words t to objects) (object_words t to o) rest)
          ∙ ap (λ l. l ++ rest) (sym (all_push t to objects o));
      taken = (let a : arena.taken ≡ 8 * words_of objects = st.taken in let b : words_of new ≡ words_of objects + words_in o = of_push objects o in omega arith);
      few = (let a : length arena.words ≤ 2 ^ 21 = st.few in omega arith);
    }
  where
    alone : (i : ℕ) (x : Object) → slice_get (o ∷ []) i ≡ Some x → IsLawful t (length objects + 1) x
    alone zero x e =
        let same : o ≡ x = cc in
        subst (IsLawful t (length objects + 1)) same lawful
    alone (suc i) x e = absurd (cc)

-- ---- the host's writes

zeros_split : (left p rest : ℕ) → left ≡ p + rest → replicate left (pos 0) ≡ replicate p (pos 0) ++ replicate rest (pos 0)
zeros_split left p rest e = ap (λ n. replicate n (pos 0)) e ∙ sym (replicate-append-replicate p rest (pos 0))

one_put : (front : List ℤ) (left p rest n : ℕ) (h : ℤ) → left ≡ suc (p + rest) → n ≡ length front → set (front ++ replicate left (pos 0)) n h ≡ front ++ ((h ∷ replicate p (pos 0)) ++ replicate rest (pos 0))
one_put front left p rest n h e at =
    set_right front (replicate left (pos 0)) n 0 h (omega arith)
    ∙ ap (λ k. front ++ set (replicate k (pos 0)) 0 h) e
    ∙ ap (λ l. front ++ (h ∷ l)) (zeros_split (p + rest) p rest refl)

two_put : (front : List ℤ) (left p rest n : ℕ) (g h : ℤ) → left ≡ suc (suc (p + rest)) → n ≡ length front → set (set (front ++ replicate left (pos 0)) n g) (n + 1) h ≡ front ++ ((g ∷ h ∷ replicate p (pos 0)) ++ replicate rest (pos 0))
two_put front left p rest n g h e at =
    ap (λ l. set l (n + 1) h) (set_right front (replicate left (pos 0)) n 0 g (omega arith) ∙ ap (λ k. front ++ set (replicate k (pos 0)) 0 g) e)
    ∙ set_right front (g ∷ pos 0 ∷ replicate (p + rest) (pos 0)) (n + 1) 1 h (omega arith)
    ∙ ap (λ l. front ++ (g ∷ h ∷ l)) (zeros_split (p + rest) p rest refl)

room : (t : Table) (objects : List Object) (arena : Arena) (st : Stands t objects arena) → length arena.words ≡ words_of objects + st.left
room t objects arena st =
    let at = address_of objects in
    ap length st.words
    ∙ length-append (all_words t at objects) (replicate st.left (pos 0))
    ∙ ap (λ n. n + length (replicate st.left (pos 0))) (length_all t at objects)
    ∙ ap (λ n. words_of objects + n) (length-replicate st.left (pos 0))

pub allocations_stand : AllocationsStand
allocations_stand t objects arena (Size s) n st c enough =
    let o = zeroed t s in
    let at = address_of objects in
    let to = address_of (objects ++ o ∷ []) in
    let front = all_words t at objects in
    let p = length o.parts in
    let h = pos (header_of t (Size s)) in
    let size : length arena.words ≡ words_of objects + st.left = room t objects arena st in
    let taken : arena.taken ≡ 8 * words_of objects = st.taken in
    let full : length front ≡ words_of objects = length_all t at objects in
    let need : words_in o ≡ 1 + p = refl in
    let rest = st.left - (1 + p) in
    let left : st.left ≡ suc (p + rest) = omega arith in
    let place : 0x10000000 + arena.taken ≡ 0x10000000 + 8 * words_of objects = omega arith in
    let base : Arena = record arena { taken = arena.taken + 8 * words_in o } in
    let after : arena_with t (Size s) n arena ≡ record base { words = set arena.words (words_of objects) h } =
    ap (λ a. with_arena_word a h base) place ∙ arena_put base (words_of objects) h in
    let words : set arena.words (words_of objects) h ≡ front ++ (object_words t to o ++ replicate rest (pos 0)) =
    ap (λ l. set l (words_of objects) h) st.words
    ∙ one_put front st.left p rest (words_of objects) h left (sym full)
    ∙ ap (λ l. front ++ ((h ∷ l) ++ replicate rest (pos 0))) (sym (fields_zero t to (fields_of t s))) in
    subst (Stands t (objects ++ o ∷ [])) (sym after)
    (pushed_stands t objects arena (record base { words = set arena.words (words_of objects) h }) o rest st (zeroed_lawful t (length objects + 1) (Size s) n c) words refl (length-set arena.words (words_of objects) h))
allocations_stand t objects arena (Array a) n st c enough =
    let o = cleared t a n in
    let at = address_of objects in
    let to = address_of (objects ++ o ∷ []) in
    let front = all_words t at objects in
    let p = length o.parts in
    let h = pos (header_of t (Array a)) in
    let z = zero_item (slice_get t.arrays a) in
    let size : length arena.words ≡ words_of objects + st.left = room t objects arena st in
    let taken : arena.taken ≡ 8 * words_of objects = st.taken in
    let full : length front ≡ words_of objects = length_all t at objects in
    let need : words_in o ≡ 2 + p = refl in
    let rest = st.left - (2 + p) in
    let left : st.left ≡ suc (suc (p + rest)) = omega arith in
    let i = words_of objects in
    let place : 0x10000000 + arena.taken ≡ 0x10000000 + 8 * i = omega arith in
    let place2 : 0x10000000 + arena.taken + 8 ≡ 0x10000000 + 8 * (i + 1) = omega arith in
    let base : Arena = record arena { taken = arena.taken + 8 * words_in o } in
    let first : Arena = record base { words = set arena.words i h } in
    let last : Arena = record base { words = set (set arena.words i h) (i + 1) (pos p) } in
    let after : arena_with t (Array a) n arena ≡ last =
    ap (λ b. with_arena_word (0x10000000 + arena.taken + 8) (pos p) (with_arena_word b h base)) place
    ∙ ap (with_arena_word (0x10000000 + arena.taken + 8) (pos p)) (arena_put base i h)
    ∙ ap (λ b. with_arena_word b (pos p) first) place2
    ∙ arena_put first (i + 1) (pos p) in
    let words : set (set arena.words i h) (i + 1) (pos p) ≡ front ++ (object_words t to o ++ replicate rest (pos 0)) =
    ap (λ l. set (set l i h) (i + 1) (pos p)) st.words
    ∙ two_put front st.left p rest i h (pos p) left (sym full)
    ∙ ap (λ l. front ++ ((h ∷ pos p ∷ l) ++ replicate rest (pos 0))) (sym (items_zero to z n (item_zero to (slice_get t.arrays a)))) in
    subst (Stands t (objects ++ o ∷ [])) (sym after)
    (pushed_stands t objects arena last o rest st (zeroed_lawful t (length objects + 1) (Array a) n c) words refl
    (length-set (set arena.words i h) (i + 1) (pos p) ∙ length-set arena.words i h))

-- ---- bytes

pub shape_bytes : BytesAreThose
shape_bytes (Size s) n = omega arith
shape_bytes (Array a) n = omega arith

sum_bytes : (os : List Object) → 8 * words_of os ≡ sum_by size_of os
sum_bytes [] = refl
sum_bytes (o ∷ os) =
    let this : 8 * words_in o ≡ size_of o = shape_bytes o.of (length o.parts) in
    let rest : 8 * words_of os ≡ sum_by size_of os = sum_bytes os in
    let all : sum_by size_of (o ∷ os) ≡ size_of o + sum_by size_of os = sum_by-cons size_of o os in
    omega arith

pub bytes_are_taken : BytesAreTaken
bytes_are_taken t objects arena st = st.taken ∙ sum_bytes objects

pub bytes_are_counted : BytesAreCounted
bytes_are_counted t w arena st = bytes_are_taken t w.objects arena st ∙ sym (sum_by-take-drop size_of w.objects (length t.prebuilts))
