-- The words of prebuilt objects, and where they stand.
use Rattle.std.proofs.Common.{◌≡◌, ℕ, zero, suc, ◌+◌, ◌*◌, ◌<◌, ◌≤◌, Option, Some, None, List, [], ◌∷◌, ◌++◌, length, map, slice_get, refl, ap, sym, ◌∙◌, subst, arith, ℤ, pos}
use Rattle.std.specs.Prelude.{sum_by}
use Rattle.std.specs.Option.{IsSomeAnd}
use Rattle.std.specs.List.{All, Contains}
use Rattle.std.proofs.lemmas.List.{length-append, length-map}
use Rattle.std.proofs.lemmas.List.Elements.{All-head, All-tail}
use Rattle.std.proofs.lemmas.List.Sums.{sum_by-cons}
use Rattle.std.proofs.lemmas.Option.{slice_get_within, get_or_from_slice_get}
use Rattle.trace_ops.specs.declared.table.Table.{Table}
use Rattle.trace_ops.specs.declared.table.ArrayRow.{ArrayRow}
use Rattle.trace_ops.specs.declared.table.SizeRow.{SizeRow}
use Rattle.trace_ops.specs.declared.table.Initial.{Initial}
use Rattle.trace_ops.specs.declared.table.Initial.TheVariants as initial
use Rattle.trace_ops.specs.declared.table.PrebuiltRow.{PrebuiltRow}
use Rattle.trace_ops.specs.declared.table.ShapeOf.{ShapeOf}
use Rattle.trace_ops.specs.declared.table.ShapeOf.TheVariants.{Size, Array}
use Rattle.trace_ops.specs.Kinds.{kind_of_initial, kind_of_field, HasParts, NamesShape}
use Rattle.trace_ops.specs.InRange.{StandsOnce, NamesInitial, IsPrebuilt, IsTableInRange, bytes_of_object, prebuilt_bytes}
use Rattle.trace_meaning.specs.declared.value.Object.{Object}
use Rattle.trace_meaning.specs.Recorded.{initial_value, prebuilt_object}
use Rattle.arena_objects.specs.Headers.{header_in}
use Rattle.arena_objects.specs.Layout.{words_ahead, words_in, words_before, address_of, word_of, head_words, object_words, all_words}
use Rattle.arena_objects.specs.ReadBack.{or_zero}
use Rattle.arena_objects.specs.Starting.{first_objects, first_words}
use Rattle.arena_world.specs.Prebuilt.{addresses_from, prebuilt_addresses, word_at, HostKnows, IsHostOf, initial_word, head_by, row_words, rows_words}
use Rattle.arena_world.specs.Laws.{FirstBytes}

-- ---- addresses

address_listed : (os : List Object) (k a : ℕ) → k < length os → slice_get (addresses_from a os) k ≡ Some (pos (a + 8 * words_before os k))
address_listed [] k a lt = absurd (omega arith)
address_listed (o ∷ os) zero a lt = (let none : a ≡ a + 8 * 0 = omega arith in ap (λ n. Some (pos n)) none)
address_listed (o ∷ os) (suc k) a lt =
    let on : a + 8 * words_in o + 8 * words_before os k ≡ a + 8 * (words_in o + words_before os k) = omega arith in
    address_listed os k (a + 8 * words_in o) (omega arith) ∙ ap (λ n. Some (pos n)) on

addresses_count : (os : List Object) (a : ℕ) → length (addresses_from a os) ≡ length os
addresses_count [] a = refl
addresses_count (o ∷ os) a = ap (λ n. suc n) (addresses_count os (a + 8 * words_in o))

pub addresses_length : (t : Table) → length (prebuilt_addresses t) ≡ length t.prebuilts
addresses_length t = addresses_count (first_objects t) 0x10000000 ∙ length-map t.prebuilts prebuilt_object

-- the word of a prebuilt object is that of its address
pub listed_word : (t : Table) (k : ℕ) → k < length t.prebuilts → word_at (prebuilt_addresses t) k ≡ pos (address_of (first_objects t) k)
listed_word t k lt =
    let many : length (first_objects t) ≡ length t.prebuilts = length-map t.prebuilts prebuilt_object in
    ap or_zero (address_listed (first_objects t) k 0x10000000 (omega arith))

prebuilt_word : (t : Table) (h : HostKnows) (k : ℕ) → IsHostOf t h → k < length t.prebuilts → word_at h.prebuilts k ≡ pos (address_of (first_objects t) k)
prebuilt_word t h k s lt = ap (λ xs. word_at xs k) s.prebuilts ∙ listed_word t k lt

-- ---- shapes

once_there : {X : Type 0} (xs : List X) (x : X) → StandsOnce x xs → Contains xs x
once_there xs x h = (h.0, slice_get_within xs h.0 x h.1, get_or_from_slice_get xs h.0 x x h.1)

pub size_there : (t : Table) (s : ℕ) → IsTableInRange t → s < length t.sizes → Contains t.shapes (Size s)
size_there t s r lt = once_there t.shapes (Size s) (r.each_size_once s lt)

shape_there : (t : Table) (s : ShapeOf) (xs : List Initial) → IsTableInRange t → HasParts t s (map kind_of_initial xs) → Contains t.shapes s × NamesShape t s
shape_there t (Size s) xs r h = by_row (slice_get t.sizes s) refl h
  where
    by_row : (q : Option SizeRow) → slice_get t.sizes s ≡ q → IsSomeAnd q (λ (row : SizeRow). map kind_of_initial xs ≡ map (kind_of_field t) row.fields) → Contains t.shapes (Size s) × (s < length t.sizes)
    by_row None e g = absurd g
    by_row (Some row) e g = (let lt = slice_get_within t.sizes s row e in (size_there t s r lt, lt))
shape_there t (Array a) xs r h = by_row (slice_get t.arrays a) refl h
  where
    by_row : (q : Option ArrayRow) → slice_get t.arrays a ≡ q → IsSomeAnd q (λ (row : ArrayRow). All (λ k. k ≡ Some row.kind) (map kind_of_initial xs)) → Contains t.shapes (Array a) × (a < length t.arrays)
    by_row None e g = absurd g
    by_row (Some row) e g = (let lt = slice_get_within t.arrays a row e in (once_there t.shapes (Array a) (r.each_array_once a lt), lt))

-- ---- words

initial_same : (t : Table) (h : HostKnows) (x : Initial) → IsHostOf t h → NamesInitial t x → initial_word h x ≡ word_of (address_of (first_objects t)) (initial_value x)
initial_same t h (initial.Int z) s n = refl
initial_same t h initial.Null s n = refl
initial_same t h (initial.Ptr k) s n = prebuilt_word t h k s n

initials_same : (t : Table) (h : HostKnows) (xs : List Initial) → IsHostOf t h → All (NamesInitial t) xs → map (initial_word h) xs ≡ map (word_of (address_of (first_objects t))) (map initial_value xs)
initials_same t h [] s n = refl
initials_same t h (x ∷ xs) s n =
    ap (λ w. w ∷ map (initial_word h) xs) (initial_same t h x s (All-head (NamesInitial t) x xs n))
    ∙ ap (λ ws. word_of (address_of (first_objects t)) (initial_value x) ∷ ws) (initials_same t h xs s (All-tail (NamesInitial t) x xs n))

head_same : (t : Table) (h : HostKnows) (s : ShapeOf) (n : ℕ) → IsHostOf t h → Contains t.shapes s → NamesShape t s → head_by h s n ≡ head_words t s n
head_same t h (Size s) n k c m = ap (λ x. pos x ∷ []) (k.headers (Size s) c m)
head_same t h (Array a) n k c m = ap (λ x. pos x ∷ pos n ∷ []) (k.headers (Array a) c m)

row_same : (t : Table) (h : HostKnows) (row : PrebuiltRow) → IsTableInRange t → IsHostOf t h → IsPrebuilt t row → row_words h row ≡ object_words t (address_of (first_objects t)) (prebuilt_object row)
row_same t h row r s p =
    let c = shape_there t row.of row.parts r p.0 in
    let many : length row.parts ≡ length (map initial_value row.parts) = sym (length-map row.parts initial_value) in
    ap (λ xs. xs ++ map (initial_word h) row.parts) (head_same t h row.of (length row.parts) s c.0 c.1)
    ∙ ap (λ n. head_words t row.of n ++ map (initial_word h) row.parts) many
    ∙ ap (λ ws. head_words t row.of (length (map initial_value row.parts)) ++ ws) (initials_same t h row.parts s p.1)

pub rows_same : (t : Table) (h : HostKnows) (rows : List PrebuiltRow) → IsTableInRange t → IsHostOf t h → All (IsPrebuilt t) rows → rows_words h rows ≡ all_words t (address_of (first_objects t)) (map prebuilt_object rows)
rows_same t h [] r s p = refl
rows_same t h (row ∷ rows) r s p =
    ap (λ xs. xs ++ rows_words h rows) (row_same t h row r s (All-head (IsPrebuilt t) row rows p))
    ∙ ap (λ ws. object_words t (address_of (first_objects t)) (prebuilt_object row) ++ ws) (rows_same t h rows r s (All-tail (IsPrebuilt t) row rows p))

-- ---- bytes

pub bytes_same : (s : ShapeOf) (n : ℕ) → 8 * (words_ahead s + n) ≡ bytes_of_object s n
bytes_same (Size s) n = omega arith
bytes_same (Array a) n = omega arith

head_length : (t : Table) (s : ShapeOf) (n : ℕ) → length (head_words t s n) ≡ words_ahead s
head_length t (Size s) n = refl
head_length t (Array a) n = refl

pub row_bytes : (row : PrebuiltRow) → 8 * words_in (prebuilt_object row) ≡ prebuilt_bytes row
row_bytes row = ap (λ n. 8 * (words_ahead row.of + n)) (length-map row.parts initial_value) ∙ bytes_same row.of (length row.parts)

object_length : (t : Table) (at : ℕ → ℕ) (o : Object) → length (object_words t at o) ≡ words_in o
object_length t at o =
    length-append (head_words t o.of (length o.parts)) (map (word_of at) o.parts)
    ∙ ap (λ n. n + length (map (word_of at) o.parts)) (head_length t o.of (length o.parts))
    ∙ ap (λ n. words_ahead o.of + n) (length-map o.parts (word_of at))

all_bytes : (t : Table) (at : ℕ → ℕ) (rows : List PrebuiltRow) → 8 * length (all_words t at (map prebuilt_object rows)) ≡ sum_by prebuilt_bytes rows
all_bytes t at [] = refl
all_bytes t at (row ∷ rows) =
    let o = prebuilt_object row in
    let rest = all_words t at (map prebuilt_object rows) in
    let parts : length (object_words t at o ++ rest) ≡ length (object_words t at o) + length rest = length-append (object_words t at o) rest in
    let here : length (object_words t at o) ≡ words_in o = object_length t at o in
    let one : 8 * words_in o ≡ prebuilt_bytes row = row_bytes row in
    let more : 8 * length rest ≡ sum_by prebuilt_bytes rows = all_bytes t at rows in
    let sum : sum_by prebuilt_bytes (row ∷ rows) ≡ prebuilt_bytes row + sum_by prebuilt_bytes rows = sum_by-cons prebuilt_bytes row rows in
    omega arith

pub first_bytes : FirstBytes
first_bytes t = all_bytes t (address_of (first_objects t)) t.prebuilts
