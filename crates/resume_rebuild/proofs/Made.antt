-- The new objects stand, zeroed, behind the others.
use Rattle.std.proofs.Common.{◌≡◌, ℕ, zero, suc, ◌+◌, ◌-◌, ◌*◌, ◌<◌, ◌≤◌, Some, List, [], ◌∷◌, ◌++◌, length, map, slice_get, append_assoc, refl, ap, sym, ◌∙◌, subst, arith, pos}
use Rattle.std.specs.Prelude.{◌/◌}
use Rattle.std.specs.List.{All}
use Rattle.std.proofs.Math.ListN.{length-set}
use Rattle.std.proofs.lemmas.List.{append-nil, length-map, length-replicate}
use Rattle.trace_ops.specs.declared.table.Table.{Table}
use Rattle.trace_ops.specs.declared.table.ShapeOf.{ShapeOf}
use Rattle.trace_ops.specs.declared.table.ShapeOf.TheVariants.{Size, Array}
use Rattle.trace_ops.specs.declared.piece.Shape.{Shape}
use Rattle.trace_meaning.specs.declared.value.Object.{Object}
use Rattle.trace_meaning.specs.Objects.{fields_of, zero_field, zero_item}
use Rattle.target_base.specs.Arena.{Arena}
use Rattle.arena_objects.specs.Layout.{header_of, words_ahead, words_in, words_before, words_of}
use Rattle.arena_objects.specs.Standing.{HasItsParts, Stands}
use Rattle.arena_objects.specs.Making.{zeroed_of, arena_begun, arena_with}
use Rattle.std.proofs.lemmas.List.Elements.{All-head, All-tail}
use Rattle.arena_objects.specs.Laws.{AllocationsStand}
use Rattle.resume_rebuild.specs.Rebuilding.{extent_of, words_of_extent, bytes_of_all, addresses_from, made_all}
use Rattle.resume_rebuild.specs.Standing.{IsOfTable}

-- ---- words of objects one behind the other

pub before_left : (xs ys : List Object) (k : ℕ) → k ≤ length xs → words_before (xs ++ ys) k ≡ words_before xs k
before_left [] [] zero le = refl
before_left [] (y ∷ ys) zero le = refl
before_left [] ys (suc k) le = absurd (omega arith)
before_left (x ∷ xs) ys zero le = refl
before_left (x ∷ xs) ys (suc k) le = ap (λ m. words_in x + m) (before_left xs ys k (omega arith))

pub before_right : (xs ys : List Object) (n k : ℕ) → n ≡ length xs + k → words_before (xs ++ ys) n ≡ words_of xs + words_before ys k
before_right [] ys n k e =
    let same : n ≡ k = omega arith in
    let none : words_before ys k ≡ 0 + words_before ys k = omega arith in
    ap (words_before ys) same ∙ none
before_right (x ∷ xs) ys zero k e = absurd (omega arith)
before_right (x ∷ xs) ys (suc n) k e =
    let rest : words_before (xs ++ ys) n ≡ words_of xs + words_before ys k = before_right xs ys n k (omega arith) in
    let here : words_before ((x ∷ xs) ++ ys) (suc n) ≡ words_in x + words_before (xs ++ ys) n = refl in
    let all : words_of (x ∷ xs) ≡ words_in x + words_of xs = refl in
    omega arith

pub before_end : (xs ys : List Object) → words_before (xs ++ ys) (length xs) ≡ words_of xs
before_end [] [] = refl
before_end [] (y ∷ ys) = refl
before_end (x ∷ xs) ys = ap (λ m. words_in x + m) (before_end xs ys)

-- ---- zeroed objects

abbrev pub zeroed_for : Shape → Table → Object
zeroed_for s t = zeroed_of t s.of (length s.parts)

abbrev pub all_zeroed : Table → List Shape → List Object
all_zeroed t [] = []
all_zeroed t (s ∷ ss) = zeroed_for s t ∷ all_zeroed t ss

pub shape_zeroed : (t : Table) (s : ShapeOf) (n : ℕ) → (zeroed_of t s n).of ≡ s
shape_zeroed t (Size s) n = refl
shape_zeroed t (Array a) n = refl

parts_zeroed : (t : Table) (s : ShapeOf) (n : ℕ) → HasItsParts t s n → length (zeroed_of t s n).parts ≡ n
parts_zeroed t (Size s) n h =
    let a : length (zeroed_of t (Size s) n).parts ≡ length (fields_of t s) = length-map (fields_of t s) (λ f. zero_field (slice_get t.fields f)) in
    let b : n ≡ length (fields_of t s) = h in
    omega arith
parts_zeroed t (Array a) n h = length-replicate n (zero_item (slice_get t.arrays a))

pub count_zeroed : (t : Table) (s : Shape) → IsOfTable t s → length (zeroed_for s t).parts ≡ length s.parts
count_zeroed t s h = parts_zeroed t s.of (length s.parts) h.1

pub words_zeroed : (t : Table) (s : Shape) → IsOfTable t s → words_in (zeroed_for s t) ≡ words_of_extent (extent_of s)
words_zeroed t s h =
    let a : words_ahead (zeroed_for s t).of ≡ words_ahead s.of = ap words_ahead (shape_zeroed t s.of (length s.parts)) in
    let b : length (zeroed_for s t).parts ≡ length s.parts = count_zeroed t s h in
    omega arith

-- ---- an object begun

pub begun_taken : (s : ShapeOf) (h n : ℕ) (arena : Arena) → (arena_begun s h n arena).taken ≡ arena.taken + 8 * (words_ahead s + n)
begun_taken (Size s) h n arena = refl
begun_taken (Array a) h n arena = refl

pub begun_size : (s : ShapeOf) (h n : ℕ) (arena : Arena) → length (arena_begun s h n arena).words ≡ length arena.words
begun_size (Size s) h n arena = length-set arena.words ((0x10000000 + arena.taken - 0x10000000) / 8) (pos h)
begun_size (Array a) h n arena =
    length-set (arena_begun (Size a) h n arena).words ((0x10000000 + arena.taken + 8 - 0x10000000) / 8) (pos n)
    ∙ length-set arena.words ((0x10000000 + arena.taken - 0x10000000) / 8) (pos h)

pub made_stand : AllocationsStand → (t : Table) (objects : List Object) (ss : List Shape) (arena : Arena) → Stands t objects arena → All (IsOfTable t) ss → bytes_of_all (map extent_of ss) + arena.taken ≤ 8 * length arena.words → Stands t (objects ++ all_zeroed t ss) (made_all t (map extent_of ss) arena)
made_stand stand t objects [] arena st of room = subst (λ l. Stands t l arena) (sym (append-nil objects)) st
made_stand stand t objects (s ∷ ss) arena st of room =
    let this : IsOfTable t s = All-head (IsOfTable t) s ss of in
    let z = zeroed_for s t in
    let n : length z.parts ≡ length s.parts = count_zeroed t s this in
    let size : words_in z ≡ words_of_extent (extent_of s) = words_zeroed t s this in
    let all : bytes_of_all (map extent_of (s ∷ ss)) ≡ 8 * words_of_extent (extent_of s) + bytes_of_all (map extent_of ss) = refl in
    let next = arena_begun s.of (header_of t s.of) (length s.parts) arena in
    let same : arena_with t s.of (length s.parts) arena ≡ next = ap (λ k. arena_begun s.of (header_of t s.of) k arena) n in
    let one : Stands t (objects ++ z ∷ []) next = subst (Stands t (objects ++ z ∷ [])) same (stand t objects arena s.of (length s.parts) st this.0 (omega arith)) in
    let taken : next.taken ≡ arena.taken + 8 * (words_ahead s.of + length s.parts) = begun_taken s.of (header_of t s.of) (length s.parts) arena in
    let words : length next.words ≡ length arena.words = begun_size s.of (header_of t s.of) (length s.parts) arena in
    subst (λ l. Stands t l (made_all t (map extent_of ss) next)) (append_assoc objects (z ∷ []) (all_zeroed t ss))
    (made_stand stand t (objects ++ z ∷ []) ss next one (All-tail (IsOfTable t) s ss of) (omega arith))

-- ---- their addresses

pub length_zeroed : (t : Table) (ss : List Shape) → length (all_zeroed t ss) ≡ length ss
length_zeroed t [] = refl
length_zeroed t (s ∷ ss) = ap suc (length_zeroed t ss)

pub address_made : (t : Table) (ss : List Shape) (a k : ℕ) → All (IsOfTable t) ss → k < length ss → slice_get (addresses_from a (map extent_of ss)) k ≡ Some (pos (a + 8 * words_before (all_zeroed t ss) k))
address_made t [] a k of lt = absurd (omega arith)
address_made t (s ∷ ss) a zero of lt =
    let first : a ≡ a + 8 * 0 = omega arith in
    ap (λ n. Some (pos n)) first
address_made t (s ∷ ss) a (suc k) of lt =
    let size : words_in (zeroed_for s t) ≡ words_of_extent (extent_of s) = words_zeroed t s (All-head (IsOfTable t) s ss of) in
    let here : words_before (all_zeroed t (s ∷ ss)) (suc k) ≡ words_in (zeroed_for s t) + words_before (all_zeroed t ss) k = refl in
    let same : a + 8 * words_of_extent (extent_of s) + 8 * words_before (all_zeroed t ss) k ≡ a + 8 * words_before (all_zeroed t (s ∷ ss)) (suc k) = omega arith in
    address_made t ss (a + 8 * words_of_extent (extent_of s)) k (All-tail (IsOfTable t) s ss of) (omega arith) ∙ ap (λ n. Some (pos n)) same
