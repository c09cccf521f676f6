-- Loads and stores of objects' words.
use Rattle.std.proofs.Common.{◌≡◌, ℕ, ◌+◌, ◌-◌, ◌*◌, ◌/◌, ◌%◌, ◌^◌, ◌<◌, ◌≤◌, true, Some, List, ◌++◌, length, map, replicate, set, slice_get, refl, ap, sym, ◌∙◌, subst, arith, ℤ, pos}
use Rattle.std.specs.Prelude.{◌==◌, nat_le}
use Rattle.std.specs.Option.{option_map}
use Rattle.std.specs.List.{All}
use Rattle.std.proofs.Math.ListN.{length-set}
use Rattle.std.proofs.lemmas.List.{length-append}
use Rattle.std.proofs.lemmas.Option.{slice_get-map, slice_get_within}
use Rattle.std.proofs.lemmas.Bool.Decides.{nat_tests}
use Rattle.trace_ops.specs.declared.table.Table.{Table}
use Rattle.trace_ops.specs.declared.table.ShapeOf.{ShapeOf}
use Rattle.trace_ops.specs.declared.table.ShapeOf.TheVariants.{Size, Array}
use Rattle.trace_meaning.specs.declared.value.Value.{Value}
use Rattle.trace_meaning.specs.declared.value.Object.{Object}
use Rattle.trace_meaning.specs.Objects.{with_part}
use Rattle.target_base.specs.Arena.{Arena, arena_word, with_arena_word}
use Rattle.arena_objects.specs.Layout.{header_of, words_ahead, words_in, words_before, words_of, address_of, part_offset, word_of, head_words, object_words, all_words}
use Rattle.arena_objects.specs.Standing.{IsPart, HasItsParts, IsLawful, Stands}
use Rattle.arena_objects.specs.Laws.{AddressesAreApart, HeadersAreFound, LengthsAreFound, PartsAreFound, PartsAreWritten, WritesMoveNothing, SizesMoveNothing, TakenIsThere}
use Rattle.lists.proofs.Alls.{all_at, all_set, all_weaker}
use Rattle.lists.proofs.Appends.{get_right}
use Rattle.lists.proofs.Places.{get_some}
use Rattle.arena_objects.proofs.Places.{length_head, length_all, some_ahead, within_all, apart, found, word_set, before_set, of_set, same_size, Agree, AllThere, all_same}

-- ---- the arena

pub arena_at : (arena : Arena) (k : ℕ) → arena_word arena (0x10000000 + 8 * k) ≡ slice_get arena.words k
arena_at arena k =
    let a : ((0x10000000 + 8 * k) % 8 == 0) ≡ true = grind (arith, nat_tests) in
    let b : nat_le 0x10000000 (0x10000000 + 8 * k) ≡ true = grind (arith, nat_tests) in
    let c : (0x10000000 + 8 * k - 0x10000000) / 8 ≡ k = grind arith in
    rw (a, b, c) refl

pub arena_put : (arena : Arena) (k : ℕ) (w : ℤ) → with_arena_word (0x10000000 + 8 * k) w arena ≡ record arena { words = set arena.words k w }
arena_put arena k w =
    let c : (0x10000000 + 8 * k - 0x10000000) / 8 ≡ k = grind arith in
    rw c refl

pub part_place : (os : List Object) (n i : ℕ) (s : ShapeOf) → address_of os n + part_offset s i ≡ 0x10000000 + 8 * (words_before os n + (words_ahead s + i))
part_place os n i s = omega arith

-- ---- addresses

pub total : TakenIsThere
total t objects arena st =
    let at = address_of objects in
    let a : length arena.words ≡ length (all_words t at objects ++ replicate st.left (pos 0)) = ap length st.words in
    let b : length (all_words t at objects ++ replicate st.left (pos 0)) ≡ length (all_words t at objects) + length (replicate st.left (pos 0)) = length-append (all_words t at objects) (replicate st.left (pos 0)) in
    let c : length (all_words t at objects) ≡ words_of objects = length_all t at objects in
    let d : arena.taken ≡ 8 * words_of objects = st.taken in
    omega arith

pub addresses_are_apart : AddressesAreApart
addresses_are_apart t objects arena n st lt =
    let f = get_some objects n lt in
    let a : words_before objects n + words_in f.0 ≤ words_of objects = within_all objects n f.0 f.1 in
    let b : 1 ≤ words_ahead f.0.of = some_ahead f.0.of in
    let c : arena.taken ≡ 8 * words_of objects = st.taken in
    let d : arena.taken ≤ 8 * length arena.words = total t objects arena st in
    let e : length arena.words ≤ 2 ^ 21 = st.few in
    record {
      low = omega arith;
      whole = grind arith;
      inside = omega arith;
      high = omega arith;
      only = λ m lm same. apart objects m n lm lt (omega arith);
    }

-- ---- loads

pub head_first : (t : Table) (s : ShapeOf) (n : ℕ) (ws : List ℤ) → slice_get (head_words t s n ++ ws) 0 ≡ Some (pos (header_of t s))
head_first t (Size s) n ws = refl
head_first t (Array a) n ws = refl

pub head_second : (t : Table) (s : ShapeOf) (a n : ℕ) (ws : List ℤ) → s ≡ Array a → slice_get (head_words t s n ++ ws) 1 ≡ Some (pos n)
head_second t (Size s) a n ws e = absurd (cc)
head_second t (Array b) a n ws e = refl

two_ahead : (s : ShapeOf) (a : ℕ) → s ≡ Array a → words_ahead s ≡ 2
two_ahead s a e = ap words_ahead e

pub part_word : (t : Table) (at : ℕ → ℕ) (o : Object) (i : ℕ) (x : Value) → slice_get o.parts i ≡ Some x → slice_get (object_words t at o) (words_ahead o.of + i) ≡ Some (word_of at x)
part_word t at o i x e =
    let head : length (head_words t o.of (length o.parts)) ≡ words_ahead o.of = length_head t o.of (length o.parts) in
    get_right (head_words t o.of (length o.parts)) (map (word_of at) o.parts) (words_ahead o.of + i) i (omega arith)
    ∙ slice_get-map (word_of at) o.parts i
    ∙ ap (option_map (word_of at)) e

-- word k of object n of an arena
pub word_found : (t : Table) (objects : List Object) (arena : Arena) (n k : ℕ) (o : Object) → Stands t objects arena → slice_get objects n ≡ Some o → k < words_in o → arena_word arena (0x10000000 + 8 * (words_before objects n + k)) ≡ slice_get (object_words t (address_of objects) o) k
word_found t objects arena n k o st e lt =
    arena_at arena (words_before objects n + k)
    ∙ ap (λ l. slice_get l (words_before objects n + k)) st.words
    ∙ found t (address_of objects) objects (replicate st.left (pos 0)) n k o e lt

pub headers_are_found : HeadersAreFound
headers_are_found t objects arena n o st e =
    let some : 1 ≤ words_ahead o.of = some_ahead o.of in
    let place : address_of objects n ≡ 0x10000000 + 8 * (words_before objects n + 0) = omega arith in
    ap (arena_word arena) place
    ∙ word_found t objects arena n 0 o st e (omega arith)
    ∙ head_first t o.of (length o.parts) (map (word_of (address_of objects)) o.parts)

pub lengths_are_found : LengthsAreFound
lengths_are_found t objects arena n a o st e array =
    let two : words_ahead o.of ≡ 2 = two_ahead o.of a array in
    let place : address_of objects n + 8 ≡ 0x10000000 + 8 * (words_before objects n + 1) = omega arith in
    ap (arena_word arena) place
    ∙ word_found t objects arena n 1 o st e (omega arith)
    ∙ head_second t o.of a (length o.parts) (map (word_of (address_of objects)) o.parts) array

pub parts_are_found : PartsAreFound
parts_are_found t objects arena n i o x st e ex =
    let lt : i < length o.parts = slice_get_within o.parts i x ex in
    ap (arena_word arena) (part_place objects n i o.of)
    ∙ word_found t objects arena n (words_ahead o.of + i) o st e (omega arith)
    ∙ part_word t (address_of objects) o i x ex

-- ---- stores

pub lawful_part : (t : Table) (m i : ℕ) (o : Object) (x : Value) → IsLawful t m o → IsPart m x → IsLawful t m (with_part o i x)
lawful_part t m i o x l h = record {
  shape = l.shape;
  extent = subst (HasItsParts t o.of) (sym (length-set o.parts i x)) l.extent;
  parts = all_set (IsPart m) o.parts i x h l.parts;
}

pub parts_of_lawful : (t : Table) (m : ℕ) (objects : List Object) → All (IsLawful t m) objects → AllThere m objects
parts_of_lawful t m objects h = all_weaker (IsLawful t m) (λ (o : Object). All (IsPart m) o.parts) objects (λ o l. l.parts) h

pub sizes_move_nothing : SizesMoveNothing
sizes_move_nothing objects n m o p e same = ap (λ k. 0x10000000 + 8 * k) (before_set objects n o p m e same)

pub writes_move_nothing : WritesMoveNothing
writes_move_nothing objects n i m o x e = sizes_move_nothing objects n m o (with_part o i x) e (same_size o i x)

pub parts_are_written : PartsAreWritten
parts_are_written t objects arena n i o x st e lt there =
    let new = set objects n (with_part o i x) in
    let at = address_of objects in
    let rest = replicate st.left (pos 0) in
    let k = words_before objects n + (words_ahead o.of + i) in
    let w = word_of at x in
    let many : length new ≡ length objects = length-set objects n (with_part o i x) in
    let kept : All (IsLawful t (length objects)) new = all_set (IsLawful t (length objects)) objects n (with_part o i x) (lawful_part t (length objects) i o x (all_at (IsLawful t (length objects)) objects n o st.lawful e) there) st.lawful in
    let agree : Agree (length objects) at (address_of new) = λ m lm. sym (writes_move_nothing objects n i m o x e) in
    let written : set arena.words k w ≡ all_words t (address_of new) new ++ rest =
    ap (λ l. set l k w) st.words
    ∙ word_set t at objects rest n i o x e lt
    ∙ ap (λ l. l ++ rest) (all_same t (length objects) at (address_of new) new agree (parts_of_lawful t (length objects) new kept)) in
    let after : with_arena_word (address_of objects n + part_offset o.of i) w arena ≡ record arena { words = set arena.words k w } =
    ap (λ a. with_arena_word a w arena) (part_place objects n i o.of) ∙ arena_put arena k w in
    let stands : Stands t new (record arena { words = set arena.words k w }) = record {
      lawful = subst (λ m. All (IsLawful t m) new) (sym many) kept;
      left = st.left;
      words = written;
      taken = st.taken ∙ ap (λ m. 8 * m) (sym (of_set objects n o (with_part o i x) e (same_size o i x)));
      few = subst (λ m. m ≤ 2 ^ 21) (sym (length-set arena.words k w)) st.few;
    } in
    subst (Stands t new) (sym after) stands
