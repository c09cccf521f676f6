-- Answers fit words where they fit references.
use Rattle.std.proofs.Common.{◌≡◌, ℕ, zero, suc, ◌+◌, ◌-◌, ◌*◌, ◌<◌, ◌≤◌, Bool, true, false, not, ◌&&◌, eqb, ltb, leb, Option, Some, None, List, [], ◌∷◌, length, map, slice_get, refl, ap, sym, ◌∙◌, subst, arith, ℤ, pos}
use Rattle.std.specs.Prelude.{nat_eq, nat_lt, nat_le, ◌==◌, int_le}
use Rattle.std.specs.Option.{option_map}
use Rattle.std.specs.Ordering.{int_eq}
use Rattle.std.proofs.lemmas.Bool.Decides.{nat_tests}
use Rattle.std.specs.List.{All, Contains, list_all}
use Rattle.std.proofs.lemmas.List.{length-map}
use Rattle.std.proofs.lemmas.Option.{slice_get-map, slice_get_within}
use Rattle.std.proofs.lemmas.Bool.{eqb-true}
use Rattle.trace_ops.specs.declared.table.Table.{Table}
use Rattle.trace_ops.specs.declared.table.CallRow.{CallRow}
use Rattle.trace_ops.specs.declared.table.FieldRow.{FieldRow}
use Rattle.trace_ops.specs.declared.table.ShapeOf.{ShapeOf}
use Rattle.trace_ops.specs.declared.table.ShapeOf.TheVariants.{Size, Array}
use Rattle.trace_ops.specs.declared.piece.Spot.TheVariants.{Field}
use Rattle.trace_ops.specs.InRange.{IsTableInRange}
use Rattle.trace_meaning.specs.declared.value.Value.{Value}
use Rattle.trace_meaning.specs.declared.value.Value.TheVariants as v
use Rattle.trace_meaning.specs.declared.value.Object.{Object}
use Rattle.trace_meaning.specs.declared.call.AnswerStore.{AnswerStore}
use Rattle.trace_meaning.specs.Passing.{is_structure_of}
use Rattle.trace_meaning.specs.Objects.{immutable, is_frozen}
use Rattle.trace_meaning.specs.Answers.{same_result, kind_given, is_named, is_size, is_base, may_be_stored, is_declared, store_fits_field, store_fits, fits}
use Rattle.target_base.specs.Arena.{Arena, arena_word}
use Rattle.arena_objects.specs.Layout.{header_of, words_in, words_before, words_ahead, address_of, word_of}
use Rattle.arena_objects.specs.Standing.{IsPart, IsLawful, Stands}
use Rattle.arena_objects.specs.Starting.{first_objects}
use Rattle.arena_objects.specs.Laws.{HeadersAreFound, HeadersTell}
use Rattle.lists.proofs.Alls.{all_at}
use Rattle.lists.proofs.Places.{get_some}
use Rattle.arena_world.specs.Prebuilt.{addresses_from, prebuilt_addresses, word_at, last_of, HasPrebuilts}
use Rattle.arena_world.specs.Fitting.{loaded, is_header, is_base_word, store_fits_in, store_fits_word, fits_words}
use Rattle.arena_world.specs.Laws.{words_of_refs, IsOne, AreReferences, FitsAlike}
use Rattle.arena_world.proofs.Firsts.{size_there, listed_word, addresses_length}

-- ---- tests

pub tests_same : {X : Type 0} (p q : X → Bool) → ((x : X) → p x ≡ q x) → (xs : List X) → list_all p xs ≡ list_all q xs
tests_same p q f [] = refl
tests_same p q f (x ∷ xs) = ap (λ b. b && list_all p xs) (f x) ∙ ap (λ b. q x && b) (tests_same p q f xs)

commute : (a b : Bool) → (a && b) ≡ (b && a)
commute true true = refl
commute true false = refl
commute false true = refl
commute false false = refl

-- two tests are the same where each passes with the other
both_ways : (a b : Bool) → (a ≡ true → b ≡ true) → (b ≡ true → a ≡ true) → a ≡ b
both_ways true true f g = refl
both_ways true false f g = sym (f refl)
both_ways false true f g = g refl
both_ways false false f g = refl

-- ---- addresses rise

ahead : (s : ShapeOf) → 1 ≤ words_ahead s
ahead (Size s) = omega arith
ahead (Array a) = omega arith

before_rises : (os : List Object) (m n : ℕ) → m ≤ n → words_before os m ≤ words_before os n
before_rises [] m n le = omega arith
before_rises (o ∷ os) zero n le = omega arith
before_rises (o ∷ os) (suc m) zero le = absurd (omega arith)
before_rises (o ∷ os) (suc m) (suc n) le = (let rest : words_before os m ≤ words_before os n = before_rises os m n (omega arith) in omega arith)

before_less : (os : List Object) (m n : ℕ) → m < n → m < length os → words_before os m < words_before os n
before_less [] m n lt there = absurd (omega arith)
before_less (o ∷ os) m zero lt there = absurd (omega arith)
before_less (o ∷ os) zero (suc n) lt there = (let some : 1 ≤ words_ahead o.of = ahead o.of in omega arith)
before_less (o ∷ os) (suc m) (suc n) lt there = (let rest : words_before os m < words_before os n = before_less os m n (omega arith) (omega arith) in omega arith)

-- ---- prebuilt objects stand no further than the last one

is_true-le : (a b : ℕ) → a ≤ b → nat_le a b ≡ true
is_true-le a b le = grind arith

le-is_true : (a b : ℕ) → nat_le a b ≡ true → a ≤ b
le-is_true a b e = grind arith

pub is_true-lt : (a b : ℕ) → a < b → nat_lt a b ≡ true
is_true-lt a b lt = grind arith

pub lt-is_true : (a b : ℕ) → nat_lt a b ≡ true → a < b
lt-is_true a b e = grind arith

-- the last of the prebuilt objects
last_word : (t : Table) (objects : List Object) (m : ℕ) → HasPrebuilts t objects → length t.prebuilts ≡ suc m → last_of (prebuilt_addresses t) ≡ pos (address_of objects m)
last_word t objects m h e =
    let many : length (prebuilt_addresses t) ≡ length t.prebuilts = addresses_length t in
    let place : length (prebuilt_addresses t) - 1 ≡ m = omega arith in
    ap (word_at (prebuilt_addresses t)) place ∙ listed_word t m (omega arith) ∙ ap (λ a. pos a) (sym (h m (omega arith)).1)

prebuilt_same : (t : Table) (objects : List Object) (n : ℕ) → HasPrebuilts t objects → n < length objects → nat_lt n (length t.prebuilts) ≡ int_le (pos (address_of objects n)) (last_of (prebuilt_addresses t))
prebuilt_same t objects n h there = by_count (length t.prebuilts) refl
  where
    by_count : (c : ℕ) → length t.prebuilts ≡ c → nat_lt n (length t.prebuilts) ≡ int_le (pos (address_of objects n)) (last_of (prebuilt_addresses t))
    by_count zero e =
        let many : length (prebuilt_addresses t) ≡ length t.prebuilts = addresses_length t in
        let none : last_of (prebuilt_addresses t) ≡ pos 0 = listed_none (prebuilt_addresses t) (omega arith) in
        ap (nat_lt n) e ∙ below_none n ∙ sym (ap (int_le (pos (address_of objects n))) none ∙ high (address_of objects n) (omega arith))
      where
        listed_none : (xs : List ℤ) → length xs ≡ 0 → last_of xs ≡ pos 0
        listed_none [] q = refl
        listed_none (x ∷ xs) q = absurd (omega arith)

        below_none : (k : ℕ) → nat_lt k 0 ≡ false
        below_none k = grind arith

        high : (a : ℕ) → 1 ≤ a → int_le (pos a) (pos 0) ≡ false
        high a le = grind arith
    by_count (suc m) e =
        let last : last_of (prebuilt_addresses t) ≡ pos (address_of objects m) = last_word t objects m h e in
        let in_there : m < length objects = (h m (omega arith)).0 in
        let up : nat_lt n (length t.prebuilts) ≡ true → nat_le (address_of objects n) (address_of objects m) ≡ true =
        λ q. (let lt : n < length t.prebuilts = lt-is_true n (length t.prebuilts) q in
        let le : words_before objects n ≤ words_before objects m = before_rises objects n m (omega arith) in
        is_true-le (address_of objects n) (address_of objects m) (omega arith)) in
        let down : nat_le (address_of objects n) (address_of objects m) ≡ true → nat_lt n (length t.prebuilts) ≡ true =
        λ q. (let le : address_of objects n ≤ address_of objects m = le-is_true (address_of objects n) (address_of objects m) q in
        is_true-lt n (length t.prebuilts) (not_behind m in_there le e)) in
        both_ways (nat_lt n (length t.prebuilts)) (nat_le (address_of objects n) (address_of objects m)) up down
        ∙ sym (ap (int_le (pos (address_of objects n))) last)
      where
        not_behind : (m : ℕ) → m < length objects → address_of objects n ≤ address_of objects m → length t.prebuilts ≡ suc m → n < length t.prebuilts
        not_behind m lt le q = by_order (ltb m n) refl
          where
            by_order : (b : Bool) → ltb m n ≡ b → n < length t.prebuilts
            by_order true g = (let more : words_before objects m < words_before objects n = before_less objects m n (lt-is_true m n g) lt in absurd (omega arith))
            by_order false g = (let less : n ≤ m = grind arith in omega arith)

-- ---- headers

int_nat : (a b : ℕ) → int_eq (pos a) (pos b) ≡ nat_eq a b
int_nat a b = grind (arith, nat_tests)

header_same : HeadersTell → (t : Table) (s : ℕ) (u : ShapeOf) → Contains t.shapes (Size s) → Contains t.shapes u → is_structure_of s u ≡ nat_eq (header_of t u) (header_of t (Size s))
header_same tell t s u cs cu = both_ways (is_structure_of s u) (nat_eq (header_of t u) (header_of t (Size s))) (up u) (λ e. down u (tell t u (Size s) cu cs (eqb-true (header_of t u) (header_of t (Size s)) e)))
  where
    up : (x : ShapeOf) → is_structure_of s x ≡ true → nat_eq (header_of t x) (header_of t (Size s)) ≡ true
    up (Size k) e = (let same : k ≡ s = eqb-true k s e in ap (λ j. nat_eq (header_of t (Size j)) (header_of t (Size s))) same ∙ itself (header_of t (Size s)))
      where
        itself : (a : ℕ) → nat_eq a a ≡ true
        itself a = grind arith
    up (Array a) e = absurd (cc)

    down : (x : ShapeOf) → x ≡ Size s → is_structure_of s x ≡ true
    down x e = ap (is_structure_of s) e ∙ itself s
      where
        itself : (a : ℕ) → nat_eq a a ≡ true
        itself a = grind arith

-- ---- bases

abbrev BaseSame : Table → ℕ → FieldRow → List Object → Arena → Option Value → Type 0
BaseSame t f row objects arena q =
    is_base_word (header_of t (Size row.size)) (last_of (prebuilt_addresses t)) row.immutable arena (option_map (word_of (address_of objects)) q) ≡ is_base t row.size f objects q

base_same : HeadersAreFound → HeadersTell → (t : Table) (f : ℕ) (row : FieldRow) (objects : List Object) (arena : Arena) → IsTableInRange t → Stands t objects arena → HasPrebuilts t objects → slice_get t.fields f ≡ Some row → (refs : List Value) → AreReferences (length objects) refs → (k : ℕ) → BaseSame t f row objects arena (slice_get refs k)
base_same found tell t f row objects arena r st h e refs are k = by_value (slice_get refs k) refl
  where
    by_value : (q : Option Value) → slice_get refs k ≡ q → BaseSame t f row objects arena q
    by_value None g = refl
    by_value (Some (v.Int z)) g = absurd (let no : false ≡ true = (all_at (IsOne (length objects)) refs k (v.Int z) are g).0 in cc)
    by_value (Some v.Null) g = refl
    by_value (Some (v.Obj n)) g =
        let there : n < length objects = (all_at (IsOne (length objects)) refs k (v.Obj n) are g).1 in
        let o = get_some objects n there in
        let sized : row.size < length t.sizes = all_at (λ (x : FieldRow). x.size < length t.sizes) t.fields f row r.fields_name_sizes e in
        let lawful = all_at (IsLawful t (length objects)) objects n o.0 st.lawful o.1 in
        let header : is_header (header_of t (Size row.size)) (arena_word arena (address_of objects n)) ≡ is_size row.size (slice_get objects n) =
        ap (is_header (header_of t (Size row.size))) (found t objects arena n o.0 st o.1)
        ∙ int_nat (header_of t o.0.of) (header_of t (Size row.size))
        ∙ sym (header_same tell t row.size o.0.of (size_there t row.size r sized) lawful.shape)
        ∙ sym (ap (is_size row.size) o.1) in
        let frozen : (row.immutable && int_le (pos (address_of objects n)) (last_of (prebuilt_addresses t))) ≡ is_frozen t (Field f) n =
        ap (λ b. row.immutable && b) (sym (prebuilt_same t objects n h there))
        ∙ commute row.immutable (nat_lt n (length t.prebuilts))
        ∙ ap (λ i. nat_lt n (length t.prebuilts) && i) (sym (ap immutable e)) in
        ap (λ b. b && not (row.immutable && int_le (pos (address_of objects n)) (last_of (prebuilt_addresses t)))) header
        ∙ ap (λ b. is_size row.size (slice_get objects n) && not b) frozen

-- ---- answers

store_same : HeadersAreFound → HeadersTell → (t : Table) (row : CallRow) (refs : List Value) (objects : List Object) (arena : Arena) → IsTableInRange t → Stands t objects arena → HasPrebuilts t objects → AreReferences (length objects) refs → (s : AnswerStore) → store_fits_word t row (words_of_refs objects refs) arena s ≡ store_fits t row refs objects s
store_same found tell t row refs objects arena r st h are s = by_field (slice_get t.fields s.field) refl
  where
    by_field : (q : Option FieldRow) → slice_get t.fields s.field ≡ q → store_fits_in t row (words_of_refs objects refs) arena s q ≡ store_fits_field t row refs objects s q
    by_field None e = refl
    by_field (Some field) e =
        let rest : Bool = is_declared row.writes s.field in
        let ours : Bool = is_base_word (header_of t (Size field.size)) (last_of (prebuilt_addresses t)) field.immutable arena (slice_get (words_of_refs objects refs) s.arg) in
        ap (λ n. may_be_stored t n field.kind s.value && ours && rest) (length-map refs (word_of (address_of objects)))
        ∙ ap (λ q. may_be_stored t (length refs) field.kind s.value && is_base_word (header_of t (Size field.size)) (last_of (prebuilt_addresses t)) field.immutable arena q && rest) (slice_get-map (word_of (address_of objects)) refs s.arg)
        ∙ ap (λ b. may_be_stored t (length refs) field.kind s.value && b && rest) (base_same found tell t s.field field objects arena r st h e refs are s.arg)

pub fits_alike : HeadersAreFound → HeadersTell → FitsAlike
fits_alike found tell t row refs objects arena a r st h are =
    ap (λ n. same_result (kind_given a.gives) row.result && is_named t n a.gives && list_all (store_fits_word t row (words_of_refs objects refs) arena) a.stores) (length-map refs (word_of (address_of objects)))
    ∙ ap (λ b. same_result (kind_given a.gives) row.result && is_named t (length refs) a.gives && b) (tests_same (store_fits_word t row (words_of_refs objects refs) arena) (store_fits t row refs objects) (store_same found tell t row refs objects arena r st h are) a.stores)
