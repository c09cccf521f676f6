-- Stores of an answer do in the arena what they do in the world.
use Rattle.std.proofs.Common.{◌≡◌, ℕ, zero, suc, ◌+◌, ◌*◌, ◌<◌, ◌≤◌, Bool, true, false, not, cond, ◌&&◌, eqb, ◌≢◌, Option, Some, None, List, [], ◌∷◌, ◌++◌, length, map, set, slice_get, refl, ap, sym, ◌∙◌, subst, arith, ℤ, pos}
use Rattle.std.specs.Prelude.{nat_lt, position, ◌==◌, is_some, option_and_then, if◌then◌else◌}
use Rattle.std.specs.Option.{option_map}
use Rattle.std.specs.List.{All, list_all}
use Rattle.std.proofs.Math.ListN.{length-set}
use Rattle.std.proofs.lemmas.Option.{same_Some, slice_get-map, slice_get_within}
use Rattle.std.proofs.lemmas.List.Quantifiers.{position-Some}
use Rattle.std.proofs.lemmas.Bool.{and_parts, eqb-true}
use Rattle.trace_ops.specs.Words.{IsWord}
use Rattle.trace_ops.specs.declared.trace.Kind.{Kind}
use Rattle.trace_ops.specs.declared.table.Table.{Table}
use Rattle.trace_ops.specs.declared.table.CallRow.{CallRow}
use Rattle.trace_ops.specs.declared.table.FieldRow.{FieldRow}
use Rattle.trace_ops.specs.declared.table.ShapeOf.{ShapeOf}
use Rattle.trace_ops.specs.declared.table.ShapeOf.TheVariants.{Size, Array}
use Rattle.trace_ops.specs.declared.piece.Spot.TheVariants.{Field}
use Rattle.trace_meaning.specs.declared.value.Value.{Value}
use Rattle.trace_meaning.specs.declared.value.Value.TheVariants as v
use Rattle.trace_meaning.specs.declared.value.Object.{Object}
use Rattle.trace_meaning.specs.declared.call.Give.{Give}
use Rattle.trace_meaning.specs.declared.call.Give.TheVariants as give
use Rattle.trace_meaning.specs.declared.call.AnswerStore.{AnswerStore}
use Rattle.trace_meaning.specs.Sound.{GivesWord}
use Rattle.trace_meaning.specs.World.{World}
use Rattle.trace_meaning.specs.Passing.{is_structure_of}
use Rattle.trace_meaning.specs.Objects.{fields_of, field_place, is_frozen, with_part, within, written, with_object, write_unfrozen, write}
use Rattle.trace_meaning.specs.Answers.{same_result, kind_given, is_named, is_new, is_size, is_base, may_be_stored, is_declared, store_fits_field, store_fits, value_stored, or_same, write_given, store_done, stores_done}
use Rattle.target_base.specs.Arena.{Arena, arena_word, with_arena_word}
use Rattle.arena_objects.specs.Layout.{words_ahead, address_of, part_offset, word_of}
use Rattle.arena_objects.specs.ReadBack.{or_zero}
use Rattle.arena_objects.specs.Standing.{IsPart, HasItsParts, IsLawful, Stands}
use Rattle.arena_objects.specs.Starting.{first_objects}
use Rattle.arena_objects.specs.Laws.{PartsAreFound, PartsAreWritten, WritesMoveNothing, WordsAreKept}
use Rattle.std.proofs.lemmas.List.Elements.{All-head, All-tail}
use Rattle.lists.proofs.Bools.{not_true}
use Rattle.lists.proofs.Alls.{all_at}
use Rattle.lists.proofs.Places.{get_some, get_set_same, get_set_other}
use Rattle.arena_world.specs.Prebuilt.{prebuilt_addresses, word_at, HasPrebuilts}
use Rattle.arena_world.specs.Answering.{given_word, field_offset, put_word, put_behind, put_in_field, store_put, stores_put}
use Rattle.arena_world.specs.Laws.{words_of_refs, IsOne, AreReferences}
use Rattle.arena_world.proofs.Firsts.{listed_word}
use Rattle.arena_world.proofs.Fitted.{lt-is_true, is_true-lt}

-- what is cited of objects in an arena
pub record Cited : Type 0 where
  pub found : PartsAreFound
  pub writes : PartsAreWritten
  pub moves : WritesMoveNothing
  pub keeps : WordsAreKept

-- ---- objects that are written

-- as many objects of the same shapes, at their addresses, stand
pub record Keeps (t : Table) (base now : List Object) (arena : Arena) : Type 0 where
  pub stands : Stands t now arena
  pub count : length now ≡ length base
  pub shapes : (n : ℕ) (o : Object) → slice_get base n ≡ Some o → (p : Object) × (slice_get now n ≡ Some p) × (p.of ≡ o.of)
  pub addresses : (n : ℕ) → address_of now n ≡ address_of base n

pub keeps_all : (t : Table) (base : List Object) (arena : Arena) → Stands t base arena → Keeps t base base arena
keeps_all t base arena st = record { stands = st; count = refl; shapes = λ n o e. (o, e, refl); addresses = λ n. refl }

-- ---- what is stored

-- the word of a stored value
pub stored_word : Cited → (t : Table) (base now : List Object) (arena : Arena) (refs : List Value) (z : ℤ) (g : Give) (x : Value) → HasPrebuilts t base → AreReferences (length base) refs → Keeps t base now arena → is_named t (length refs) g ≡ true → GivesWord g → value_stored refs g ≡ Some x → (given_word (prebuilt_addresses t) (words_of_refs base refs) z g ≡ word_of (address_of now) x) × IsPart (length now) x
stored_word k t base now arena refs z give.Nothing x h are s m w e = absurd (cc)
stored_word k t base now arena refs z (give.Int i) x h are s m w e =
    let same : v.Int i ≡ x = same_Some (v.Int i) x e in
    (ap (word_of (address_of now)) same, subst (IsPart (length now)) same w)
stored_word k t base now arena refs z give.Null x h are s m w e =
    let same : v.Null ≡ x = same_Some v.Null x e in
    (ap (word_of (address_of now)) same, subst (IsPart (length now)) same tt)
stored_word k t base now arena refs z (give.Arg n) x h are s m w e =
    let there : IsPart (length base) x = (all_at (IsOne (length base)) refs n x are e).1 in (
      ap or_zero (slice_get-map (word_of (address_of base)) refs n ∙ ap (option_map (word_of (address_of base))) e)
          ∙ sym (k.keeps base now x (λ j lt. s.addresses j) there),
      subst (λ c. IsPart c x) (sym s.count) there,
    )
stored_word k t base now arena refs z (give.Prebuilt n) x h are s m w e =
    let same : v.Obj n ≡ x = same_Some (v.Obj n) x e in
    let lt : n < length t.prebuilts = lt-is_true n (length t.prebuilts) m in (
      listed_word t n lt ∙ ap (λ a. pos a) (sym (h n lt).1 ∙ sym (s.addresses n)) ∙ ap (word_of (address_of now)) same,
      subst (IsPart (length now)) same (subst (λ c. n < c) (sym s.count) (h n lt).0),
    )
stored_word k t base now arena refs z (give.New n) x h are s m w e = absurd (cc)

-- ---- stores that fit

-- a store that fits, taken apart
pub record Fitting (t : Table) (refs : List Value) (objects : List Object) (s : AnswerStore) : Type 0 where
  pub row : FieldRow
  pub field : slice_get t.fields s.field ≡ Some row
  pub n : ℕ
  pub base : slice_get refs s.arg ≡ Some (v.Obj n)
  pub o : Object
  pub object : slice_get objects n ≡ Some o
  pub shape : o.of ≡ Size row.size
  pub frozen : is_frozen t (Field s.field) n ≡ false
  pub x : Value
  pub value : value_stored refs s.value ≡ Some x
  pub named : is_named t (length refs) s.value ≡ true

structure_is : (size : ℕ) (s : ShapeOf) → is_structure_of size s ≡ true → s ≡ Size size
structure_is size (Size k) e = ap Size (eqb-true k size e)
structure_is size (Array a) e = absurd (cc)

-- something is stored
value_there : (t : Table) (refs : List Value) (k : Kind) (g : Give) → same_result (kind_given g) (Some k) ≡ true → is_new g ≡ false → is_named t (length refs) g ≡ true → (x : Value) × (value_stored refs g ≡ Some x)
value_there t refs k give.Nothing r n m = absurd (cc)
value_there t refs k (give.Int z) r n m = (v.Int z, refl)
value_there t refs k give.Null r n m = (v.Null, refl)
value_there t refs k (give.Arg i) r n m = get_some refs i (lt-is_true i (length refs) m)
value_there t refs k (give.Prebuilt i) r n m = (v.Obj i, refl)
value_there t refs k (give.New i) r n m = absurd (cc)

pub fitting : (t : Table) (row : CallRow) (refs : List Value) (objects : List Object) (s : AnswerStore) → store_fits t row refs objects s ≡ true → Fitting t refs objects s
fitting t row refs objects s e = by_field (slice_get t.fields s.field) refl e
  where
    by_object : (field : FieldRow) → slice_get t.fields s.field ≡ Some field → (n : ℕ) → slice_get refs s.arg ≡ Some (v.Obj n) → (q : Option Object) → slice_get objects n ≡ q → is_size field.size q ≡ true → is_frozen t (Field s.field) n ≡ false → may_be_stored t (length refs) field.kind s.value ≡ true → Fitting t refs objects s
    by_object field f n b None g a z m = absurd (cc)
    by_object field f n b (Some o) g a z m =
        let rest = and_parts (same_result (kind_given s.value) (Some field.kind) && not (is_new s.value)) (is_named t (length refs) s.value) m in
        let kind = and_parts (same_result (kind_given s.value) (Some field.kind)) (not (is_new s.value)) rest.0 in
        let value = value_there t refs field.kind s.value kind.0 (not_true (is_new s.value) kind.1) rest.1 in
        record { row = field; field = f; n = n; base = b; o = o; object = g; shape = structure_is field.size o.of a; frozen = z; x = value.0; value = value.1; named = rest.1 }

    by_base : (field : FieldRow) → slice_get t.fields s.field ≡ Some field → (q : Option Value) → slice_get refs s.arg ≡ q → is_base t field.size s.field objects q ≡ true → may_be_stored t (length refs) field.kind s.value ≡ true → Fitting t refs objects s
    by_base field f None g b m = absurd (cc)
    by_base field f (Some (v.Int z)) g b m = absurd (cc)
    by_base field f (Some v.Null) g b m = absurd (cc)
    by_base field f (Some (v.Obj n)) g b m =
        let both = and_parts (is_size field.size (slice_get objects n)) (not (is_frozen t (Field s.field) n)) b in
        by_object field f n g (slice_get objects n) refl both.0 (not_true (is_frozen t (Field s.field) n) both.1) m

    by_field : (q : Option FieldRow) → slice_get t.fields s.field ≡ q → store_fits_field t row refs objects s q ≡ true → Fitting t refs objects s
    by_field None f h = absurd (cc)
    by_field (Some field) f h =
        let most = and_parts (may_be_stored t (length refs) field.kind s.value && is_base t field.size s.field objects (slice_get refs s.arg)) (is_declared row.writes s.field) h in
        let both = and_parts (may_be_stored t (length refs) field.kind s.value) (is_base t field.size s.field objects (slice_get refs s.arg)) most.0 in
        by_base field f (slice_get refs s.arg) refl both.1 both.0

-- ---- one store

-- the base of a store has this word
base_word : (t : Table) (base now : List Object) (arena : Arena) (refs : List Value) (i n : ℕ) → slice_get refs i ≡ Some (v.Obj n) → Keeps t base now arena → word_at (words_of_refs base refs) i ≡ pos (address_of now n)
base_word t base now arena refs i n e s =
    ap or_zero (slice_get-map (word_of (address_of base)) refs i ∙ ap (option_map (word_of (address_of base))) e)
    ∙ ap (λ a. pos a) (sym (s.addresses n))

-- what is written in the world
written_at : (t : Table) (f n i : ℕ) (p : Object) (x : Value) (w : World) → is_frozen t (Field f) n ≡ false → slice_get w.objects n ≡ Some p → field_place t p.of f ≡ Some i → nat_lt i (length p.parts) ≡ true → write t (Field f) (v.Obj n) x w ≡ Some (with_object n w (with_part p i x))
written_at t f n i p x w z e g l =
    ap (λ b. write_unfrozen b t (Field f) n x w) z
    ∙ ap (λ q. option_map (with_object n w) (option_and_then (written t (Field f) x) q)) e
    ∙ ap (λ q. option_map (with_object n w) (option_map (λ j. with_part p j x) (option_and_then (within p) q))) g
    ∙ ap (λ b. option_map (with_object n w) (option_map (λ j. with_part p j x) (cond b (Some i) None))) l

written_none : (t : Table) (f n : ℕ) (p : Object) (x : Value) (w : World) → is_frozen t (Field f) n ≡ false → slice_get w.objects n ≡ Some p → field_place t p.of f ≡ None → write t (Field f) (v.Obj n) x w ≡ None
written_none t f n p x w z e g =
    ap (λ b. write_unfrozen b t (Field f) n x w) z
    ∙ ap (λ q. option_map (with_object n w) (option_and_then (written t (Field f) x) q)) e
    ∙ ap (λ q. option_map (with_object n w) (option_map (λ j. with_part p j x) (option_and_then (within p) q))) g

-- where a word lies, it is written
put_there : (arena : Arena) (a : ℕ) (w z : ℤ) → arena_word arena a ≡ Some z → put_word a w arena ≡ with_arena_word a w arena
put_there arena a w z e = ap (λ q. if is_some q then with_arena_word a w arena else arena) e

-- another object of the shape in place of one
set_shapes : (base now : List Object) (n : ℕ) (p q : Object) → slice_get now n ≡ Some p → q.of ≡ p.of → ((m : ℕ) (o : Object) → slice_get base m ≡ Some o → (r : Object) × (slice_get now m ≡ Some r) × (r.of ≡ o.of)) → (m : ℕ) (o : Object) → slice_get base m ≡ Some o → (r : Object) × (slice_get (set now n q) m ≡ Some r) × (r.of ≡ o.of)
set_shapes base now n p q e s h m o g = by_place (eqb m n) refl
  where
    by_place : (b : Bool) → eqb m n ≡ b → (r : Object) × (slice_get (set now n q) m ≡ Some r) × (r.of ≡ o.of)
    by_place true c =
        let same : m ≡ n = eqb-true m n c in
        let old = h m o g in
        let here : old.0 ≡ p = same_Some old.0 p (sym old.1 ∙ ap (slice_get now) same ∙ e) in
        (q, ap (slice_get (set now n q)) same ∙ get_set_same now n p q e, s ∙ ap (λ (y : Object). y.of) (sym here) ∙ old.2)
    by_place false c =
        let old = h m o g in
        let other : m ≢ n = λ same. (let yes : eqb m n ≡ true = grind arith in absurd (let no : true ≡ false = sym yes ∙ c in cc)) in
        (old.0, get_set_other now n m q other ∙ old.1, old.2)

abbrev Stored : Table → List Object → List Value → AnswerStore → World → Arena → Type 0
Stored t base refs s w arena = Keeps t base (store_done t refs s w).objects (store_put t (words_of_refs base refs) s arena)

pub store_alike : Cited → (t : Table) (base : List Object) (refs : List Value) (s : AnswerStore) (w : World) (arena : Arena) → HasPrebuilts t base → AreReferences (length base) refs → Fitting t refs base s → GivesWord s.value → Keeps t base w.objects arena → Stored t base refs s w arena
store_alike k t base refs s w arena h are f word keeps = by_place (field_place t (Size f.row.size) s.field) refl
  where
    -- the object now
    now : (p : Object) × (slice_get w.objects f.n ≡ Some p) × (p.of ≡ f.o.of)
    now = keeps.shapes f.n f.o f.object

    shape : now.0.of ≡ Size f.row.size
    shape = now.2 ∙ f.shape

    -- both sides, as they are
    done : store_done t refs s w ≡ or_same w (write t (Field s.field) (v.Obj f.n) f.x w)
    done = ap (λ q. or_same w (write_given t s.field w q (value_stored refs s.value))) f.base ∙ ap (λ q. or_same w (write_given t s.field w (Some (v.Obj f.n)) q)) f.value

    put : store_put t (words_of_refs base refs) s arena ≡ put_in_field (option_map (part_offset (Size f.row.size)) (field_place t (Size f.row.size) s.field)) (pos (address_of w.objects f.n)) (word_of (address_of w.objects) f.x) arena
    put =
        ap (λ q. put_in_field (field_offset t s.field q) (word_at (words_of_refs base refs) s.arg) (given_word (prebuilt_addresses t) (words_of_refs base refs) (pos 0) s.value) arena) f.field
        ∙ ap (λ b. put_in_field (option_map (part_offset (Size f.row.size)) (field_place t (Size f.row.size) s.field)) b (given_word (prebuilt_addresses t) (words_of_refs base refs) (pos 0) s.value) arena) (base_word t base w.objects arena refs s.arg f.n f.base keeps)
        ∙ ap (λ z. put_in_field (option_map (part_offset (Size f.row.size)) (field_place t (Size f.row.size) s.field)) (pos (address_of w.objects f.n)) z arena) (stored_word k t base w.objects arena refs (pos 0) s.value f.x h are keeps f.named word f.value).0

    by_place : (q : Option ℕ) → field_place t (Size f.row.size) s.field ≡ q → Stored t base refs s w arena
    by_place None e =
        let none : store_done t refs s w ≡ w = done ∙ ap (or_same w) (written_none t s.field f.n now.0 f.x w f.frozen now.1 (ap (λ u. field_place t u s.field) shape ∙ e)) in
        let same : store_put t (words_of_refs base refs) s arena ≡ arena = put ∙ ap (λ q. put_in_field (option_map (part_offset (Size f.row.size)) q) (pos (address_of w.objects f.n)) (word_of (address_of w.objects) f.x) arena) e in
        subst (λ (u : World). Keeps t base u.objects (store_put t (words_of_refs base refs) s arena)) (sym none) (subst (Keeps t base w.objects) (sym same) keeps)
    by_place (Some i) e =
        let p = now.0 in
        let lawful = all_at (IsLawful t (length w.objects)) w.objects f.n p keeps.stands.lawful now.1 in
        let listed : i < length (fields_of t f.row.size) = (position-Some (λ g. g == s.field) (fields_of t f.row.size) i 0 e).0 in
        let many : length p.parts ≡ length (fields_of t f.row.size) = subst (λ u. HasItsParts t u (length p.parts)) shape lawful.extent in
        let lt : i < length p.parts = omega arith in
        let there : field_place t p.of s.field ≡ Some i = ap (λ u. field_place t u s.field) shape ∙ e in
        let one : store_done t refs s w ≡ with_object f.n w (with_part p i f.x) =
        done ∙ ap (or_same w) (written_at t s.field f.n i p f.x w f.frozen now.1 there (is_true-lt i (length p.parts) lt)) in
        let old = get_some p.parts i lt in
        let offset : part_offset (Size f.row.size) i ≡ part_offset p.of i = ap (λ u. part_offset u i) (sym shape) in
        let same : store_put t (words_of_refs base refs) s arena ≡ with_arena_word (address_of w.objects f.n + part_offset p.of i) (word_of (address_of w.objects) f.x) arena =
        put
        ∙ ap (λ q. put_in_field (option_map (part_offset (Size f.row.size)) q) (pos (address_of w.objects f.n)) (word_of (address_of w.objects) f.x) arena) e
        ∙ ap (λ d. put_word (address_of w.objects f.n + d) (word_of (address_of w.objects) f.x) arena) offset
        ∙ put_there arena (address_of w.objects f.n + part_offset p.of i) (word_of (address_of w.objects) f.x) (word_of (address_of w.objects) old.0) (k.found t w.objects arena f.n i p old.0 keeps.stands now.1 old.1) in
        let part : IsPart (length w.objects) f.x = (stored_word k t base w.objects arena refs (pos 0) s.value f.x h are keeps f.named word f.value).1 in
        let all : Keeps t base (set w.objects f.n (with_part p i f.x)) (with_arena_word (address_of w.objects f.n + part_offset p.of i) (word_of (address_of w.objects) f.x) arena) =
        record {
          stands = k.writes t w.objects arena f.n i p f.x keeps.stands now.1 lt part;
          count = length-set w.objects f.n (with_part p i f.x) ∙ keeps.count;
          shapes = set_shapes base w.objects f.n p (with_part p i f.x) now.1 refl keeps.shapes;
          addresses = λ m. k.moves w.objects f.n i m p f.x now.1 ∙ keeps.addresses m;
        } in
        subst (λ (u : World). Keeps t base u.objects (store_put t (words_of_refs base refs) s arena)) (sym one) (subst (Keeps t base (set w.objects f.n (with_part p i f.x))) (sym same) all)

-- ---- stores in order

pub stores_alike : Cited → (t : Table) (row : CallRow) (base first : List Object) (refs : List Value) (ss : List AnswerStore) (w : World) (arena : Arena) → HasPrebuilts t base → AreReferences (length base) refs → ((n : ℕ) (o : Object) → slice_get first n ≡ Some o → slice_get base n ≡ Some o) → list_all (store_fits t row refs first) ss ≡ true → All (λ (s : AnswerStore). GivesWord s.value) ss → Keeps t base w.objects arena → Keeps t base (stores_done t refs ss w).objects (stores_put t (words_of_refs base refs) ss arena)
stores_alike k t row base first refs [] w arena h are more e words keeps = keeps
stores_alike k t row base first refs (s ∷ ss) w arena h are more e words keeps =
    let both = and_parts (store_fits t row refs first s) (list_all (store_fits t row refs first) ss) e in
    let f = fitting t row refs first s both.0 in
    let g : Fitting t refs base s = record { row = f.row; field = f.field; n = f.n; base = f.base; o = f.o; object = more f.n f.o f.object; shape = f.shape; frozen = f.frozen; x = f.x; value = f.value; named = f.named } in
    let one = store_alike k t base refs s w arena h are g (All-head (λ (x : AnswerStore). GivesWord x.value) s ss words) keeps in
    stores_alike k t row base first refs ss (store_done t refs s w) (store_put t (words_of_refs base refs) s arena) h are more both.1 (All-tail (λ (x : AnswerStore). GivesWord x.value) s ss words) one
