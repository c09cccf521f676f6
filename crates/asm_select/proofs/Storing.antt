-- The stores that the host makes for an answer, into objects that stand in the arena.
use Rattle.std.proofs.Common.{◌≡◌, ℕ, zero, suc, ◌+◌, ◌<◌, ◌≤◌, Bool, true, false, not, ◌&&◌, ◌||◌, cond, nat_eq, ℤ, pos, Option, Some, None, List, [], ◌∷◌, length, map, refl, sym, ap, ◌∙◌, subst, arith}
use Rattle.std.specs.Prelude.{slice_get, slice_set, slice_index_or, position, ◌==◌, option_and_then}
use Rattle.std.specs.Option.{option_map}
use Rattle.std.specs.List.{All, AllZip, list_any, list_all, position_or_len}
use Rattle.std.proofs.lemmas.Bool.{eqb-true, eq-eqb, lt-ltb, ltb-true}
use Rattle.std.proofs.lemmas.Option.{get_or_from_slice_get}
use Rattle.lists.proofs.Alls.{all_at}
use Rattle.lists.proofs.Options.{some_same}
use Rattle.std.proofs.lemmas.List.{length-set}
use Rattle.std.proofs.lemmas.List.Elements.{All-head, All-tail}
use Rattle.lists.proofs.Places.{get_some, get_set_same, get_set_other}
use Rattle.lists.proofs.Zips.{zip_second}
use Rattle.trace_ops.specs.declared.table.Table.{Table}
use Rattle.trace_ops.specs.declared.table.CallRow.{CallRow}
use Rattle.trace_ops.specs.declared.table.FieldRow.{FieldRow}
use Rattle.trace_ops.specs.declared.table.ShapeOf.{ShapeOf}
use Rattle.trace_ops.specs.declared.table.ShapeOf.TheVariants.{Size, Array}
use Rattle.trace_ops.specs.declared.trace.Kind.{Kind}
use Rattle.trace_ops.specs.declared.trace.Kind.TheVariants as kind
use Rattle.trace_ops.specs.declared.piece.Spot.TheVariants as spot
use Rattle.trace_ops.specs.InRange.{IsTableInRange, places_from}
use Rattle.trace_meaning.specs.declared.value.Value.{Value}
use Rattle.trace_meaning.specs.declared.value.Value.TheVariants as v
use Rattle.trace_meaning.specs.declared.value.Object.{Object}
use Rattle.trace_meaning.specs.declared.call.Give.{Give}
use Rattle.trace_meaning.specs.declared.call.Give.TheVariants as give
use Rattle.trace_meaning.specs.declared.call.AnswerStore.{AnswerStore}
use Rattle.trace_meaning.specs.Answers.{or_same, kind_given, same_result, is_named, is_new, is_size, is_base, may_be_stored, is_declared, store_fits, store_fits_field, value_stored, write_given, store_done, stores_done}
use Rattle.trace_meaning.specs.Legs.{On}
use Rattle.trace_meaning.specs.Objects.{place_of, fields_of, listed, with_part, within, written, is_frozen, write_unfrozen, with_object}
use Rattle.trace_meaning.specs.Passing.{is_structure_of}
use Rattle.trace_meaning.specs.Sound.{GivesWord}
use Rattle.trace_meaning.specs.Values.{kind_of_value, references}
use Rattle.trace_meaning.specs.World.{World}
use Rattle.opt_meaning.specs.Step.{Opt}
use Rattle.target_base.specs.Arena.{Arena, with_arena_word}
use Rattle.target_base.specs.declared.place.Place.{Place}
use Rattle.arena_objects.specs.Layout.{address_of, word_of}
use Rattle.arena_objects.specs.Standing.{IsPart, IsLawful, HasItsParts, Stands}
use Rattle.arena_objects.specs.ReadBack.{reference_to}
use Rattle.arena_objects.specs.Spots.{spot_offset}
use Rattle.arena_objects.specs.Walk.{object_at}
use Rattle.arena_objects.specs.Laws.{SpotsAreWritten, ReferencesAreRead}
use Rattle.x64_machine.specs.State.{State}
use Rattle.asm_select.specs.Valued.{value}
use Rattle.asm_select.specs.Reached.{PrebuiltsStand}
use Rattle.asm_select.specs.Ended.{AreParts, PlacesStand}
use Rattle.asm_select.specs.Answering.{reference_words, values_read, address_from, word_given, store_made, stores_made}

-- ---- booleans

both_true : (a b : Bool) → (a && b) ≡ true → (a ≡ true) × (b ≡ true)
both_true true b h = (refl, h)
both_true false b h = absurd (cc)

any_later : (a b : Bool) → b ≡ true → (a || b) ≡ true
any_later true b h = refl
any_later false b h = h

pub on_same : (x y : Opt) → On x ≡ On y → x ≡ y
on_same x y e = cc

-- ---- a field lies in the objects of its size

first_within : {X : Type 0} (p : X → Bool) (xs : List X) → list_any p xs ≡ true → position_or_len p xs < length xs
first_within p [] h = absurd (cc)
first_within {X} p (x ∷ xs) h = which (first_within p xs) (p x) h
  where
    which : (list_any p xs ≡ true → position_or_len p xs < length xs) → (b : Bool) → (b || list_any p xs) ≡ true → cond (not b) (1 + position_or_len p xs) 0 < suc (length xs)
    which later true g = omega arith
    which later false g = (let f = later g in omega (arith, f))

has_position : {X : Type 0} (p : X → Bool) (xs : List X) → list_any p xs ≡ true → (i : ℕ) × (position p xs ≡ Some i) × (i < length xs)
has_position p xs h =
    let n = position_or_len p xs in
    let lt = first_within p xs h in
    (n, ap (λ (b : Bool). cond b (Some n) None) (lt-ltb n (length xs) lt), lt)

is_listed : {X : Type 0} (test : X → Bool) (b j : ℕ) (xs : List X) (y : X) → slice_get xs j ≡ Some y → test y ≡ true → list_any (λ g. g == (b + j)) (places_from test b xs) ≡ true
unfolding places_from
is_listed test b j [] y e h = absurd (cc)
is_listed {X} test b zero (x ∷ xs) y e h =
    let here : test x ≡ true = ap test (some_same e) ∙ h in
    let n : b + 0 ≡ b = omega arith in
    subst (λ (q : Bool). list_any (λ g. g == (b + 0)) (cond q (b ∷ places_from test (b + 1) xs) (places_from test (b + 1) xs)) ≡ true) (sym here)
    (ap (λ (q : Bool). q || list_any (λ g. g == (b + 0)) (places_from test (b + 1) xs)) (eq-eqb b (b + 0) (sym n)))
is_listed {X} test b (suc j) (x ∷ xs) y e h =
    let n : b + 1 + j ≡ b + suc j = omega arith in
    which (subst (λ (k : ℕ). list_any (λ g. g == k) (places_from test (b + 1) xs) ≡ true) n (is_listed test (b + 1) j xs y e h)) (test x)
  where
    which : list_any (λ g. g == (b + suc j)) (places_from test (b + 1) xs) ≡ true → (q : Bool) → list_any (λ g. g == (b + suc j)) (cond q (b ∷ places_from test (b + 1) xs) (places_from test (b + 1) xs)) ≡ true
    which rest true = any_later (b == (b + suc j)) (list_any (λ g. g == (b + suc j)) (places_from test (b + 1) xs)) rest
    which rest false = rest

field_lies : (t : Table) (size f : ℕ) (row : FieldRow) → IsTableInRange t → size < length t.sizes → slice_get t.fields f ≡ Some row → row.size ≡ size → (i : ℕ) × (position (λ g. g == f) (fields_of t size) ≡ Some i) × (i < length (fields_of t size))
field_lies t size f row r lt e same =
    let s = get_some t.sizes size lt in
    let fields : fields_of t size ≡ places_from (λ (x : FieldRow). nat_eq x.size size) 0 t.fields = ap listed s.1 ∙ r.sizes_list_their_fields size s.0 s.1 in
    let none : 0 + f ≡ f = omega arith in
    has_position (λ g. g == f) (fields_of t size)
    (ap (list_any (λ g. g == f)) fields ∙ subst (λ (k : ℕ). list_any (λ g. g == k) (places_from (λ (x : FieldRow). nat_eq x.size size) 0 t.fields) ≡ true) none (is_listed (λ (x : FieldRow). nat_eq x.size size) 0 f t.fields row e (eq-eqb row.size size same)))

-- ---- the words of arguments

-- words of values, where objects have these addresses
abbrev pub AreWords : (ℕ → ℕ) → List ℤ → List Value → Type 0
AreWords at zs vs = AllZip (λ (z : ℤ) (x : Value). z ≡ word_of at x) zs vs

pub references_stand : (at : ℕ → ℕ) (u : State) (ps : List Place) (vs : List Value) → PlacesStand at u ps vs → AreWords at (reference_words (map kind_of_value vs) (map (value u) ps)) (references vs)
references_stand at u [] [] h = tt
references_stand at u [] (x ∷ vs) h = absurd h
references_stand at u (p ∷ ps) [] h = absurd h
references_stand at u (p ∷ ps) (v.Int z ∷ vs) h = references_stand at u ps vs h.1
references_stand at u (p ∷ ps) (v.Null ∷ vs) h = (h.0, references_stand at u ps vs h.1)
references_stand at u (p ∷ ps) (v.Obj n ∷ vs) h = (h.0, references_stand at u ps vs h.1)

pub references_are_parts : (n : ℕ) (vs : List Value) → AreParts n vs → AreParts n (references vs)
references_are_parts n [] h = tt
references_are_parts n (v.Int z ∷ vs) h = references_are_parts n vs h.1
references_are_parts n (v.Null ∷ vs) h = (tt, references_are_parts n vs h.1)
references_are_parts n (v.Obj k ∷ vs) h = (h.0, references_are_parts n vs h.1)

pub part_at : (n : ℕ) (xs : List Value) (i : ℕ) (x : Value) → AreParts n xs → slice_get xs i ≡ Some x → IsPart n x
part_at n [] i x h e = absurd (cc)
part_at n (y ∷ ys) zero x h e = subst (IsPart n) (some_same e) h.0
part_at n (y ∷ ys) (suc i) x h e = part_at n ys i x h.1 e

-- the word at a place is that of the value there
pub word_at : (at : ℕ → ℕ) (zs : List ℤ) (xs : List Value) (i : ℕ) (x : Value) → AreWords at zs xs → slice_get xs i ≡ Some x → slice_index_or zs i (pos 0) ≡ word_of at x
word_at at zs xs i x h e =
    let z = zip_second (λ (z : ℤ) (y : Value). z ≡ word_of at y) zs xs h i x e in
    get_or_from_slice_get zs i z.0 (pos 0) z.1 ∙ z.2

pub all_read : ReferencesAreRead → (t : Table) (objects : List Object) (arena : Arena) (u : State) (ps : List Place) (vs : List Value) → Stands t objects arena → PlacesStand (address_of objects) u ps vs → AreParts (length objects) vs → values_read t arena (map kind_of_value vs) (map (value u) ps) ≡ vs
all_read reads t objects arena u [] [] st h p = refl
all_read reads t objects arena u [] (x ∷ vs) st h p = absurd h
all_read reads t objects arena u (q ∷ ps) [] st h p = absurd h
all_read reads t objects arena u (q ∷ ps) (v.Int z ∷ vs) st h p =
    ap (λ (y : ℤ). v.Int y ∷ values_read t arena (map kind_of_value vs) (map (value u) ps)) h.0 ∙ ap (λ (l : List Value). v.Int z ∷ l) (all_read reads t objects arena u ps vs st h.1 p.1)
all_read reads t objects arena u (q ∷ ps) (v.Null ∷ vs) st h p =
    ap (λ (y : ℤ). reference_to (object_at t arena y) ∷ values_read t arena (map kind_of_value vs) (map (value u) ps)) h.0
    ∙ ap (λ (y : Value). y ∷ values_read t arena (map kind_of_value vs) (map (value u) ps)) (reads t objects arena v.Null st refl tt)
    ∙ ap (λ (l : List Value). v.Null ∷ l) (all_read reads t objects arena u ps vs st h.1 p.1)
all_read reads t objects arena u (q ∷ ps) (v.Obj n ∷ vs) st h p =
    ap (λ (y : ℤ). reference_to (object_at t arena y) ∷ values_read t arena (map kind_of_value vs) (map (value u) ps)) h.0
    ∙ ap (λ (y : Value). y ∷ values_read t arena (map kind_of_value vs) (map (value u) ps)) (reads t objects arena (v.Obj n) st refl p.0)
    ∙ ap (λ (l : List Value). v.Obj n ∷ l) (all_read reads t objects arena u ps vs st h.1 p.1)

-- ---- objects that only change their parts

-- the objects of a moment and a later one, which stand in the arena
pub record Later (t : Table) (old new : List Object) (arena : Arena) : Type 0 where
  pub stands : Stands t new arena
  pub more : length old ≤ length new
  pub places : (n : ℕ) → n < length old → address_of new n ≡ address_of old n
  pub shapes : (n : ℕ) (o : Object) → slice_get old n ≡ Some o → (p : Object) × (slice_get new n ≡ Some p) × (p.of ≡ o.of)

part_later : (m n : ℕ) (x : Value) → m ≤ n → IsPart m x → IsPart n x
part_later m n (v.Int z) le h = h
part_later m n v.Null le h = tt
part_later m n (v.Obj k) le h = omega (arith, h, le)

word_later : (t : Table) (old new : List Object) (arena : Arena) (x : Value) → Later t old new arena → IsPart (length old) x → word_of (address_of new) x ≡ word_of (address_of old) x
word_later t old new arena (v.Int z) l h = refl
word_later t old new arena v.Null l h = refl
word_later t old new arena (v.Obj n) l h = ap pos (l.places n h)

apart : (i j : ℕ) → nat_eq i j ≡ false → i ≡ j → ⊥
apart i j h z = (let y : nat_eq i j ≡ true = eq-eqb i j z in cc)

set_shape : (xs : List Object) (n m : ℕ) (o p q : Object) → slice_get xs n ≡ Some p → q.of ≡ p.of → slice_get xs m ≡ Some o → (y : Object) × (slice_get (slice_set xs n q) m ≡ Some y) × (y.of ≡ o.of)
set_shape xs n m o p q e same f = which (nat_eq m n) refl
  where
    which : (b : Bool) → nat_eq m n ≡ b → (y : Object) × (slice_get (slice_set xs n q) m ≡ Some y) × (y.of ≡ o.of)
    which true h =
        let z : m ≡ n = eqb-true m n h in
        let one : p ≡ o = some_same (sym e ∙ ap (slice_get xs) (sym z) ∙ f) in
        (q, ap (slice_get (slice_set xs n q)) z ∙ get_set_same xs n p q e, same ∙ ap (λ (y : Object). y.of) one)
    which false h = (o, get_set_other xs n m q (λ z. apart m n h z) ∙ f, refl)

-- ---- one store

-- what a store that fits is
pub record Fitting (t : Table) (refs : List Value) (objects : List Object) (s : AnswerStore) : Type 0 where
  pub field : FieldRow
  pub is_field : slice_get t.fields s.field ≡ Some field
  pub base : ℕ
  pub is_base : slice_get refs s.arg ≡ Some (v.Obj base)
  pub object : Object
  pub is_object : slice_get objects base ≡ Some object
  pub shape : object.of ≡ Size field.size
  pub unfrozen : is_frozen t (spot.Field s.field) base ≡ false
  pub value : Value
  pub is_value : value_stored refs s.value ≡ Some value
  pub named : is_named t (length refs) s.value ≡ true

not_not : (b : Bool) → not b ≡ true → b ≡ false
not_not true h = absurd (cc)
not_not false h = refl

structure_of : (size : ℕ) (s : ShapeOf) → is_structure_of size s ≡ true → s ≡ Size size
structure_of size (Size k) h = ap Size (eqb-true k size h)
structure_of size (Array k) h = absurd (cc)

stored_value : (t : Table) (refs : List Value) (k : Kind) (g : Give) → may_be_stored t (length refs) k g ≡ true → (x : Value) × (value_stored refs g ≡ Some x)
stored_value t refs kind.Int give.Nothing h = absurd (cc)
stored_value t refs kind.Ref give.Nothing h = absurd (cc)
stored_value t refs k (give.Int z) h = (v.Int z, refl)
stored_value t refs k give.Null h = (v.Null, refl)
stored_value t refs kind.Int (give.Arg j) h = absurd (cc)
stored_value t refs kind.Ref (give.Arg j) h = get_some refs j (ltb-true j (length refs) h)
stored_value t refs k (give.Prebuilt j) h = (v.Obj j, refl)
stored_value t refs kind.Int (give.New j) h = absurd (cc)
stored_value t refs kind.Ref (give.New j) h = absurd (cc)

store_is : (t : Table) (row : CallRow) (refs : List Value) (objects : List Object) (s : AnswerStore) → store_fits t row refs objects s ≡ true → Fitting t refs objects s
store_is t row refs objects s h = by_field (slice_get t.fields s.field) refl h
  where
    by_object : (field : FieldRow) (base : ℕ) (x : Value) (q : Option Object) → is_named t (length refs) s.value ≡ true → slice_get t.fields s.field ≡ Some field → slice_get refs s.arg ≡ Some (v.Obj base) → value_stored refs s.value ≡ Some x → slice_get objects base ≡ q → (is_size field.size q && not (is_frozen t (spot.Field s.field) base)) ≡ true → Fitting t refs objects s
    by_object field base x None n ef eb ev eo g = absurd (cc)
    by_object field base x (Some o) n ef eb ev eo g =
        let b = both_true (is_structure_of field.size o.of) (not (is_frozen t (spot.Field s.field) base)) g in
        record {
          field = field;
          is_field = ef;
          base = base;
          is_base = eb;
          object = o;
          is_object = eo;
          shape = structure_of field.size o.of b.0;
          unfrozen = not_not (is_frozen t (spot.Field s.field) base) b.1;
          value = x;
          is_value = ev;
          named = n;
        }

    by_base : (field : FieldRow) (x : Value) (q : Option Value) → is_named t (length refs) s.value ≡ true → slice_get t.fields s.field ≡ Some field → value_stored refs s.value ≡ Some x → slice_get refs s.arg ≡ q → is_base t field.size s.field objects q ≡ true → Fitting t refs objects s
    by_base field x None n ef ev eb g = absurd (cc)
    by_base field x (Some (v.Int z)) n ef ev eb g = absurd (cc)
    by_base field x (Some v.Null) n ef ev eb g = absurd (cc)
    by_base field x (Some (v.Obj base)) n ef ev eb g = by_object field base x (slice_get objects base) n ef eb ev refl g

    parts : (a b d : Bool) → (a && b && d) ≡ true → (a ≡ true) × (b ≡ true) × (d ≡ true)
    parts true true d g = (refl, refl, g)
    parts true false d g = absurd (cc)
    parts false true d g = absurd (cc)
    parts false false d g = absurd (cc)

    by_field : (q : Option FieldRow) → slice_get t.fields s.field ≡ q → store_fits_field t row refs objects s q ≡ true → Fitting t refs objects s
    by_field None ef g = absurd (cc)
    by_field (Some field) ef g =
        let three = parts (may_be_stored t (length refs) field.kind s.value) (is_base t field.size s.field objects (slice_get refs s.arg)) (is_declared row.writes s.field) g in
        let named = parts (same_result (kind_given s.value) (Some field.kind)) (not (is_new s.value)) (is_named t (length refs) s.value) three.0 in
        let x = stored_value t refs field.kind s.value three.0 in
        by_base field x.0 (slice_get refs s.arg) named.2 ef x.1 refl three.1

-- the objects that there were are among those behind the new one, where they were
pub record Kept (t : Table) (old mid : List Object) : Type 0 where
  pub prebuilts : PrebuiltsStand t old
  pub more : length old ≤ length mid
  pub places : (n : ℕ) → n < length old → address_of mid n ≡ address_of old n
  pub objects : (n : ℕ) (o : Object) → slice_get old n ≡ Some o → slice_get mid n ≡ Some o

word_kept : (t : Table) (old mid : List Object) (x : Value) → Kept t old mid → IsPart (length old) x → word_of (address_of mid) x ≡ word_of (address_of old) x
word_kept t old mid (v.Int z) k h = refl
word_kept t old mid v.Null k h = refl
word_kept t old mid (v.Obj n) k h = ap pos (k.places n h)

-- a value of the moment before has the same word
pub word_is : (t : Table) (old mid new : List Object) (arena : Arena) (x : Value) → Kept t old mid → Later t mid new arena → IsPart (length old) x → IsPart (length new) x × (word_of (address_of old) x ≡ word_of (address_of new) x)
word_is t old mid new arena x k l h =
    let h2 = part_later (length old) (length mid) x k.more h in
    (part_later (length mid) (length new) x l.more h2, sym (word_later t mid new arena x l h2 ∙ word_kept t old mid x k h))

-- the word that the host stores is that of the value
stored_word : (t : Table) (old mid new : List Object) (arena : Arena) (refs : List Value) (zs : List ℤ) (g : Give) (x : Value) → Kept t old mid → Later t mid new arena → AreParts (length old) refs → AreWords (address_of old) zs refs → GivesWord g → is_named t (length refs) g ≡ true → value_stored refs g ≡ Some x
    → IsPart (length new) x × (word_given t zs 0 g ≡ word_of (address_of new) x)
stored_word t old mid new arena refs zs give.Nothing x k l parts words w n e = absurd (cc)
stored_word t old mid new arena refs zs (give.Int z) x k l parts words w n e =
    let same : v.Int z ≡ x = some_same e in
    (subst (IsPart (length new)) same w, ap (word_of (address_of new)) same)
stored_word t old mid new arena refs zs give.Null x k l parts words w n e =
    let same : v.Null ≡ x = some_same e in
    (subst (IsPart (length new)) same tt, ap (word_of (address_of new)) same)
stored_word t old mid new arena refs zs (give.Arg j) x k l parts words w n e =
    let z = word_is t old mid new arena x k l (part_at (length old) refs j x parts e) in
    (z.0, word_at (address_of old) zs refs j x words e ∙ z.1)
stored_word t old mid new arena refs zs (give.Prebuilt j) x k l parts words w n e =
    let same : v.Obj j ≡ x = some_same e in
    let p = k.prebuilts j (ltb-true j (length t.prebuilts) n) in
    let z = word_is t old mid new arena (v.Obj j) k l p.0 in
    (subst (IsPart (length new)) same z.0, ap pos (sym p.1) ∙ z.1 ∙ ap (word_of (address_of new)) same)
stored_word t old mid new arena refs zs (give.New j) x k l parts words w n e = absurd (cc)

-- the write of a spot of an object that is there
writes : (t : Table) (field n i : ℕ) (x : Value) (p : Object) (w : World) → is_frozen t (spot.Field field) n ≡ false → slice_get w.objects n ≡ Some p → written t (spot.Field field) x p ≡ Some (with_part p i x) → write_given t field w (Some (v.Obj n)) (Some x) ≡ Some (with_object n w (with_part p i x))
writes t field n i x p w free e f =
    ap (λ (b : Bool). write_unfrozen b t (spot.Field field) n x w) free
    ∙ ap (λ (o : Option Object). option_map (with_object n w) (option_and_then (written t (spot.Field field) x) o)) e
    ∙ ap (option_map (with_object n w)) f

field_written : (t : Table) (objects : ℕ) (field size : ℕ) (row : FieldRow) (x : Value) (p : Object) → IsTableInRange t → IsLawful t objects p → p.of ≡ Size size → slice_get t.fields field ≡ Some row → row.size ≡ size → (i : ℕ) × (written t (spot.Field field) x p ≡ Some (with_part p i x))
field_written t objects field size row x p r lawful of e same =
    let named : size < length t.sizes = subst (λ (s : ℕ). s < length t.sizes) same (all_at (λ (f : FieldRow). f.size < length t.sizes) t.fields field row r.fields_name_sizes e) in
    let f = field_lies t size field row r named e same in
    let long : length p.parts ≡ length (fields_of t size) = subst (λ (s : ShapeOf). HasItsParts t s (length p.parts)) of lawful.extent in
    let inside : f.0 < length p.parts = omega (arith, long, f.2) in (
      f.0,
      ap (λ (s : ShapeOf). option_map (λ (i : ℕ). with_part p i x) (option_and_then (within p) (place_of t s (spot.Field field)))) of
          ∙ ap (λ (o : Option ℕ). option_map (λ (i : ℕ). with_part p i x) (option_and_then (within p) o)) f.1
          ∙ ap (λ (b : Bool). option_map (λ (i : ℕ). with_part p i x) (cond b (Some f.0) None)) (lt-ltb f.0 (length p.parts) inside),
    )

one_stored : SpotsAreWritten → (t : Table) (old mid : List Object) (w : World) (arena : Arena) (refs : List Value) (zs : List ℤ) (s : AnswerStore) → IsTableInRange t → Kept t old mid → Later t mid w.objects arena → AreParts (length old) refs → AreWords (address_of old) zs refs → GivesWord s.value → Fitting t refs old s → Later t mid (store_done t refs s w).objects (store_made t zs s arena)
one_stored spots t old mid w arena refs zs s r k l parts words gives f =
    let now = l.shapes f.base f.object (k.objects f.base f.object f.is_object) in
    let p = now.0 in
    let lawful = all_at (IsLawful t (length w.objects)) w.objects f.base p l.stands.lawful now.1 in
    let place = field_written t (length w.objects) s.field f.field.size f.field f.value p r lawful (now.2 ∙ f.shape) f.is_field refl in
    let value = stored_word t old mid w.objects arena refs zs s.value f.value k l parts words gives f.named f.is_value in
    let done : store_done t refs s w ≡ with_object f.base w (with_part p place.0 f.value) =
    ap (λ (o : Option Value). or_same w (write_given t s.field w o (value_stored refs s.value))) f.is_base
    ∙ ap (λ (o : Option Value). or_same w (write_given t s.field w (Some (v.Obj f.base)) o)) f.is_value
    ∙ ap (or_same w) (writes t s.field f.base place.0 f.value p w f.unfrozen now.1 place.1) in
    let spot_written = spots t w.objects arena (spot.Field s.field) f.base p (with_part p place.0 f.value) f.value r.sizes_list_their_fields l.stands value.0 now.1 place.1 in
    let base_part = part_at (length old) refs s.arg (v.Obj f.base) parts f.is_base in
    let base = word_at (address_of old) zs refs s.arg (v.Obj f.base) words f.is_base ∙ (word_is t old mid w.objects arena (v.Obj f.base) k l base_part).1 in
    let made : store_made t zs s arena ≡ with_arena_word (address_of w.objects f.base + spot_offset t (spot.Field s.field)) (word_of (address_of w.objects) f.value) arena =
    ap (λ (z : ℤ). with_arena_word (address_from z + spot_offset t (spot.Field s.field)) (word_given t zs 0 s.value) arena) base
    ∙ ap (λ (z : ℤ). with_arena_word (address_of w.objects f.base + spot_offset t (spot.Field s.field)) z arena) value.1 in
    let after = slice_set w.objects f.base (with_part p place.0 f.value) in
    let long : length after ≡ length w.objects = length-set w.objects f.base (with_part p place.0 f.value) in
    subst (λ (u : World). Later t mid u.objects (store_made t zs s arena)) (sym done)
    (subst (Later t mid after) (sym made) (record {
      stands = spot_written.1;
      more = omega (arith, long, l.more);
      places = λ n lt. spot_written.2 n ∙ l.places n lt;
      shapes = λ n o e. (
          let q = l.shapes n o e in
          let z = set_shape w.objects f.base n q.0 p (with_part p place.0 f.value) now.1 refl q.1 in
          (z.0, z.1, z.2 ∙ q.2)
          );
    }))

pub all_stored : SpotsAreWritten → (t : Table) (row : CallRow) (old mid : List Object) (w : World) (arena : Arena) (refs : List Value) (zs : List ℤ) (stores : List AnswerStore) → IsTableInRange t → Kept t old mid → Later t mid w.objects arena → AreParts (length old) refs → AreWords (address_of old) zs refs → All (λ (s : AnswerStore). GivesWord s.value) stores → list_all (store_fits t row refs old) stores ≡ true → Later t mid (stores_done t refs stores w).objects (stores_made t zs stores arena)
all_stored spots t row old mid w arena refs zs [] r k l parts words gives fit = l
all_stored spots t row old mid w arena refs zs (s ∷ stores) r k l parts words gives fit =
    let b = both_true (store_fits t row refs old s) (list_all (store_fits t row refs old) stores) fit in
    let one = one_stored spots t old mid w arena refs zs s r k l parts words (All-head (λ (x : AnswerStore). GivesWord x.value) s stores gives) (store_is t row refs old s b.0) in
    all_stored spots t row old mid (store_done t refs s w) (store_made t zs s arena) refs zs stores r k one parts words (All-tail (λ (x : AnswerStore). GivesWord x.value) s stores gives) b.1
