-- Tables in range, prebuilt objects, and operations on objects.
use Rattle.std.specs.Prelude.{position, slice_get, ◌==◌}
use Rattle.trace_ops.specs.declared.table.Table.{Table}
use Rattle.trace_ops.specs.InRange.{IsTableInRange}
use Rattle.std.proofs.lemmas.List.Quantifiers.{position-Some}
use Rattle.trace_ops.specs.declared.table.SizeRow.{SizeRow}
use Rattle.trace_ops.specs.declared.table.FieldRow.{FieldRow}
use Rattle.trace_meaning.specs.Objects.{fields_of, listed}
use Rattle.arena_objects.specs.Spots.{or_first, field_offset}
use Rattle.lists.proofs.Alls.{all_at}
use Rattle.std.proofs.Common.{◌≡◌, ◌≢◌, ℕ, zero, suc, ◌+◌, ◌*◌, ◌<◌, ◌≤◌, Bool, true, false, cond, List, [], ◌∷◌, ◌++◌, length, map, Option, Some, None, ◌^◌, refl, sym, ap, ◌∙◌, subst, inl, inr, arith, pos}
use Rattle.std.specs.List.{sum_by}
use Rattle.std.proofs.lemmas.List.{length-map}
use Rattle.std.proofs.lemmas.List.Sums.{sum_by-cons}
use Rattle.trace_ops.specs.declared.table.ShapeOf.{ShapeOf}
use Rattle.trace_ops.specs.declared.table.ShapeOf.TheVariants as shape
use Rattle.trace_ops.specs.declared.table.PrebuiltRow.{PrebuiltRow}
use Rattle.trace_ops.specs.declared.trace.BoxId.{BoxId}
use Rattle.trace_ops.specs.InRange.{bytes_of_object, prebuilt_bytes}
use Rattle.trace_meaning.specs.declared.value.Value.{Value}
use Rattle.trace_meaning.specs.declared.value.Value.TheVariants as v
use Rattle.trace_meaning.specs.declared.value.Object.{Object}
use Rattle.trace_meaning.specs.Boxes.{same_box, value_in, bind}
use Rattle.trace_meaning.specs.Recorded.{prebuilt_object, initial_value}
use Rattle.trace_meaning.specs.Growing.{extent}
use Rattle.arena_objects.specs.Layout.{same_shape, place_among, words_ahead, words_in, words_before, words_of, address_of, word_of}
use Rattle.arena_objects.specs.Standing.{IsPart}
use Rattle.asm_select.specs.declared.told.Told.TheVariants as tell
use Rattle.asm_select.specs.Valued.{value}
use Rattle.asm_select.specs.Reached.{AreKept, IsNamed, Uses}
use Rattle.asm_select.specs.Suited.{TablesServe, TableNumbersFit, PrebuiltsStayPut, ObjectResultHolds, ObjectStoreHolds}
use Rattle.asm_select.proofs.Values.{same_is, differ, bound_same, bound_other}

-- ---- numbers

place_low : (s : ShapeOf) (xs : List ShapeOf) → place_among s xs ≤ length xs
place_low s [] = omega arith
place_low s (x ∷ xs) = which (place_low s xs) (same_shape x s)
  where
    which : place_among s xs ≤ length xs → (b : Bool) → cond b 0 (1 + place_among s xs) ≤ length (x ∷ xs)
    which h true = omega arith
    which h false = omega (arith, h)

before_low : (os : List Object) (k : ℕ) → words_before os k ≤ words_of os
before_low [] k = omega arith
before_low (o ∷ os) zero = omega arith
before_low (o ∷ os) (suc k) = omega (arith, before_low os k)

row_bytes : (of : ShapeOf) (n : ℕ) → 8 * (words_ahead of + n) ≡ bytes_of_object of n
row_bytes (shape.Size k) n = omega arith
row_bytes (shape.Array k) n = omega arith

rows_bytes : (rows : List PrebuiltRow) → 8 * words_of (map prebuilt_object rows) ≡ sum_by prebuilt_bytes rows
rows_bytes [] = omega arith
rows_bytes (row ∷ rows) =
    let n : length (map initial_value row.parts) ≡ length row.parts = length-map row.parts initial_value in
    let here : 8 * (words_ahead row.of + length (map initial_value row.parts)) ≡ prebuilt_bytes row = ap (λ (i : ℕ). 8 * (words_ahead row.of + i)) n ∙ row_bytes row.of (length row.parts) in
    omega (arith, here, rows_bytes rows, sum_by-cons prebuilt_bytes row rows)

pub table_numbers_fit : TableNumbersFit
table_numbers_fit t r = (
  λ n. omega (arith, place_low (shape.Size n) t.shapes, r.within.shapes),
  λ k lt. omega (arith, before_low (map prebuilt_object t.prebuilts) k, rows_bytes t.prebuilts, r.within.prebuilt),
)

-- ---- fields

place_within : (p : ℕ → Bool) (xs : List ℕ) → or_first (position p xs) ≤ length xs
place_within p xs = which (position p xs) refl
  where
    which : (o : Option ℕ) → position p xs ≡ o → or_first o ≤ length xs
    which None e = omega arith
    which (Some i) e = (let h : i < length xs = (position-Some p xs i 0 e).0 in omega arith)

few_fields : (t : Table) (size : ℕ) → IsTableInRange t → length (fields_of t size) ≤ 64
few_fields t size r = which (slice_get t.sizes size) refl
  where
    which : (o : Option SizeRow) → slice_get t.sizes size ≡ o → length (listed o) ≤ 64
    which None e = omega arith
    which (Some row) e = all_at (λ (x : SizeRow). length x.fields ≤ 64) t.sizes size row r.within.fields e

pub tables_serve : TablesServe
tables_serve t r = (record { lists = r.sizes_list_their_fields; few = r.within.shapes }, λ f. which f (slice_get t.fields f))
  where
    which : (f : ℕ) (o : Option FieldRow) → field_offset t f o < 2 ^ 31
    which f None = omega arith
    which f (Some row) = omega (arith, place_within (λ (g : ℕ). g == f) (fields_of t row.size), few_fields t row.size r)

-- ---- prebuilt objects

extent_words : ShapeOf × ℕ → ℕ
extent_words e = words_ahead e.0 + e.1

head_is : (x y : ShapeOf × ℕ) (xs ys : List (ShapeOf × ℕ)) → x ∷ xs ≡ y ∷ ys → x ≡ y
head_is x y xs ys e = cc

tail_is : (x y : ShapeOf × ℕ) (xs ys : List (ShapeOf × ℕ)) → x ∷ xs ≡ y ∷ ys → xs ≡ ys
tail_is x y xs ys e = cc

before_same : (xs ys : List Object) (more : List (ShapeOf × ℕ)) (k : ℕ) → map extent ys ≡ map extent xs ++ more → k < length xs → (k < length ys) × (words_before ys k ≡ words_before xs k)
unfolding extent_words
before_same [] ys more k e lt = absurd (omega (arith, lt))
before_same (x ∷ xs) [] more k e lt = absurd (cc)
before_same (x ∷ xs) (y ∷ ys) more zero e lt = (omega arith, refl)
before_same (x ∷ xs) (y ∷ ys) more (suc k) e lt =
    let r = before_same xs ys more k (tail_is (extent y) (extent x) (map extent ys) (map extent xs ++ more) e) (omega (arith, lt)) in
    let w : words_in y ≡ words_in x = ap extent_words (head_is (extent y) (extent x) (map extent ys) (map extent xs ++ more) e) in
    (omega (arith, r.0), omega (arith, w, r.1))

map_twice : (rows : List PrebuiltRow) → map extent (map prebuilt_object rows) ≡ map (λ row. extent (prebuilt_object row)) rows
map_twice [] = refl
map_twice (row ∷ rows) = ap (λ (l : List (ShapeOf × ℕ)). extent (prebuilt_object row) ∷ l) (map_twice rows)

pub prebuilts_stay_put : PrebuiltsStayPut
prebuilts_stay_put t objects (more, e) k lt =
    let n : length (map prebuilt_object t.prebuilts) ≡ length t.prebuilts = length-map t.prebuilts prebuilt_object in
    let r = before_same (map prebuilt_object t.prebuilts) objects more k (e ∙ ap (λ (l : List (ShapeOf × ℕ)). l ++ more) (sym (map_twice t.prebuilts))) (omega (arith, n, lt)) in
    (r.0, ap (λ (i : ℕ). 0x10000000 + 8 * i) r.1)

-- ---- operations on objects

part_later : (m n : ℕ) (x : Value) → m ≤ n → IsPart m x → IsPart n x
part_later m n (v.Int z) le h = h
part_later m n v.Null le h = tt
part_later m n (v.Obj k) le h = omega (arith, h, le)

word_later : (old new : List Object) (x : Value) → AreKept old new → IsPart (length old) x → word_of (address_of new) x ≡ word_of (address_of old) x
word_later old new (v.Int z) k h = refl
word_later old new v.Null k h = refl
word_later old new (v.Obj n) k h = ap pos (k.addresses n h)

value_is : (x y : Value) → Some x ≡ Some y → x ≡ y
value_is x y e = cc

not_named : (r b : BoxId) → b ≢ r → IsNamed (r ∷ []) b → ⊥
not_named r b ne (inl e) = ne (sym e)
not_named r b ne (inr h) = h

pub object_result_holds : ObjectResultHolds
object_result_holds c told operation r args d ops env x w s t h kept fit stand part own others = record {
  fit = fit;
  arena = stand;
  prebuilts = λ k lt. (let p = h.prebuilts k lt in (omega (arith, p.0, kept.more), kept.addresses k p.0 ∙ p.1));
  values = λ b y e. values b y (same_box b r) refl e;
  boxes = λ b y u e. boxes b y u (same_box b r) refl e;
  flags = tt;
}
  where
    values : (b : BoxId) (y : Value) (q : Bool) → same_box b r ≡ q → value_in (bind r x env.boxes) b ≡ Some y → IsPart (length w.objects) y
    values b y true q e =
        let z : Some x ≡ Some y = sym (bound_same r x env.boxes) ∙ ap (value_in (bind r x env.boxes)) (sym (same_is b r q)) ∙ e in
        subst (IsPart (length w.objects)) (value_is x y z) part
    values b y false q e = part_later (length env.world.objects) (length w.objects) y kept.more (h.values b y (sym (bound_other r b x env.boxes (differ b r q)) ∙ e))

    boxes : (b : BoxId) (y : Value) → Uses tell.Nothing ops b → (q : Bool) → same_box b r ≡ q → value_in (bind r x env.boxes) b ≡ Some y → value t (c.at b.number) ≡ word_of (address_of w.objects) y
    boxes b y u true q e =
        let one : b ≡ r = same_is b r q in
        let z : Some x ≡ Some y = sym (bound_same r x env.boxes) ∙ ap (value_in (bind r x env.boxes)) (sym one) ∙ e in
        ap (λ (k : BoxId). value t (c.at k.number)) one ∙ own ∙ ap (word_of (address_of w.objects)) (value_is x y z)
    boxes b y u false q e =
        let ne = differ b r q in
        let f = sym (bound_other r b x env.boxes ne) ∙ e in
        others b u ne ∙ h.boxes b y (inr (not_named r b ne, u)) f ∙ sym (word_later env.world.objects w.objects y kept (h.values b y f))

pub object_store_holds : ObjectStoreHolds
object_store_holds c told operation args d ops env w s t h kept fit stand others = record {
  fit = fit;
  arena = stand;
  prebuilts = λ k lt. (let p = h.prebuilts k lt in (omega (arith, p.0, kept.more), kept.addresses k p.0 ∙ p.1));
  values = λ b y e. part_later (length env.world.objects) (length w.objects) y kept.more (h.values b y e);
  boxes = λ b y u e. others b u ∙ h.boxes b y (inr (λ n. n, u)) e ∙ sym (word_later env.world.objects w.objects y kept (h.values b y e));
  flags = tt;
}
