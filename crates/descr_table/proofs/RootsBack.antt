-- The lines of prebuilt objects that write a table are read back.
use Rattle.std.proofs.Common.{◌≡◌, ℕ, suc, ◌+◌, ◌<◌, ◌≤◌, Bool, true, false, cond, List, [], ◌∷◌, ◌++◌, length, map, Option, Some, refl, sym, ap, subst, ◌∙◌, arith, append_assoc, zero-add}
use Rattle.std.specs.Prelude.{slice_get, nat_eq, not, ◌||◌}
use Rattle.std.specs.Str.{bytes_eq}
use Rattle.std.proofs.lemmas.List.{map-append, append-nil}
use Rattle.text_lines.specs.Names.{has_name}
use Rattle.trace_ops.specs.InRange.{places_from}
use Rattle.trace_ops.specs.declared.table.ShapeOf.{ShapeOf}
use Rattle.trace_ops.specs.declared.table.ShapeOf.TheVariants as shape
use Rattle.trace_ops.specs.declared.table.SizeRow.{SizeRow}
use Rattle.trace_ops.specs.declared.table.FieldRow.{FieldRow}
use Rattle.trace_ops.specs.declared.table.ArrayRow.{ArrayRow}
use Rattle.trace_ops.specs.declared.table.PrebuiltRow.{PrebuiltRow}
use Rattle.trace_ops.specs.declared.table.Table.{Table}
use Rattle.descr_table.proofs.Readable.{Each, fields_at, IsReadable}
use Rattle.std.specs.List.{list_any}
use Rattle.std.proofs.lemmas.List.{length-map}
use Rattle.text_lines.specs.Names.{number_of}
use Rattle.std.proofs.Common.{◌*◌}
use Rattle.std.specs.Prelude.{sum}
use Rattle.std.proofs.lemmas.List.Sums.{sum_by-append, sum_by-cons}
use Rattle.lists.proofs.Bools.{or_false, bytes_itself}
use Rattle.std.proofs.lemmas.Option.{slice_get_within}
use Rattle.lists.proofs.Appends.{get_middle, length_push}
use Rattle.lists.proofs.Places.{get_map, get_some}
use Rattle.trace_ops.specs.declared.trace.Kind.{Kind}
use Rattle.trace_ops.specs.declared.trace.Kind.TheVariants as kind
use Rattle.trace_ops.specs.declared.table.Initial.{Initial}
use Rattle.trace_ops.specs.declared.table.Initial.TheVariants as initial
use Rattle.descr_table.specs.declared.form.Part.{Part}
use Rattle.descr_table.specs.Known.{repeats}
use Rattle.descr_table.specs.Meaning.{is_misplaced, is_twice, is_unknown, is_undefined, is_bad_initial, is_bad_field, is_bad_item, is_of, row_at, place, fields_in, row_bytes, shape_bytes, bytes_of, limit_at, given_for, initial_of, initial_or, field_initial, put_at, put}
use Rattle.descr_table.specs.Names.{size_name, size_name_in, field_name, field_name_in, array_name, array_name_in, prebuilt_name, prebuilt_name_in}
use Rattle.descr_table.proofs.Counts.{count, one_if, free_count, free_before, is_known, place_is, number_is}
use Rattle.descr_table.proofs.Clear.{IsClear, not_refused, false_not, none_of, of_none, none_bytes}
use Rattle.descr_table.proofs.Readable.{places_hold, Holds, HoldFields, HasBody, IsRoot}
use Rattle.descr_table.proofs.KeepsRoots.{listing_at}
use Rattle.descr_table.proofs.RowForms.{value_form, part_form, parts_form, body_form, root_form, Goes}
use Rattle.descr_table.proofs.ShapesBack.{stands_in}
use Rattle.descr_table.proofs.CallsBack.{rows_so_far, field_names, field_of}

abbrev Names : Type 0
Names = List (List ℕ)

abbrev pub root_names : Table → Names
root_names t = map (λ (r : PrebuiltRow). r.name) t.prebuilts

-- ---- values

-- the name of a prebuilt object that a value names
pub name_of : (t : Table) (k : ℕ) (n : List ℕ) → slice_get (root_names t) k ≡ Some n → prebuilt_name t k ≡ n
name_of t k n e =
    let lt : k < length t.prebuilts = omega (arith, slice_get_within (root_names t) k n e, length-map t.prebuilts (λ (r : PrebuiltRow). r.name)) in
    let r = get_some t.prebuilts k lt in
    let here : slice_get (root_names t) k ≡ Some r.0.name = get_map (λ (x : PrebuiltRow). x.name) t.prebuilts k r.0 r.1 in
    let same : n ≡ r.0.name = cc (e, here) in
    ap prebuilt_name_in r.1 ∙ sym same

value_back : (t : Table) (k : Kind) (p : Initial) → IsReadable (root_names t) t → Holds (root_names t) k p → initial_of (root_names t) (value_form t p) ≡ p
value_back t kind.Int (initial.Int z) i h = refl
value_back t kind.Int initial.Null i h = absurd h
value_back t kind.Int (initial.Ptr j) i h = absurd h
value_back t kind.Ref (initial.Int z) i h = absurd h
value_back t kind.Ref initial.Null i h = refl
value_back t kind.Ref (initial.Ptr j) i h =
    let name = name_of t j h.0 h.1 in
    let at : place h.0 (root_names t) ≡ j = place_is h.0 (root_names t) j h.1 (i.roots h.0) in
    ap (λ n. initial.Ptr (place n (root_names t))) name ∙ ap initial.Ptr at

value_of_kind : (t : Table) (d : Names) (k : Kind) (p : Initial) → Holds d k p → is_of (value_form t p) k ≡ true
value_of_kind t d kind.Int (initial.Int z) h = refl
value_of_kind t d kind.Int initial.Null h = absurd h
value_of_kind t d kind.Int (initial.Ptr j) h = absurd h
value_of_kind t d kind.Ref (initial.Int z) h = absurd h
value_of_kind t d kind.Ref initial.Null h = refl
value_of_kind t d kind.Ref (initial.Ptr j) h = refl

value_defined : (t : Table) (k : Kind) (p : Initial) → Holds (root_names t) k p → is_undefined (root_names t) (value_form t p) ≡ false
value_defined t kind.Int (initial.Int z) h = refl
value_defined t kind.Int initial.Null h = absurd h
value_defined t kind.Int (initial.Ptr j) h = absurd h
value_defined t kind.Ref (initial.Int z) h = absurd h
value_defined t kind.Ref initial.Null h = refl
value_defined t kind.Ref (initial.Ptr j) h = ap (λ n. not (has_name n (root_names t))) (name_of t j h.0 h.1) ∙ false_not (has_name h.0 (root_names t)) (is_known h.0 (root_names t) j h.1)

-- ---- items

items_defined : (t : Table) (k : Kind) (ps : List Initial) → Each (Holds (root_names t) k) ps → Each (λ v. is_undefined (root_names t) v ≡ false) (map (λ p. value_form t p) ps)
items_defined t k [] h = tt
items_defined t k (p ∷ ps) h = (value_defined t k p h.0, items_defined t k ps h.1)

items_good : (t : Table) (r : ArrayRow) (ps : List Initial) → Each (Holds (root_names t) r.kind) ps → Each (λ v. is_bad_item (Some r) v ≡ false) (map (λ p. value_form t p) ps)
items_good t r [] h = tt
items_good t r (p ∷ ps) h = (false_not (is_of (value_form t p) r.kind) (value_of_kind t (root_names t) r.kind p h.0), items_good t r ps h.1)

items_back : (t : Table) (k : Kind) (ps : List Initial) → IsReadable (root_names t) t → Each (Holds (root_names t) k) ps → map (λ v. initial_of (root_names t) v) (map (λ p. value_form t p) ps) ≡ ps
items_back t k [] i h = refl
items_back t k (p ∷ ps) i h = cc (value_back t k p i h.0, items_back t k ps i h.1)

-- ---- fields with their values

abbrev Stand : Table → ℕ → List ℕ → Type 0
Stand t size fs = Each (λ j. (x : FieldRow) × (slice_get t.fields j ≡ Some x) × (nat_eq x.size size ≡ true)) fs

parts_known : (t : Table) (fs : List ℕ) (ps : List Initial) → IsReadable (root_names t) t → HoldFields (root_names t) t.fields fs ps → Each (λ (p : Part). not (has_name p.name (field_names t)) ≡ false) (parts_form t fs ps)
parts_known t [] [] i h = tt
parts_known t [] (p ∷ ps) i h = absurd h
parts_known t (f ∷ fs) [] i h = absurd h
parts_known t (f ∷ fs) (p ∷ ps) i h = (false_not (has_name (field_name t f) (field_names t)) (field_of (root_names t) t f h.0.0 h.0.1 i).known, parts_known t fs ps i h.1)

parts_defined : (t : Table) (fs : List ℕ) (ps : List Initial) → HoldFields (root_names t) t.fields fs ps → Each (λ (p : Part). is_undefined (root_names t) p.value ≡ false) (parts_form t fs ps)
parts_defined t [] [] h = tt
parts_defined t [] (p ∷ ps) h = absurd h
parts_defined t (f ∷ fs) [] h = absurd h
parts_defined t (f ∷ fs) (p ∷ ps) h = (value_defined t h.0.0.kind p h.0.2, parts_defined t fs ps h.1)

part_good : (t : Table) (size f : ℕ) (row : FieldRow) (p : Initial) → IsReadable (root_names t) t → slice_get t.fields f ≡ Some row → nat_eq row.size size ≡ true → Holds (root_names t) row.kind p
    → is_bad_field size (value_form t p) (row_at t.fields (number_of (field_name t f) (field_names t))) ≡ false
part_good t size f row p i at own h =
    let field = field_of (root_names t) t f row at i in
    let here : row_at t.fields (number_of (field_name t f) (field_names t)) ≡ Some row = ap (row_at t.fields) field.number ∙ at in
    ap (is_bad_field size (value_form t p)) here ∙ or_false (not (nat_eq row.size size)) (not (is_of (value_form t p) row.kind)) (false_not (nat_eq row.size size) own) (false_not (is_of (value_form t p) row.kind) (value_of_kind t (root_names t) row.kind p h))

same_row : (t : Table) (f : ℕ) (x y : FieldRow) → slice_get t.fields f ≡ Some x → slice_get t.fields f ≡ Some y → x ≡ y
same_row t f x y a b = cc

parts_good : (t : Table) (size : ℕ) (fs : List ℕ) (ps : List Initial) → IsReadable (root_names t) t → Stand t size fs → HoldFields (root_names t) t.fields fs ps
    → Each (λ (p : Part). is_bad_field size p.value (row_at t.fields (number_of p.name (field_names t))) ≡ false) (parts_form t fs ps)
parts_good t size [] [] i s h = tt
parts_good t size [] (p ∷ ps) i s h = absurd h
parts_good t size (f ∷ fs) [] i s h = absurd h
parts_good t size (f ∷ fs) (p ∷ ps) i s h =
    let own : nat_eq h.0.0.size size ≡ true = ap (λ (x : FieldRow). nat_eq x.size size) (same_row t f h.0.0 s.0.0 h.0.1 s.0.1) ∙ s.0.2 in
    (part_good t size f h.0.0 p i h.0.1 own h.0.2, parts_good t size fs ps i s.1 h.1)

parts_names : (t : Table) (fs : List ℕ) (ps : List Initial) → HoldFields (root_names t) t.fields fs ps → map (λ (p : Part). p.name) (parts_form t fs ps) ≡ map (λ f. field_name t f) fs
parts_names t [] [] h = refl
parts_names t [] (p ∷ ps) h = absurd h
parts_names t (f ∷ fs) [] h = absurd h
parts_names t (f ∷ fs) (p ∷ ps) h = ap (λ (ns : Names). field_name t f ∷ ns) (parts_names t fs ps h.1)

-- the names of a size's fields are distinct
count_if : (b : Bool) (n m : List ℕ) (i : ℕ) (fs : List ℕ) (g : ℕ → List ℕ) (c : ℕ) → g i ≡ m → count n (map g fs) ≤ c → count n (map g (cond b (i ∷ fs) fs)) ≤ one_if (bytes_eq n m) + c
count_if true n m i fs g c e le = omega (arith, ap (λ x. one_if (bytes_eq n x)) e)
count_if false n m i fs g c e le = omega arith

count_places : (t : Table) (test : FieldRow → Bool) (n : List ℕ) (front xs : List FieldRow) → t.fields ≡ front ++ xs → count n (map (λ f. field_name t f) (places_from test (length front) xs)) ≤ count n (map (λ (r : FieldRow). r.name) xs)
unfolding places_from
count_places t test n front [] e = omega arith
count_places t test n front (x ∷ xs) e =
    let here : field_name t (length front) ≡ x.name = ap (λ (l : List FieldRow). field_name_in (slice_get l (length front))) e ∙ ap field_name_in (get_middle front x xs) in
    let rest : count n (map (λ f. field_name t f) (places_from test (length (front ++ x ∷ [])) xs)) ≤ count n (map (λ (r : FieldRow). r.name) xs) = count_places t test n (front ++ x ∷ []) xs (e ∙ sym (append_assoc front (x ∷ []) xs)) in
    let at : length (front ++ x ∷ []) ≡ length front + 1 = length_push front x ∙ omega arith in
    let le : count n (map (λ f. field_name t f) (places_from test (length front + 1) xs)) ≤ count n (map (λ (r : FieldRow). r.name) xs) = subst (λ (k : ℕ). count n (map (λ f. field_name t f) (places_from test k xs)) ≤ count n (map (λ (r : FieldRow). r.name) xs)) at rest in
    count_if (test x) n x.name (length front) (places_from test (length front + 1) xs) (λ f. field_name t f) (count n (map (λ (r : FieldRow). r.name) xs)) here le

repeats_free : (seen ns : Names) → ((n : List ℕ) → count n (seen ++ ns) ≤ 1) → repeats seen ns ≡ false
unfolding repeats
repeats_free seen [] h = refl
repeats_free seen (n ∷ ns) h =
    or_false (has_name n seen) (repeats (seen ++ n ∷ []) ns) (free_before n seen ns (h n)) (repeats_free (seen ++ n ∷ []) ns (λ m. omega (arith, ap (count m) (append_assoc seen (n ∷ []) ns), h m)))

-- each field has the value that is written for it
abbrev HasGiven : Table → List Part → List ℕ → List Initial → Type 0
HasGiven t parts [] ps = Unit {0}
HasGiven t parts (f ∷ fs) [] = Unit {0}
HasGiven t parts (f ∷ fs) (p ∷ ps) = (given_for (field_name t f) parts ≡ Some (value_form t p)) × HasGiven t parts fs ps

given_later : (t : Table) (q : Part) (parts : List Part) (fs : List ℕ) (ps : List Initial) → Each (λ n. bytes_eq q.name n ≡ false) (map (λ f. field_name t f) fs) → HasGiven t parts fs ps → HasGiven t (q ∷ parts) fs ps
given_later t q parts [] ps h i = tt
given_later t q parts (f ∷ fs) [] h i = tt
given_later t q parts (f ∷ fs) (p ∷ ps) h i = (rw h.0 i.0, given_later t q parts fs ps h.1 i.1)

all_given : (t : Table) (fs : List ℕ) (ps : List Initial) → HoldFields (root_names t) t.fields fs ps → ((n : List ℕ) → count n (map (λ f. field_name t f) fs) ≤ 1) → HasGiven t (parts_form t fs ps) fs ps
all_given t [] ps h once = tt
all_given t (f ∷ fs) [] h once = absurd h
all_given t (f ∷ fs) (p ∷ ps) h once =
    let own : one_if (bytes_eq (field_name t f) (field_name t f)) ≡ 1 = rw (bytes_itself (field_name t f)) refl in
    let none : has_name (field_name t f) (map (λ g. field_name t g) fs) ≡ false = free_count (field_name t f) (map (λ g. field_name t g) fs) (omega (arith, own, once (field_name t f))) in
    let others : HasGiven t (parts_form t fs ps) fs ps = all_given t fs ps h.1 (λ n. omega (arith, once n)) in
    (rw (bytes_itself (field_name t f)) refl, given_later t (part_form t f p) (parts_form t fs ps) fs ps (none_of (λ n. bytes_eq (field_name t f) n) (map (λ g. field_name t g) fs) none) others)

parts_back : (t : Table) (parts : List Part) (fs : List ℕ) (ps : List Initial) → IsReadable (root_names t) t → HoldFields (root_names t) t.fields fs ps → HasGiven t parts fs ps
    → map (λ j. field_initial (root_names t) parts (slice_get t.fields j)) fs ≡ ps
parts_back t parts [] [] i h g = refl
parts_back t parts [] (p ∷ ps) i h g = absurd h
parts_back t parts (f ∷ fs) [] i h g = absurd h
parts_back t parts (f ∷ fs) (p ∷ ps) i h g =
    let row = h.0.0 in
    let named : field_name t f ≡ row.name = ap field_name_in h.0.1 in
    let value : given_for row.name parts ≡ Some (value_form t p) = ap (λ n. given_for n parts) (sym named) ∙ g.0 in
    let first : field_initial (root_names t) parts (slice_get t.fields f) ≡ p = ap (field_initial (root_names t) parts) h.0.1 ∙ ap (initial_or (root_names t) row.kind) value ∙ value_back t row.kind p i h.0.2 in
    cc (first, parts_back t parts fs ps i h.1 g.1)

parts_len : (d : Names) (fields : List FieldRow) (fs : List ℕ) (ps : List Initial) → HoldFields d fields fs ps → length ps ≡ length fs
parts_len d fields [] [] h = refl
parts_len d fields [] (p ∷ ps) h = absurd h
parts_len d fields (f ∷ fs) [] h = absurd h
parts_len d fields (f ∷ fs) (p ∷ ps) h = ap suc (parts_len d fields fs ps h.1)

-- ---- bytes

sum_append : (xs ys : List ℕ) → sum (xs ++ ys) ≡ sum xs + sum ys
sum_append xs ys = sum_by-append (λ (x : ℕ). x) xs ys

pub bytes_before : (t : Table) (done : List PrebuiltRow) (r : PrebuiltRow) (rest : List PrebuiltRow) → t.prebuilts ≡ done ++ r ∷ rest → sum (map row_bytes done) + row_bytes r ≤ bytes_of t
bytes_before t done r rest e =
    let all : sum (map row_bytes t.prebuilts) ≡ sum (map row_bytes done) + sum (map row_bytes (r ∷ rest)) = ap (λ (xs : List PrebuiltRow). sum (map row_bytes xs)) e ∙ ap sum (map-append row_bytes done (r ∷ rest)) ∙ sum_append (map row_bytes done) (map row_bytes (r ∷ rest)) in
    omega (arith, all, sum_by-cons (λ (x : ℕ). x) (row_bytes r) (map row_bytes rest))

-- ---- objects

-- a size by its name
pub record NamedSize (t : Table) (k : ℕ) (row : SizeRow) : Type 0 where
  pub named : size_name t k ≡ row.name
  pub known : has_name (size_name t k) (map (λ (r : SizeRow). r.name) t.sizes) ≡ true
  pub at_place : place (size_name t k) (map (λ (r : SizeRow). r.name) t.sizes) ≡ k

pub named_size : (d : Names) (t : Table) (k : ℕ) (row : SizeRow) → slice_get t.sizes k ≡ Some row → IsReadable d t → NamedSize t k row
named_size d t k row at h =
    let names = map (λ (r : SizeRow). r.name) t.sizes in
    let named : size_name t k ≡ row.name = ap size_name_in at in
    let here : slice_get names k ≡ Some (size_name t k) = get_map (λ (r : SizeRow). r.name) t.sizes k row at ∙ ap Some (sym named) in
    record { named = named; known = is_known (size_name t k) names k here; at_place = place_is (size_name t k) names k here (omega (arith, h.named (size_name t k))) }

pub record NamedArray (t : Table) (k : ℕ) (row : ArrayRow) : Type 0 where
  pub named : array_name t k ≡ row.name
  pub known : has_name (array_name t k) (map (λ (r : ArrayRow). r.name) t.arrays) ≡ true
  pub number : number_of (array_name t k) (map (λ (r : ArrayRow). r.name) t.arrays) ≡ Some k
  pub at_place : place (array_name t k) (map (λ (r : ArrayRow). r.name) t.arrays) ≡ k

pub named_array : (d : Names) (t : Table) (k : ℕ) (row : ArrayRow) → slice_get t.arrays k ≡ Some row → IsReadable d t → NamedArray t k row
named_array d t k row at h =
    let names = map (λ (r : ArrayRow). r.name) t.arrays in
    let named : array_name t k ≡ row.name = ap array_name_in at in
    let here : slice_get names k ≡ Some (array_name t k) = get_map (λ (r : ArrayRow). r.name) t.arrays k row at ∙ ap Some (sym named) in
    let once : count (array_name t k) names ≤ 1 = omega (arith, h.named (array_name t k)) in
    record { named = named; known = is_known (array_name t k) names k here; number = number_is (array_name t k) names k here once; at_place = place_is (array_name t k) names k here once }

abbrev Step : Table → List PrebuiltRow → List ℕ → ShapeOf → List Initial → Type 0
Step t done n of ps = IsClear (body_form t n of ps) (root_names t) (rows_so_far t t.calls t.functions done)
    × (put (body_form t n of ps) (root_names t) (rows_so_far t t.calls t.functions done) ≡ rows_so_far t t.calls t.functions (done ++ record { name = n; of = of; parts = ps } ∷ []))

-- the name is new, and the bytes keep slice_get_within their limit
pub record IsNext (t : Table) (done : List PrebuiltRow) (n : List ℕ) (of : ShapeOf) (ps : List Initial) : Type 0 where
  pub new : has_name n (map (λ (r : PrebuiltRow). r.name) done) ≡ false
  pub bytes : sum (map row_bytes done) + shape_bytes of (length ps) ≤ 32768

object_step : (t : Table) (done : List PrebuiltRow) (n : List ℕ) (k : ℕ) (ps : List Initial) → IsReadable (root_names t) t → IsNext t done n (shape.Size k) ps → HasBody (root_names t) t.sizes t.fields t.arrays (shape.Size k) ps → Step t done n (shape.Size k) ps
unfolding is_misplaced is_twice is_unknown is_bad_initial limit_at put_at
object_step t done n k ps i next body =
    let d = root_names t in
    let row = body.0 in
    let fs = row.fields in
    let listed : fields_in (slice_get t.sizes k) ≡ fs = ap fields_in body.1 in
    let held : HoldFields d t.fields (fields_in (slice_get t.sizes k)) ps = subst (λ (js : List ℕ). HoldFields d t.fields js ps) (sym listed) body.2 in
    let parts = parts_form t (fields_in (slice_get t.sizes k)) ps in
    let size = named_size d t k row body.1 i in
    let lists : fields_in (slice_get t.sizes k) ≡ fields_at k t.fields = listed ∙ listing_at 0 t.fields t.sizes k row i.listing body.1 ∙ ap (λ m. fields_at m t.fields) (zero-add k) in
    let stand : Stand t k (fields_in (slice_get t.sizes k)) = subst (Stand t k) (sym lists) (places_hold (λ (f : FieldRow). nat_eq f.size k) [] t.fields t.fields refl) in
    let once : (m : List ℕ) → count m (map (λ f. field_name t f) (fields_in (slice_get t.sizes k))) ≤ 1 = λ m. omega (arith, ap (λ js. count m (map (λ f. field_name t f) js)) lists, count_places t (λ (f : FieldRow). nat_eq f.size k) m [] t.fields refl, i.named m) in
    let names = parts_names t (fields_in (slice_get t.sizes k)) ps held in
    let norep : repeats [] (map (λ (p : Part). p.name) parts) ≡ false = ap (repeats []) names ∙ repeats_free [] (map (λ f. field_name t f) (fields_in (slice_get t.sizes k))) once in
    let sizes = map (λ (r : SizeRow). r.name) t.sizes in
    let good : Each (λ (p : Part). is_bad_field (place (size_name t k) sizes) p.value (row_at t.fields (number_of p.name (field_names t))) ≡ false) parts = subst (λ (s : ℕ). Each (λ (p : Part). is_bad_field s p.value (row_at t.fields (number_of p.name (field_names t))) ≡ false) parts) (sym size.at_place) (parts_good t k (fields_in (slice_get t.sizes k)) ps i stand held) in
    let own : fields_in (slice_get t.sizes (place (size_name t k) sizes)) ≡ fields_in (slice_get t.sizes k) = ap (λ s. fields_in (slice_get t.sizes s)) size.at_place in
    let len = parts_len d t.fields (fields_in (slice_get t.sizes k)) ps held in
    let back : map (λ j. field_initial d parts (slice_get t.fields j)) (fields_in (slice_get t.sizes (place (size_name t k) sizes))) ≡ ps = ap (map (λ j. field_initial d parts (slice_get t.fields j))) own ∙ parts_back t parts (fields_in (slice_get t.sizes k)) ps i held (all_given t (fields_in (slice_get t.sizes k)) ps held once) in (
      record {
        placed = refl;
        new = or_false (has_name n (map (λ (r : PrebuiltRow). r.name) done)) (repeats [] (map (λ (p : Part). p.name) parts)) next.new norep;
        known = or_false (not (has_name (size_name t k) sizes) || list_any (λ (p : Part). not (has_name p.name (field_names t))) parts) (list_any (λ (p : Part). is_undefined d p.value) parts)
            (or_false (not (has_name (size_name t k) sizes)) (list_any (λ (p : Part). not (has_name p.name (field_names t))) parts) (false_not (has_name (size_name t k) sizes) size.known) (of_none (λ (p : Part). not (has_name p.name (field_names t))) parts (parts_known t (fields_in (slice_get t.sizes k)) ps i held)))
            (of_none (λ (p : Part). is_undefined d p.value) parts (parts_defined t (fields_in (slice_get t.sizes k)) ps held));
        fits = of_none (λ (p : Part). is_bad_field (place (size_name t k) sizes) p.value (row_at t.fields (number_of p.name (field_names t)))) parts good;
        few = none_bytes (sum (map row_bytes done) + (8 + 8 * length (fields_in (slice_get t.sizes (place (size_name t k) sizes))))) (omega (arith, next.bytes, len, ap length own));
      },
      λ j. rows_so_far t t.calls t.functions (done ++ record { name = n; of = shape.Size (size.at_place j); parts = back j } ∷ []),
    )

array_step : (t : Table) (done : List PrebuiltRow) (n : List ℕ) (k : ℕ) (ps : List Initial) → IsReadable (root_names t) t → IsNext t done n (shape.Array k) ps → HasBody (root_names t) t.sizes t.fields t.arrays (shape.Array k) ps → Step t done n (shape.Array k) ps
unfolding is_misplaced is_twice is_unknown is_bad_initial limit_at put_at
array_step t done n k ps i next body =
    let d = root_names t in
    let row = body.0 in
    let items = map (λ p. value_form t p) ps in
    let names = map (λ (r : ArrayRow). r.name) t.arrays in
    let array = named_array d t k row body.1 i in
    let here : row_at t.arrays (number_of (array_name t k) names) ≡ Some row = ap (row_at t.arrays) array.number ∙ body.1 in
    let good : Each (λ v. is_bad_item (row_at t.arrays (number_of (array_name t k) names)) v ≡ false) items = subst (λ (o : Option ArrayRow). Each (λ v. is_bad_item o v ≡ false) items) (sym here) (items_good t row ps body.2) in
    let back = items_back t row.kind ps i body.2 in (
      record {
        placed = refl;
        new = next.new;
        known = or_false (not (has_name (array_name t k) names)) (list_any (λ v. is_undefined d v) items) (false_not (has_name (array_name t k) names) array.known) (of_none (λ v. is_undefined d v) items (items_defined t row.kind ps body.2));
        fits = of_none (λ v. is_bad_item (row_at t.arrays (number_of (array_name t k) names)) v) items good;
        few = none_bytes (sum (map row_bytes done) + (16 + 8 * length items)) (omega (arith, next.bytes, length-map ps (λ p. value_form t p)));
      },
      λ j. rows_so_far t t.calls t.functions (done ++ record { name = n; of = shape.Array (array.at_place j); parts = back j } ∷ []),
    )

root_step : (t : Table) (done : List PrebuiltRow) (n : List ℕ) (of : ShapeOf) (ps : List Initial) → IsReadable (root_names t) t → IsNext t done n of ps → HasBody (root_names t) t.sizes t.fields t.arrays of ps → Step t done n of ps
root_step t done n (shape.Size k) ps i next body = object_step t done n k ps i next body
root_step t done n (shape.Array k) ps i next body = array_step t done n k ps i next body

pub roots_go : (t : Table) (done rest : List PrebuiltRow) → t.prebuilts ≡ done ++ rest → Each (IsRoot (root_names t) t.sizes t.fields t.arrays) rest → IsReadable (root_names t) t → Goes (root_names t) (rows_so_far t t.calls t.functions done) (map (λ r. root_form t r) rest) t
roots_go t done [] e roots h = ap (λ (ps : List PrebuiltRow). rows_so_far t t.calls t.functions ps) (sym (e ∙ append-nil done))
roots_go t done (r ∷ rest) e roots h =
    let stands = stands_in (λ (x : PrebuiltRow). x.name) t.prebuilts done r rest e in
    let next : IsNext t done r.name r.of r.parts = record {
      new = free_count r.name (map (λ (x : PrebuiltRow). x.name) done) (omega (arith, stands.parts, h.roots r.name));
      bytes = omega (arith, bytes_before t done r rest e, h.bytes);
    } in
    let step = root_step t done r.name r.of r.parts h next roots.0.body in
    let more : Goes (root_names t) (rows_so_far t t.calls t.functions (done ++ r ∷ [])) (map (λ r. root_form t r) rest) t = roots_go t (done ++ r ∷ []) rest (e ∙ sym (append_assoc done (r ∷ []) rest)) roots.1 h in (
      not_refused (root_form t r) (root_names t) (rows_so_far t t.calls t.functions done) step.0,
      subst (λ (x : Table). Goes (root_names t) x (map (λ r. root_form t r) rest) t) (sym step.1) more,
    )
