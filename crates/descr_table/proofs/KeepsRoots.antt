-- What holds of the table that is read is kept by a line of a prebuilt object.
use Rattle.std.proofs.Common.{◌≡◌, ℕ, zero, suc, ◌+◌, ◌≤◌, Bool, true, false, cond, eqb, List, [], ◌∷◌, ◌++◌, map, Option, Some, None, refl, sym, ap, subst, ◌∙◌, arith, zero-add}
use Rattle.std.specs.Prelude.{◌||◌, not, slice_get, nat_eq}
use Rattle.std.specs.Str.{bytes_eq}
use Rattle.std.specs.List.{list_any}
use Rattle.std.proofs.lemmas.Bool.{or_parts, not-false}
use Rattle.lists.proofs.Bools.{bytes_same}
use Rattle.lists.proofs.Places.{get_map}
use Rattle.lists.proofs.Eaches.{each_push}
use Rattle.text_lines.specs.Names.{has_name, number_of}
use Rattle.trace_ops.specs.declared.trace.Kind.{Kind}
use Rattle.trace_ops.specs.declared.trace.Kind.TheVariants as kind
use Rattle.trace_ops.specs.declared.table.ShapeOf.TheVariants as shape
use Rattle.trace_ops.specs.declared.table.SizeRow.{SizeRow}
use Rattle.trace_ops.specs.declared.table.FieldRow.{FieldRow}
use Rattle.trace_ops.specs.declared.table.ArrayRow.{ArrayRow}
use Rattle.trace_ops.specs.declared.table.PrebuiltRow.{PrebuiltRow}
use Rattle.trace_ops.specs.declared.table.Table.{Table}
use Rattle.descr_table.specs.declared.form.Form.{Form}
use Rattle.descr_table.specs.declared.form.Form.TheVariants.{Size, Field, Array, Call, Function, Object, Items}
use Rattle.descr_table.specs.declared.form.Given.{Given}
use Rattle.descr_table.specs.declared.form.Given.TheVariants as given
use Rattle.descr_table.specs.declared.form.Part.{Part}
use Rattle.descr_table.specs.Known.{names_of, repeats}
use Rattle.descr_table.specs.Meaning.{is_twice, is_unknown, is_undefined, is_bad_initial, is_bad_field, is_bad_item, is_of, row_at, place, fields_in, bytes_of, refusal, given_for, initial_of, initial_or, default_of, field_initial, put_at, put}
use Rattle.descr_table.specs.Spelling.{IsForm}
use Rattle.descr_table.proofs.Counts.{count, count_free, one_more, number_is, row_of, named_at}
use Rattle.descr_table.proofs.Clear.{IsClear, clear, none_of}
use Rattle.descr_table.proofs.Noted.{bytes_put, fits}
use Rattle.descr_table.proofs.Readable.{Each, fields_at, Listing, places_hold, Holds, HoldFields, HasBody, IsRoot, IsReadable}
use Rattle.descr_table.proofs.Keeps.{IsRanged, AreRanged, count-row, keeps_size, keeps_field, keeps_array, keeps_call, keeps_function}

abbrev Names : Type 0
Names = List (List ℕ)

-- a value of the kind is held
value_holds : (d : Names) (v : Given) (k : Kind) → is_of v k ≡ true → is_undefined d v ≡ false → IsRanged v → Holds d k (initial_of d v)
value_holds d (given.Int z) kind.Int e u r = r
value_holds d (given.Int z) kind.Ref e u r = absurd cc
value_holds d given.Null kind.Int e u r = absurd cc
value_holds d given.Null kind.Ref e u r = tt
value_holds d (given.Name n) kind.Int e u r = absurd cc
value_holds d (given.Name n) kind.Ref e u r = (n, named_at n d (not-false (has_name n d) u), r)

default_holds : (d : Names) (k : Kind) → Holds d k (default_of k)
default_holds d kind.Int = omega arith
default_holds d kind.Ref = tt

-- what a line without refusal says of its parts
pub record IsPart (d : Names) (fields : List FieldRow) (size : ℕ) (p : Part) : Type 0 where
  pub good : is_bad_field size p.value (row_at fields (number_of p.name (map (λ (r : FieldRow). r.name) fields))) ≡ false
  pub defined : is_undefined d p.value ≡ false
  pub ranged : IsRanged p.value

part_holds : (d : Names) (fields : List FieldRow) (size j : ℕ) (row : FieldRow) (p : Part) → number_of row.name (map (λ (r : FieldRow). r.name) fields) ≡ Some j → slice_get fields j ≡ Some row → p.name ≡ row.name → IsPart d fields size p → Holds d row.kind (initial_of d p.value)
part_holds d fields size j row p number at bytes_same h =
    let names = map (λ (r : FieldRow). r.name) fields in
    let here : row_at fields (number_of p.name names) ≡ Some row = ap (λ n. row_at fields (number_of n names)) bytes_same ∙ ap (row_at fields) number ∙ at in
    let good : is_bad_field size p.value (Some row) ≡ false = sym (ap (is_bad_field size p.value) here) ∙ h.good in
    let both = or_parts (not (eqb row.size size)) (not (is_of p.value row.kind)) good in
    value_holds d p.value row.kind (not-false (is_of p.value row.kind) both.1) h.defined h.ranged

given_holds : (d : Names) (fields : List FieldRow) (size j : ℕ) (row : FieldRow) (parts : List Part) → number_of row.name (map (λ (r : FieldRow). r.name) fields) ≡ Some j → slice_get fields j ≡ Some row → Each (IsPart d fields size) parts → Holds d row.kind (initial_or d row.kind (given_for row.name parts))
given_holds d fields size j row [] number at h = default_holds d row.kind
given_holds d fields size j row (p ∷ ps) number at h = by_name (bytes_eq p.name row.name) refl (given_holds d fields size j row ps number at h.1) where
  by_name : (b : Bool) → bytes_eq p.name row.name ≡ b → Holds d row.kind (initial_or d row.kind (given_for row.name ps)) → Holds d row.kind (initial_or d row.kind (cond b (Some p.value) (given_for row.name ps)))
  by_name true e others = part_holds d fields size j row p number at (bytes_same p.name row.name e) h.0
  by_name false e others = others

fields_hold : (d : Names) (fields : List FieldRow) (size : ℕ) (parts : List Part) (js : List ℕ) → ((n : List ℕ) → count n (map (λ (r : FieldRow). r.name) fields) ≤ 1) → Each (IsPart d fields size) parts
    → Each (λ j. (x : FieldRow) × (slice_get fields j ≡ Some x) × (nat_eq x.size size ≡ true)) js → HoldFields d fields js (map (λ j. field_initial d parts (slice_get fields j)) js)
fields_hold d fields size parts [] once h i = tt
fields_hold d fields size parts (j ∷ js) once h i =
    let row = i.0.0 in
    let at : slice_get fields j ≡ Some row = i.0.1 in
    let number : number_of row.name (map (λ (r : FieldRow). r.name) fields) ≡ Some j = number_is row.name (map (λ (r : FieldRow). r.name) fields) j (get_map (λ (r : FieldRow). r.name) fields j row at) (once row.name) in
    let held : Holds d row.kind (field_initial d parts (slice_get fields j)) = rw at (given_holds d fields size j row parts number at h) in
    ((row, at, held), fields_hold d fields size parts js once h i.1)

pub listing_at : (k : ℕ) (fs : List FieldRow) (rows : List SizeRow) (i : ℕ) (r : SizeRow) → Listing k fs rows → slice_get rows i ≡ Some r → r.fields ≡ fields_at (k + i) fs
listing_at k fs [] i r h e = absurd cc
listing_at k fs (x ∷ xs) zero r h e =
    let is : x ≡ r = cc in
    let at : k ≡ k + 0 = omega arith in
    sym (ap (λ (y : SizeRow). y.fields) is) ∙ h.0 ∙ ap (λ n. fields_at n fs) at
listing_at k fs (x ∷ xs) (suc i) r h e =
    let at : suc k + i ≡ k + suc i = omega arith in
    listing_at (suc k) fs xs i r h.1 e ∙ ap (λ n. fields_at n fs) at

parts_are : (d : Names) (fields : List FieldRow) (size : ℕ) (parts : List Part) → Each (λ (p : Part). is_bad_field size p.value (row_at fields (number_of p.name (map (λ (r : FieldRow). r.name) fields))) ≡ false) parts
    → Each (λ (p : Part). is_undefined d p.value ≡ false) parts → Each (λ (p : Part). IsRanged p.value) parts → Each (IsPart d fields size) parts
parts_are d fields size [] a b c = tt
parts_are d fields size (p ∷ ps) a b c = (record { good = a.0; defined = b.0; ranged = c.0 }, parts_are d fields size ps a.1 b.1 c.1)

items_hold : (d : Names) (r : ArrayRow) (vs : List Given) → Each (λ v. is_bad_item (Some r) v ≡ false) vs → Each (λ v. is_undefined d v ≡ false) vs → Each IsRanged vs → Each (Holds d r.kind) (map (λ v. initial_of d v) vs)
items_hold d r [] a b c = tt
items_hold d r (v ∷ vs) a b c = (value_holds d v r.kind (not-false (is_of v r.kind) a.0) b.0 c.0, items_hold d r vs a.1 b.1 c.1)

-- the bytes_same table with one more prebuilt object
keeps_root : (d : Names) (t : Table) (row : PrebuiltRow) → IsReadable d t → has_name row.name (map (λ (r : PrebuiltRow). r.name) t.prebuilts) ≡ false → IsRoot d t.sizes t.fields t.arrays row
    → bytes_of (record t { prebuilts = t.prebuilts ++ row ∷ [] }) ≤ 32768 → IsReadable d (record t { prebuilts = t.prebuilts ++ row ∷ [] })
keeps_root d t row h free root b =
    record {
      shapes = h.shapes;
      listing = h.listing;
      owned = h.owned;
      named = h.named;
      classes = h.classes;
      roots = λ m. omega (arith, count-row m (λ (r : PrebuiltRow). r.name) t.prebuilts row, one_more (λ n. count n (map (λ (r : PrebuiltRow). r.name) t.prebuilts)) m row.name (count_free row.name (map (λ (r : PrebuiltRow). r.name) t.prebuilts) free) (h.roots m));
      sizes = h.sizes;
      fields = h.fields;
      arrays = h.arrays;
      calls = h.calls;
      functions = h.functions;
      prebuilts = each_push (IsRoot d t.sizes t.fields t.arrays) t.prebuilts row h.prebuilts root;
      few_shapes = h.few_shapes;
      few_functions = h.few_functions;
      few_calls = h.few_calls;
      bytes = b;
    }

keeps_object : (n s : List ℕ) (parts : List Part) (d : Names) (t : Table) → IsForm (Object n s parts) → AreRanged (Object n s parts) → IsClear (Object n s parts) d t → IsReadable d t → bytes_of (put (Object n s parts) d t) ≤ 32768 → IsReadable d (put (Object n s parts) d t)
unfolding put_at is_twice is_unknown is_bad_initial
keeps_object n s parts d t i ranged c h b =
    let names = map (λ (r : FieldRow). r.name) t.fields in
    let size_names = map (λ (r : SizeRow). r.name) t.sizes in
    let at = place s size_names in
    let twice = or_parts (has_name n (map (λ (r : PrebuiltRow). r.name) t.prebuilts)) (repeats [] (map (λ (p : Part). p.name) parts)) c.new in
    let u = or_parts (not (has_name s size_names) || list_any (λ (p : Part). not (has_name p.name names)) parts) (list_any (λ (p : Part). is_undefined d p.value) parts) c.known in
    let k = or_parts (not (has_name s size_names)) (list_any (λ (p : Part). not (has_name p.name names)) parts) u.0 in
    let size = row_of (λ (r : SizeRow). r.name) t.sizes s (not-false (has_name s size_names) k.0) in
    let lists : size.row.fields ≡ fields_at at t.fields = listing_at 0 t.fields t.sizes at size.row h.listing size.at ∙ ap (λ m. fields_at m t.fields) (zero-add at) in
    let stand : Each (λ j. (x : FieldRow) × (slice_get t.fields j ≡ Some x) × (nat_eq x.size at ≡ true)) (fields_at at t.fields) = places_hold (λ (f : FieldRow). nat_eq f.size at) [] t.fields t.fields refl in
    let are : Each (IsPart d t.fields at) parts = parts_are d t.fields at parts (none_of (λ (p : Part). is_bad_field at p.value (row_at t.fields (number_of p.name names))) parts c.fits) (none_of (λ (p : Part). is_undefined d p.value) parts u.1) ranged in
    let once : (m : List ℕ) → count m names ≤ 1 = λ m. omega (arith, h.named m) in
    let held : HoldFields d t.fields size.row.fields (map (λ j. field_initial d parts (slice_get t.fields j)) size.row.fields) = fields_hold d t.fields at parts size.row.fields once are (subst (Each (λ j. (x : FieldRow) × (slice_get t.fields j ≡ Some x) × (nat_eq x.size at ≡ true))) (sym lists) stand) in
    let fs : fields_in (slice_get t.sizes at) ≡ size.row.fields = ap fields_in size.at in
    let row : PrebuiltRow = record { name = n; of = shape.Size at; parts = map (λ j. field_initial d parts (slice_get t.fields j)) (fields_in (slice_get t.sizes at)) } in
    let body : HasBody d t.sizes t.fields t.arrays (shape.Size at) row.parts = (size.row, size.at, subst (λ (js : List ℕ). HoldFields d t.fields size.row.fields (map (λ j. field_initial d parts (slice_get t.fields j)) js)) (sym fs) held) in
    keeps_root d t row h twice.0 (record { name = i.0; body = body }) b

keeps_items : (n a : List ℕ) (items : List Given) (d : Names) (t : Table) → IsForm (Items n a items) → AreRanged (Items n a items) → IsClear (Items n a items) d t → IsReadable d t → bytes_of (put (Items n a items) d t) ≤ 32768 → IsReadable d (put (Items n a items) d t)
unfolding put_at is_twice is_unknown is_bad_initial
keeps_items n a items d t i ranged c h b =
    let names = map (λ (r : ArrayRow). r.name) t.arrays in
    let at = place a names in
    let k = or_parts (not (has_name a names)) (list_any (λ v. is_undefined d v) items) c.known in
    let array = row_of (λ (r : ArrayRow). r.name) t.arrays a (not-false (has_name a names) k.0) in
    let here : row_at t.arrays (number_of a names) ≡ Some array.row = ap (row_at t.arrays) array.number ∙ array.at in
    let bad : Each (λ v. is_bad_item (row_at t.arrays (number_of a names)) v ≡ false) items = none_of (λ v. is_bad_item (row_at t.arrays (number_of a names)) v) items c.fits in
    let good : Each (λ v. is_bad_item (Some array.row) v ≡ false) items = subst (λ (o : Option ArrayRow). Each (λ v. is_bad_item o v ≡ false) items) here bad in
    let row : PrebuiltRow = record { name = n; of = shape.Array at; parts = map (λ v. initial_of d v) items } in
    let body : HasBody d t.sizes t.fields t.arrays (shape.Array at) row.parts = (array.row, array.at, items_hold d array.row items good (none_of (λ v. is_undefined d v) items k.1) ranged) in
    keeps_root d t row h c.new (record { name = i.0; body = body }) b

keeps_by : (f : Form) (d : Names) (t : Table) → IsForm f → AreRanged f → IsClear f d t → IsReadable d t → bytes_of (put f d t) ≤ 32768 → IsReadable d (put f d t)
keeps_by (Size n v) d t i r c h b = keeps_size n v d t i c h b
keeps_by (Field n s k im) d t i r c h b = keeps_field n s k im d t i c h b
keeps_by (Array n k) d t i r c h b = keeps_array n k d t i c h b
keeps_by (Call n args gives reads writes) d t i r c h b = keeps_call n args gives reads writes d t i c h b
keeps_by (Function n) d t i r c h b = keeps_function n d t i c h b
keeps_by (Object n s parts) d t i r c h b = keeps_object n s parts d t i r c h b
keeps_by (Items n a items) d t i r c h b = keeps_items n a items d t i r c h b

pub keeps : (f : Form) (d : Names) (t : Table) → IsForm f → AreRanged f → refusal f d t ≡ None → IsReadable d t → IsReadable d (put f d t)
keeps f d t i r e h =
    let b : bytes_of (put f d t) ≤ 32768 = rw (bytes_put f d t) (fits f (names_of t) d t (bytes_of t) e h.bytes) in
    keeps_by f d t i r (clear f d t e) h b
