-- What holds of the table that is read is kept by each line.
use Rattle.std.proofs.Common.{◌≡◌, ℕ, zero, suc, ◌+◌, ◌<◌, ◌≤◌, ◌^◌, Bool, true, false, eqb, List, [], ◌∷◌, ◌++◌, length, map, Option, Some, None, refl, sym, ap, subst, ◌∙◌, arith}
use Rattle.std.specs.Prelude.{◌||◌, not, slice_get, option_to_list, codes}
use Rattle.std.specs.Str.{bytes_eq}
use Rattle.std.specs.List.{list_any, flat_map}
use Rattle.std.proofs.lemmas.Bool.{eqb-true, or_parts, not-false}
use Rattle.std.proofs.lemmas.List.{map-append, length-map, nil_from_length, append-nil}
use Rattle.std.proofs.lemmas.List.Concat.{flat_map-append}
use lib.Signed.{mag}
use Rattle.std.proofs.lemmas.Option.{slice_get_within}
use Rattle.lists.proofs.Appends.{get_before, length_push}
use Rattle.lists.proofs.Eaches.{each_push, each_weaker}
use Rattle.text_lines.specs.Words.{is_name}
use Rattle.text_lines.specs.Names.{has_name}
use Rattle.trace_ops.specs.declared.trace.Kind.{Kind}
use Rattle.trace_ops.specs.declared.table.ShapeOf.{ShapeOf}
use Rattle.trace_ops.specs.declared.table.ShapeOf.TheVariants as shape
use Rattle.trace_ops.specs.declared.table.SizeRow.{SizeRow}
use Rattle.trace_ops.specs.declared.table.FieldRow.{FieldRow}
use Rattle.trace_ops.specs.declared.table.ArrayRow.{ArrayRow}
use Rattle.trace_ops.specs.declared.table.CallRow.{CallRow}
use Rattle.trace_ops.specs.declared.table.PrebuiltRow.{PrebuiltRow}
use Rattle.trace_ops.specs.declared.table.Initial.{Initial}
use Rattle.trace_ops.specs.declared.table.Table.{Table}
use Rattle.trace_ops.specs.declared.table.What.TheVariants as what
use Rattle.descr_table.specs.declared.form.Form.{Form}
use Rattle.descr_table.specs.declared.form.Form.TheVariants.{Size, Field, Array, Call, Function, Object, Items}
use Rattle.descr_table.specs.declared.form.Given.{Given}
use Rattle.descr_table.specs.declared.form.Given.TheVariants as given
use Rattle.descr_table.specs.declared.form.Part.{Part}
use Rattle.descr_table.specs.Known.{names_of, is_named, is_class, is_class_if}
use Rattle.descr_table.specs.Meaning.{is_misplaced, is_twice, is_unknown, place, fields_in, full, over, or_else, bytes_of, limit_at, with_field, put_at, put}
use Rattle.descr_table.specs.Spelling.{IsForm, IsReadName}
use Rattle.descr_table.proofs.Counts.{count, one_if, count-last, count_free, one_more, row_of}
use Rattle.descr_table.proofs.Clear.{IsClear, none_of, else_none, full_none, over_none}
use Rattle.descr_table.proofs.Few.{length-with_field}
use Rattle.descr_table.proofs.Noted.{map-with_field, vtables-with_field}
use Rattle.descr_table.proofs.Readable.{Each, InOrder, one_size, one_array, listing_field, listing_size, fields_none, Reads, Writes, IsCall, HasBody, IsRoot, IsSize, names_in, classes_in, IsReadable}

abbrev Names : Type 0
Names = List (List ℕ)

-- a written integer is a word of 64 bits, and a written name isn't NULL
abbrev pub IsRanged : Given → Type 0
IsRanged (given.Int z) = mag z < 2 ^ 63
IsRanged given.Null = Unit {0}
IsRanged (given.Name n) = bytes_eq n (codes "NULL") ≡ false

abbrev pub AreRanged : Form → Type 0
AreRanged (Size name vtable) = Unit {0}
AreRanged (Field name size k immutable) = Unit {0}
AreRanged (Array name k) = Unit {0}
AreRanged (Call name args gives reads writes) = Unit {0}
AreRanged (Function name) = Unit {0}
AreRanged (Object name size fields) = Each (λ (p : Part). IsRanged p.value) fields
AreRanged (Items name array items) = Each IsRanged items

-- ---- names

pub count-row : {X : Type 0} (m : List ℕ) (g : X → List ℕ) (rows : List X) (r : X) → count m (map g (rows ++ r ∷ [])) ≡ count m (map g rows) + one_if (bytes_eq m (g r))
count-row m g rows r = ap (count m) (map-append g rows (r ∷ [])) ∙ count-last m (g r) (map g rows)

new_name : (n : List ℕ) (t : Table) → is_named n (names_of t) ≡ false → names_in t n ≡ 0
new_name n t e =
    let k = names_of t in
    let h = or_parts (has_name n k.sizes || has_name n k.fields) (has_name n k.arrays || has_name n k.calls) e in
    let a = or_parts (has_name n k.sizes) (has_name n k.fields) h.0 in
    let b = or_parts (has_name n k.arrays) (has_name n k.calls) h.1 in
    omega (arith, count_free n k.sizes a.0, count_free n k.fields a.1, count_free n k.arrays b.0, count_free n k.calls b.1)

new_class : (n : List ℕ) (t : Table) → is_class n (names_of t) ≡ false → classes_in t n ≡ 0
new_class n t e =
    let k = names_of t in
    let h = or_parts (has_name n k.vtables) (has_name n k.functions) e in
    omega (arith, count_free n k.vtables h.0, count_free n k.functions h.1)

abbrev vtable_of : SizeRow → Names
vtable_of r = option_to_list r.vtable

one_class : (m : List ℕ) (vtable : Option (List ℕ)) (t : Table) (r : SizeRow) → r.vtable ≡ vtable → is_class_if vtable (names_of t) ≡ false → classes_in t m ≤ 1
    → count m (flat_map vtable_of (t.sizes ++ r ∷ [])) + count m t.functions ≤ 1
one_class m None t r is e le =
    let all : flat_map vtable_of (t.sizes ++ r ∷ []) ≡ flat_map vtable_of t.sizes = flat_map-append vtable_of t.sizes (r ∷ []) ∙ ap (λ o. flat_map vtable_of t.sizes ++ (option_to_list o ++ [])) is ∙ append-nil (flat_map vtable_of t.sizes) in
    omega (arith, ap (count m) all)
one_class m (Some v) t r is e le =
    let all : flat_map vtable_of (t.sizes ++ r ∷ []) ≡ flat_map vtable_of t.sizes ++ v ∷ [] = flat_map-append vtable_of t.sizes (r ∷ []) ∙ ap (λ o. flat_map vtable_of t.sizes ++ (option_to_list o ++ [])) is in
    omega (arith, ap (count m) all, count-last m v (flat_map vtable_of t.sizes), one_more (classes_in t) m v (new_class v t e) le)

-- ---- lists that grow

body_sizes : (d : Names) (sizes : List SizeRow) (fields : List FieldRow) (arrays : List ArrayRow) (x : SizeRow) (of : ShapeOf) (ps : List Initial) → HasBody d sizes fields arrays of ps → HasBody d (sizes ++ x ∷ []) fields arrays of ps
body_sizes d sizes fields arrays x (shape.Size k) ps h = (h.0, get_before sizes (x ∷ []) k h.0 h.1, h.2)
body_sizes d sizes fields arrays x (shape.Array k) ps h = h

body_arrays : (d : Names) (sizes : List SizeRow) (fields : List FieldRow) (arrays : List ArrayRow) (x : ArrayRow) (of : ShapeOf) (ps : List Initial) → HasBody d sizes fields arrays of ps → HasBody d sizes fields (arrays ++ x ∷ []) of ps
body_arrays d sizes fields arrays x (shape.Size k) ps h = h
body_arrays d sizes fields arrays x (shape.Array k) ps h = (h.0, get_before arrays (x ∷ []) k h.0 h.1, h.2)

call_fields : (fields : List FieldRow) (x : FieldRow) (row : CallRow) → IsCall fields row → IsCall (fields ++ x ∷ []) row
call_fields fields x row h = record {
  name = h.name;
  arguments = h.arguments;
  few_reads = h.few_reads;
  few_writes = h.few_writes;
  reads = each_weaker (Reads fields) (Reads (fields ++ x ∷ [])) (λ f r. (r.0, get_before fields (x ∷ []) f r.0 r.1, r.2)) row.reads h.reads;
  writes = each_weaker (Writes fields) (Writes (fields ++ x ∷ [])) (λ f r. (r.0, get_before fields (x ∷ []) f r.0 r.1)) row.writes h.writes;
}

sizes_field : (at n : ℕ) (rows : List SizeRow) → Each IsSize rows → length (fields_in (slice_get rows at)) < 64 → Each IsSize (with_field at n rows)
sizes_field at n [] h lt = tt
sizes_field zero n (r ∷ rs) h lt = (record { name = h.0.name; vtable = h.0.vtable; few = omega (arith, length_push r.fields n) }, h.1)
sizes_field (suc at) n (r ∷ rs) h lt = (h.0, sizes_field at n rs h.1 lt)

-- ---- sizes, fields, arrays, calls and functions

pub keeps_size : (n : List ℕ) (v : Option (List ℕ)) (d : Names) (t : Table) → IsForm (Size n v) → IsClear (Size n v) d t → IsReadable d t → bytes_of (put (Size n v) d t) ≤ 32768 → IsReadable d (put (Size n v) d t)
unfolding put_at is_twice limit_at
keeps_size n v d t i c h b =
    let row : SizeRow = record { name = n; vtable = v; fields = [] } in
    let new = or_parts (is_named n (names_of t)) (is_class_if v (names_of t)) c.new in
    let some : length t.shapes < 1024 = full_none what.Shapes 1024 (length t.shapes) c.few in
    record {
      shapes = subst (λ (m : ℕ). InOrder 0 0 (t.shapes ++ shape.Size (length t.sizes) ∷ []) m (length t.arrays)) (sym (length_push t.sizes row)) (one_size 0 0 t.shapes (length t.sizes) (length t.arrays) h.shapes);
      listing = listing_size 0 t.fields t.sizes row h.listing (sym (fields_none (0 + length t.sizes) (length t.sizes) t.fields h.owned (omega arith)));
      owned = each_weaker (λ (f : FieldRow). f.size < length t.sizes) (λ (f : FieldRow). f.size < length (t.sizes ++ row ∷ [])) (λ f lt. omega (arith, length_push t.sizes row)) t.fields h.owned;
      named = λ m. omega (arith, count-row m (λ (r : SizeRow). r.name) t.sizes row, one_more (names_in t) m n (new_name n t new.0) (h.named m));
      classes = λ m. one_class m v t row refl new.1 (h.classes m);
      roots = h.roots;
      sizes = each_push IsSize t.sizes row h.sizes (record { name = i.0; vtable = i.1; few = omega arith });
      fields = h.fields;
      arrays = h.arrays;
      calls = h.calls;
      functions = h.functions;
      prebuilts = each_weaker (IsRoot d t.sizes t.fields t.arrays) (IsRoot d (t.sizes ++ row ∷ []) t.fields t.arrays) (λ x r. record { name = r.name; body = body_sizes d t.sizes t.fields t.arrays row x.of x.parts r.body }) t.prebuilts h.prebuilts;
      few_shapes = omega (arith, length_push t.shapes (shape.Size (length t.sizes)));
      few_functions = h.few_functions;
      few_calls = h.few_calls;
      bytes = b;
    }

pub keeps_array : (n : List ℕ) (k : Kind) (d : Names) (t : Table) → IsForm (Array n k) → IsClear (Array n k) d t → IsReadable d t → bytes_of (put (Array n k) d t) ≤ 32768 → IsReadable d (put (Array n k) d t)
unfolding put_at is_twice limit_at
keeps_array n k d t i c h b =
    let row : ArrayRow = record { name = n; kind = k } in
    let some : length t.shapes < 1024 = full_none what.Shapes 1024 (length t.shapes) c.few in
    record {
      shapes = subst (λ (m : ℕ). InOrder 0 0 (t.shapes ++ shape.Array (length t.arrays) ∷ []) (length t.sizes) m) (sym (length_push t.arrays row)) (one_array 0 0 t.shapes (length t.sizes) (length t.arrays) h.shapes);
      listing = h.listing;
      owned = h.owned;
      named = λ m. omega (arith, count-row m (λ (r : ArrayRow). r.name) t.arrays row, one_more (names_in t) m n (new_name n t c.new) (h.named m));
      classes = h.classes;
      roots = h.roots;
      sizes = h.sizes;
      fields = h.fields;
      arrays = each_push (λ (r : ArrayRow). is_name r.name ≡ true) t.arrays row h.arrays i;
      calls = h.calls;
      functions = h.functions;
      prebuilts = each_weaker (IsRoot d t.sizes t.fields t.arrays) (IsRoot d t.sizes t.fields (t.arrays ++ row ∷ [])) (λ x r. record { name = r.name; body = body_arrays d t.sizes t.fields t.arrays row x.of x.parts r.body }) t.prebuilts h.prebuilts;
      few_shapes = omega (arith, length_push t.shapes (shape.Array (length t.arrays)));
      few_functions = h.few_functions;
      few_calls = h.few_calls;
      bytes = b;
    }

no_rows : {X : Type 0} (xs : List X) → not (eqb (length xs) 0) ≡ false → xs ≡ []
no_rows xs e = nil_from_length xs (eqb-true (length xs) 0 (not-false (eqb (length xs) 0) e))

pub keeps_field : (n s : List ℕ) (k : Kind) (im : Bool) (d : Names) (t : Table) → IsForm (Field n s k im) → IsClear (Field n s k im) d t → IsReadable d t → bytes_of (put (Field n s k im) d t) ≤ 32768 → IsReadable d (put (Field n s k im) d t)
unfolding put_at is_misplaced is_twice is_unknown limit_at
keeps_field n s k im d t i c h b =
    let at = place s (map (λ (r : SizeRow). r.name) t.sizes) in
    let size = row_of (λ (r : SizeRow). r.name) t.sizes s (not-false (has_name s (map (λ (r : SizeRow). r.name) t.sizes)) c.known) in
    let lt : at < length t.sizes = slice_get_within t.sizes at size.row size.at in
    let row : FieldRow = record { name = n; size = at; kind = k; immutable = im } in
    let same_len : length (with_field at (length t.fields) t.sizes) ≡ length t.sizes = length-with_field at (length t.fields) t.sizes in
    let none : t.prebuilts ≡ [] = no_rows t.prebuilts c.placed in
    let few : length (fields_in (slice_get t.sizes at)) < 64 = full_none what.Fields 64 (length (fields_in (slice_get t.sizes at))) c.few in
    let size_names : map (λ (r : SizeRow). r.name) (with_field at (length t.fields) t.sizes) ≡ map (λ (r : SizeRow). r.name) t.sizes = map-with_field (λ (r : SizeRow). r.name) (λ r m. refl) at (length t.fields) t.sizes in
    let vtables : flat_map vtable_of (with_field at (length t.fields) t.sizes) ≡ flat_map vtable_of t.sizes = vtables-with_field at (length t.fields) t.sizes in
    record {
      shapes = subst (λ (m : ℕ). InOrder 0 0 t.shapes m (length t.arrays)) (sym same_len) h.shapes;
      listing = listing_field at 0 (length t.fields) t.fields row t.sizes (omega arith) refl h.listing;
      owned = each_push (λ (f : FieldRow). f.size < length (with_field at (length t.fields) t.sizes)) t.fields row (each_weaker (λ (f : FieldRow). f.size < length t.sizes) (λ (f : FieldRow). f.size < length (with_field at (length t.fields) t.sizes)) (λ f l. omega (arith, same_len)) t.fields h.owned) (omega (arith, same_len));
      named = λ m. omega (arith, ap (count m) size_names, count-row m (λ (r : FieldRow). r.name) t.fields row, one_more (names_in t) m n (new_name n t c.new) (h.named m));
      classes = λ m. omega (arith, ap (count m) vtables, h.classes m);
      roots = h.roots;
      sizes = sizes_field at (length t.fields) t.sizes h.sizes few;
      fields = each_push (λ (r : FieldRow). is_name r.name ≡ true) t.fields row h.fields i.0;
      arrays = h.arrays;
      calls = each_weaker (IsCall t.fields) (IsCall (t.fields ++ row ∷ [])) (λ x r. call_fields t.fields row x r) t.calls h.calls;
      functions = h.functions;
      prebuilts = subst (λ (ps : List PrebuiltRow). Each (IsRoot d (with_field at (length t.fields) t.sizes) (t.fields ++ row ∷ []) t.arrays) ps) (sym none) tt;
      few_shapes = h.few_shapes;
      few_functions = h.few_functions;
      few_calls = h.few_calls;
      bytes = b;
    }

reads_placed : (fields : List FieldRow) (ns : Names) → Each IsReadName ns → Each (λ n. not (has_name n (map (λ (r : FieldRow). r.name) fields)) ≡ false) ns → Each (Reads fields) (map (λ n. place n (map (λ (r : FieldRow). r.name) fields)) ns)
reads_placed fields [] h i = tt
reads_placed fields (n ∷ ns) h i =
    let r = row_of (λ (x : FieldRow). x.name) fields n (not-false (has_name n (map (λ (x : FieldRow). x.name) fields)) i.0) in
    ((r.row, r.at, ap (λ m. bytes_eq m (codes "writes")) r.named ∙ h.0.0), reads_placed fields ns h.1 i.1)

writes_placed : (fields : List FieldRow) (ns : Names) → Each (λ n. not (has_name n (map (λ (r : FieldRow). r.name) fields)) ≡ false) ns → Each (Writes fields) (map (λ n. place n (map (λ (r : FieldRow). r.name) fields)) ns)
writes_placed fields [] i = tt
writes_placed fields (n ∷ ns) i =
    let r = row_of (λ (x : FieldRow). x.name) fields n (not-false (has_name n (map (λ (x : FieldRow). x.name) fields)) i.0) in
    ((r.row, r.at), writes_placed fields ns i.1)

pub keeps_call : (n : List ℕ) (args : List Kind) (gives : Option Kind) (reads writes : Names) (d : Names) (t : Table) → IsForm (Call n args gives reads writes) → IsClear (Call n args gives reads writes) d t → IsReadable d t → bytes_of (put (Call n args gives reads writes) d t) ≤ 32768 → IsReadable d (put (Call n args gives reads writes) d t)
unfolding put_at is_twice is_unknown limit_at
keeps_call n args gives reads writes d t i c h b =
    let names = map (λ (r : FieldRow). r.name) t.fields in
    let at : List ℕ → ℕ = λ m. place m names in
    let row : CallRow = record { name = n; args = args; result = gives; reads = map at reads; writes = map at writes } in
    let known = or_parts (list_any (λ m. not (has_name m names)) reads) (list_any (λ m. not (has_name m names)) writes) c.known in
    let l1 = else_none (full what.Calls 1024 (length t.calls)) (or_else (over what.Arguments 6 (length args)) (or_else (over what.Reads 16 (length reads)) (over what.Writes 16 (length writes)))) c.few in
    let l2 = else_none (over what.Arguments 6 (length args)) (or_else (over what.Reads 16 (length reads)) (over what.Writes 16 (length writes))) l1.1 in
    let l3 = else_none (over what.Reads 16 (length reads)) (over what.Writes 16 (length writes)) l2.1 in
    let some : length t.calls < 1024 = full_none what.Calls 1024 (length t.calls) l1.0 in
    let few_reads : length reads ≤ 16 = over_none what.Reads 16 (length reads) l3.0 in
    let few_writes : length writes ≤ 16 = over_none what.Writes 16 (length writes) l3.1 in
    record {
      shapes = h.shapes;
      listing = h.listing;
      owned = h.owned;
      named = λ m. omega (arith, count-row m (λ (r : CallRow). r.name) t.calls row, one_more (names_in t) m n (new_name n t c.new) (h.named m));
      classes = h.classes;
      roots = h.roots;
      sizes = h.sizes;
      fields = h.fields;
      arrays = h.arrays;
      calls = each_push (IsCall t.fields) t.calls row h.calls (record {
        name = i.0;
        arguments = over_none what.Arguments 6 (length args) l2.0;
        few_reads = omega (arith, length-map reads at);
        few_writes = omega (arith, length-map writes at);
        reads = reads_placed t.fields reads i.1 (none_of (λ m. not (has_name m names)) reads known.0);
        writes = writes_placed t.fields writes (none_of (λ m. not (has_name m names)) writes known.1);
      });
      functions = h.functions;
      prebuilts = h.prebuilts;
      few_shapes = h.few_shapes;
      few_functions = h.few_functions;
      few_calls = omega (arith, length_push t.calls row);
      bytes = b;
    }

pub keeps_function : (n : List ℕ) (d : Names) (t : Table) → IsForm (Function n) → IsClear (Function n) d t → IsReadable d t → bytes_of (put (Function n) d t) ≤ 32768 → IsReadable d (put (Function n) d t)
unfolding put_at is_twice limit_at
keeps_function n d t i c h b =
    let some : length t.functions < 1024 = full_none what.Functions 1024 (length t.functions) c.few in
    record {
      shapes = h.shapes;
      listing = h.listing;
      owned = h.owned;
      named = h.named;
      classes = λ m. omega (arith, count-last m n t.functions, one_more (classes_in t) m n (new_class n t c.new) (h.classes m));
      roots = h.roots;
      sizes = h.sizes;
      fields = h.fields;
      arrays = h.arrays;
      calls = h.calls;
      functions = each_push (λ (m : List ℕ). is_name m ≡ true) t.functions n h.functions i;
      prebuilts = h.prebuilts;
      few_shapes = h.few_shapes;
      few_functions = omega (arith, length_push t.functions n);
      few_calls = h.few_calls;
      bytes = b;
    }
