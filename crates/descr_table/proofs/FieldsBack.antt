-- The lines of fields that write a table are read back.
use Rattle.std.proofs.Common.{◌≡◌, ℕ, zero, suc, ◌+◌, ◌<◌, ◌≤◌, Bool, true, false, cond, List, [], ◌∷◌, ◌++◌, length, map, Some, refl, sym, ap, subst, ◌∙◌, arith, append_assoc, zero-add}
use Rattle.std.specs.Prelude.{slice_get, nat_eq, ◌||◌}
use Rattle.std.proofs.lemmas.List.{append-nil}
use Rattle.lists.proofs.Bools.{or_false}
use Rattle.lists.proofs.Places.{get_map, get_some}
use Rattle.lists.proofs.Eaches.{each_at}
use Rattle.lists.proofs.Appends.{length_push}
use Rattle.text_lines.specs.Names.{has_name}
use Rattle.trace_ops.specs.InRange.{places_from}
use Rattle.trace_ops.specs.declared.table.SizeRow.{SizeRow}
use Rattle.trace_ops.specs.declared.table.FieldRow.{FieldRow}
use Rattle.trace_ops.specs.declared.table.ArrayRow.{ArrayRow}
use Rattle.trace_ops.specs.declared.table.Table.{Table}
use Rattle.trace_ops.specs.declared.table.What.TheVariants as what
use Rattle.descr_table.specs.Meaning.{is_misplaced, is_twice, is_unknown, is_bad_initial, limit_at, place, fields_in, with_field, put_at, put}
use Rattle.descr_table.specs.Names.{size_name, size_name_in}
use Rattle.descr_table.proofs.Counts.{count, free_count, is_known, place_is}
use Rattle.descr_table.proofs.Clear.{IsClear, not_refused, false_not, none_full}
use Rattle.descr_table.proofs.Readable.{Each, fields_at, Listing, listing_field, fields-last, IsSize, IsReadable}
use Rattle.descr_table.proofs.RowForms.{field_form, Goes}
use Rattle.descr_table.proofs.ShapesBack.{stands_in, shapes_so_far}
use Rattle.descr_table.proofs.KeepsRoots.{listing_at}

abbrev Names : Type 0
Names = List (List ℕ)

-- each size with those of these fields that are its own
abbrev pub filled : ℕ → List FieldRow → List SizeRow → List SizeRow
filled k fs [] = []
filled k fs (r ∷ rs) = record { name = r.name; vtable = r.vtable; fields = fields_at k fs } ∷ filled (suc k) fs rs

filled_all : (k : ℕ) (fs : List FieldRow) (rows : List SizeRow) → Listing k fs rows → filled k fs rows ≡ rows
filled_all k fs [] h = refl
filled_all k fs (r ∷ rs) h =
    let rest = filled_all (suc k) fs rs h.1 in
    let own : fields_at k fs ≡ r.fields = sym h.0 in
    λ i. record { name = r.name; vtable = r.vtable; fields = own i } ∷ rest i

filled_lists : (k : ℕ) (fs : List FieldRow) (rows : List SizeRow) → Listing k fs (filled k fs rows)
filled_lists k fs [] = tt
filled_lists k fs (r ∷ rs) = (refl, filled_lists (suc k) fs rs)

filled_twice : (k : ℕ) (fs gs : List FieldRow) (rows : List SizeRow) → filled k gs (filled k fs rows) ≡ filled k gs rows
filled_twice k fs gs [] = refl
filled_twice k fs gs (r ∷ rs) = ap (λ (xs : List SizeRow). record { name = r.name; vtable = r.vtable; fields = fields_at k gs } ∷ xs) (filled_twice (suc k) fs gs rs)

filled_again : (k at n : ℕ) (fs gs : List FieldRow) (rows : List SizeRow) → filled k gs (with_field at n (filled k fs rows)) ≡ filled k gs rows
filled_again k at n fs gs [] = refl
filled_again k zero n fs gs (r ∷ rs) = ap (λ (xs : List SizeRow). record { name = r.name; vtable = r.vtable; fields = fields_at k gs } ∷ xs) (filled_twice (suc k) fs gs rs)
filled_again k (suc at) n fs gs (r ∷ rs) = ap (λ (xs : List SizeRow). record { name = r.name; vtable = r.vtable; fields = fields_at k gs } ∷ xs) (filled_again (suc k) at n fs gs rs)

one_field : (n : ℕ) (fs : List FieldRow) (f : FieldRow) (rows : List SizeRow) → n ≡ length fs → with_field f.size n (filled 0 fs rows) ≡ filled 0 (fs ++ f ∷ []) rows
one_field n fs f rows e =
    let h : Listing 0 (fs ++ f ∷ []) (with_field f.size n (filled 0 fs rows)) = listing_field f.size 0 n fs f (filled 0 fs rows) (omega arith) e (filled_lists 0 fs rows) in
    sym (filled_all 0 (fs ++ f ∷ []) (with_field f.size n (filled 0 fs rows)) h) ∙ filled_again 0 f.size n fs (fs ++ f ∷ []) rows

filled_none : (k : ℕ) (rows : List SizeRow) → filled k [] rows ≡ map (λ (r : SizeRow). record { name = r.name; vtable = r.vtable; fields = [] }) rows
unfolding places_from
filled_none k [] = refl
filled_none k (r ∷ rs) = ap (λ (xs : List SizeRow). record { name = r.name; vtable = r.vtable; fields = [] } ∷ xs) (filled_none (suc k) rs)

filled_names : (k : ℕ) (fs : List FieldRow) (rows : List SizeRow) → map (λ (r : SizeRow). r.name) (filled k fs rows) ≡ map (λ (r : SizeRow). r.name) rows
filled_names k fs [] = refl
filled_names k fs (r ∷ rs) = ap (λ (x : Names). r.name ∷ x) (filled_names (suc k) fs rs)

filled_at : (k : ℕ) (fs : List FieldRow) (rows : List SizeRow) (i : ℕ) (r : SizeRow) → slice_get rows i ≡ Some r → fields_in (slice_get (filled k fs rows) i) ≡ fields_at (k + i) fs
filled_at k fs [] i r e = absurd cc
filled_at k fs (x ∷ xs) zero r e = let at : k ≡ k + 0 = omega arith in ap (λ n. fields_at n fs) at
filled_at k fs (x ∷ xs) (suc i) r e = let at : suc k + i ≡ k + suc i = omega arith in filled_at (suc k) fs xs i r e ∙ ap (λ n. fields_at n fs) at

-- more rows have no fewer places
more_by : (b : Bool) (i : ℕ) (xs ys : List ℕ) → length xs ≤ length ys → length (cond b (i ∷ xs) xs) ≤ length (cond b (i ∷ ys) ys)
more_by true i xs ys le = omega arith
more_by false i xs ys le = le

more_places : {X : Type 0} (test : X → Bool) (j : ℕ) (xs ys : List X) → length (places_from test j xs) ≤ length (places_from test j (xs ++ ys))
unfolding places_from
more_places test j [] ys = omega arith
more_places test j (x ∷ xs) ys = more_by (test x) j (places_from test (j + 1) xs) (places_from test (j + 1) (xs ++ ys)) (more_places test (j + 1) xs ys)

few_before : (k : ℕ) (all done : List FieldRow) (f : FieldRow) (rest : List FieldRow) → all ≡ done ++ f ∷ rest → f.size ≡ k → length (fields_at k all) ≤ 64 → length (fields_at k done) < 64
few_before k all done f rest e is le =
    let split : all ≡ (done ++ f ∷ []) ++ rest = e ∙ sym (append_assoc done (f ∷ []) rest) in
    let more : length (fields_at k (done ++ f ∷ [])) ≤ length (fields_at k all) = subst (λ (xs : List FieldRow). length (fields_at k (done ++ f ∷ [])) ≤ length (fields_at k xs)) (sym split) (more_places (λ (x : FieldRow). nat_eq x.size k) 0 (done ++ f ∷ []) rest) in
    omega (arith, more, le, ap length (fields-last k done f is), length_push (fields_at k done) (length done))

abbrev pub fields_so_far : Table → List FieldRow → Table
fields_so_far t fs = record { shapes = t.shapes; sizes = filled 0 fs t.sizes; fields = fs; arrays = t.arrays; calls = []; functions = []; prebuilts = [] }

-- the size of a field, by its name
pub record SizeOf (t : Table) (fs : List FieldRow) (k : ℕ) : Type 0 where
  pub row : SizeRow
  pub at : slice_get t.sizes k ≡ Some row
  pub named : size_name t k ≡ row.name
  pub known : has_name (size_name t k) (map (λ (r : SizeRow). r.name) (filled 0 fs t.sizes)) ≡ true
  pub place_is : place (size_name t k) (map (λ (r : SizeRow). r.name) (filled 0 fs t.sizes)) ≡ k

size_of : (d : Names) (t : Table) (fs : List FieldRow) (k : ℕ) → k < length t.sizes → IsReadable d t → SizeOf t fs k
size_of d t fs k lt h =
    let r = get_some t.sizes k lt in
    let named : size_name t k ≡ r.0.name = ap size_name_in r.1 in
    let names : map (λ (x : SizeRow). x.name) t.sizes ≡ map (λ (x : SizeRow). x.name) (filled 0 fs t.sizes) = sym (filled_names 0 fs t.sizes) in
    let stands : slice_get (map (λ (x : SizeRow). x.name) t.sizes) k ≡ Some r.0.name = get_map (λ (x : SizeRow). x.name) t.sizes k r.0 r.1 in
    let here : slice_get (map (λ (x : SizeRow). x.name) (filled 0 fs t.sizes)) k ≡ Some (size_name t k) = sym (ap (λ (l : Names). slice_get l k) names) ∙ stands ∙ ap Some (sym named) in
    let once : count (size_name t k) (map (λ (x : SizeRow). x.name) (filled 0 fs t.sizes)) ≤ 1 = omega (arith, ap (count (size_name t k)) names, h.named (size_name t k)) in
    record { row = r.0; at = r.1; named = named; known = is_known (size_name t k) (map (λ (x : SizeRow). x.name) (filled 0 fs t.sizes)) k here; place_is = place_is (size_name t k) (map (λ (x : SizeRow). x.name) (filled 0 fs t.sizes)) k here once }

field_clear : (d : Names) (t : Table) (done : List FieldRow) (f : FieldRow) (rest : List FieldRow) → t.fields ≡ done ++ f ∷ rest → f.size < length t.sizes → IsReadable d t → IsClear (field_form t f) d (fields_so_far t done)
unfolding is_misplaced is_twice is_unknown is_bad_initial limit_at
field_clear d t done f rest e lt h =
    let size = size_of d t done f.size lt h in
    let stands = stands_in (λ (x : FieldRow). x.name) t.fields done f rest e in
    let a : count f.name (map (λ (x : SizeRow). x.name) (filled 0 done t.sizes)) ≡ 0 = omega (arith, ap (count f.name) (filled_names 0 done t.sizes), stands.parts, h.named f.name) in
    let b : count f.name (map (λ (x : FieldRow). x.name) done) ≡ 0 = omega (arith, stands.parts, h.named f.name) in
    let c : count f.name (map (λ (x : ArrayRow). x.name) t.arrays) ≡ 0 = omega (arith, stands.parts, h.named f.name) in
    let free_sizes : has_name f.name (map (λ (x : SizeRow). x.name) (filled 0 done t.sizes)) ≡ false = free_count f.name (map (λ (x : SizeRow). x.name) (filled 0 done t.sizes)) a in
    let free_fields : has_name f.name (map (λ (x : FieldRow). x.name) done) ≡ false = free_count f.name (map (λ (x : FieldRow). x.name) done) b in
    let free_arrays : has_name f.name (map (λ (x : ArrayRow). x.name) t.arrays) ≡ false = free_count f.name (map (λ (x : ArrayRow). x.name) t.arrays) c in
    let own : size.row.fields ≡ fields_at f.size t.fields = listing_at 0 t.fields t.sizes f.size size.row h.listing size.at ∙ ap (λ n. fields_at n t.fields) (zero-add f.size) in
    let whole : length (fields_at f.size t.fields) ≤ 64 = omega (arith, ap length own, (each_at IsSize t.sizes f.size size.row h.sizes size.at).few) in
    let before : length (fields_at f.size done) < 64 = few_before f.size t.fields done f rest e refl whole in
    let rows : fields_in (slice_get (filled 0 done t.sizes) (place (size_name t f.size) (map (λ (r : SizeRow). r.name) (filled 0 done t.sizes)))) ≡ fields_at f.size done = ap (λ n. fields_in (slice_get (filled 0 done t.sizes) n)) size.place_is ∙ filled_at 0 done t.sizes f.size size.row size.at ∙ ap (λ n. fields_at n done) (zero-add f.size) in
    record {
      placed = refl;
      new = or_false (has_name f.name (map (λ (x : SizeRow). x.name) (filled 0 done t.sizes)) || has_name f.name (map (λ (x : FieldRow). x.name) done)) (has_name f.name (map (λ (x : ArrayRow). x.name) t.arrays) || false)
          (or_false (has_name f.name (map (λ (x : SizeRow). x.name) (filled 0 done t.sizes))) (has_name f.name (map (λ (x : FieldRow). x.name) done)) free_sizes free_fields) (or_false (has_name f.name (map (λ (x : ArrayRow). x.name) t.arrays)) false free_arrays refl);
      known = false_not (has_name (size_name t f.size) (map (λ (r : SizeRow). r.name) (filled 0 done t.sizes))) size.known;
      fits = refl;
      few = none_full what.Fields 64 (length (fields_in (slice_get (filled 0 done t.sizes) (place (size_name t f.size) (map (λ (r : SizeRow). r.name) (filled 0 done t.sizes)))))) (omega (arith, ap length rows, before));
    }

field_put : (d : Names) (t : Table) (done : List FieldRow) (f : FieldRow) → f.size < length t.sizes → IsReadable d t → put (field_form t f) d (fields_so_far t done) ≡ fields_so_far t (done ++ f ∷ [])
unfolding put_at
field_put d t done f lt h =
    let size = size_of d t done f.size lt h in
    let rows : with_field (place (size_name t f.size) (map (λ (r : SizeRow). r.name) (filled 0 done t.sizes))) (length done) (filled 0 done t.sizes) ≡ filled 0 (done ++ f ∷ []) t.sizes = ap (λ n. with_field n (length done) (filled 0 done t.sizes)) size.place_is ∙ one_field (length done) done f t.sizes refl in
    let at = size.place_is in
    λ i. record { shapes = t.shapes; sizes = rows i; fields = done ++ record { name = f.name; size = at i; kind = f.kind; immutable = f.immutable } ∷ []; arrays = t.arrays; calls = []; functions = []; prebuilts = [] }

pub fields_go : (d : Names) (t : Table) (done rest : List FieldRow) → t.fields ≡ done ++ rest → Each (λ (f : FieldRow). f.size < length t.sizes) rest → IsReadable d t → Goes d (fields_so_far t done) (map (λ r. field_form t r) rest) (fields_so_far t t.fields)
fields_go d t done [] e owned h = ap (λ (fs : List FieldRow). fields_so_far t fs) (sym (e ∙ append-nil done))
fields_go d t done (f ∷ rest) e owned h =
    let more : Goes d (fields_so_far t (done ++ f ∷ [])) (map (λ r. field_form t r) rest) (fields_so_far t t.fields) = fields_go d t (done ++ f ∷ []) rest (e ∙ sym (append_assoc done (f ∷ []) rest)) owned.1 h in (
      not_refused (field_form t f) d (fields_so_far t done) (field_clear d t done f rest e owned.0 h),
      subst (λ (x : Table). Goes d x (map (λ r. field_form t r) rest) (fields_so_far t t.fields)) (sym (field_put d t done f owned.0 h)) more,
    )

-- behind the sizes and arrays
pub fields_begin : (t : Table) → shapes_so_far t.shapes t.sizes t.arrays ≡ fields_so_far t []
fields_begin t = let rows = sym (filled_none 0 t.sizes) in λ i. record { shapes = t.shapes; sizes = rows i; fields = []; arrays = t.arrays; calls = []; functions = []; prebuilts = [] }

pub fields_end : (d : Names) (t : Table) → IsReadable d t → fields_so_far t t.fields ≡ record { shapes = t.shapes; sizes = t.sizes; fields = t.fields; arrays = t.arrays; calls = []; functions = []; prebuilts = [] }
fields_end d t h = let rows = filled_all 0 t.fields t.sizes h.listing in λ i. record { shapes = t.shapes; sizes = rows i; fields = t.fields; arrays = t.arrays; calls = []; functions = []; prebuilts = [] }
