-- The lines of calls and functions that write a table are read back.
use Rattle.std.proofs.Common.{◌≡◌, ℕ, ◌+◌, ◌<◌, ◌≤◌, true, false, List, [], ◌∷◌, ◌++◌, length, map, Some, refl, sym, ap, subst, ◌∙◌, arith, append_assoc, length-append}
use Rattle.std.specs.Prelude.{slice_get, option_to_list, not, ◌||◌}
use Rattle.std.specs.Str.{bytes_eq}
use Rattle.std.specs.List.{flat_map}
use Rattle.std.proofs.lemmas.List.{append-nil}
use Rattle.text_lines.specs.Names.{has_name}
use Rattle.trace_ops.specs.declared.table.SizeRow.{SizeRow}
use Rattle.trace_ops.specs.declared.table.FieldRow.{FieldRow}
use Rattle.trace_ops.specs.declared.table.ArrayRow.{ArrayRow}
use Rattle.trace_ops.specs.declared.table.CallRow.{CallRow}
use Rattle.trace_ops.specs.declared.table.PrebuiltRow.{PrebuiltRow}
use Rattle.trace_ops.specs.declared.table.Table.{Table}
use Rattle.trace_ops.specs.declared.table.What.TheVariants as what
use Rattle.descr_table.proofs.Counts.{count, one_if, count-append, free_count, is_known, place_is}
use Rattle.descr_table.proofs.Readable.{Each, IsReadable}
use Rattle.std.specs.List.{list_any}
use Rattle.std.proofs.lemmas.List.{length-map}
use Rattle.lists.proofs.Bools.{or_false, bytes_itself}
use Rattle.lists.proofs.Places.{get_map}
use Rattle.descr_table.specs.declared.form.Form.TheVariants.{Function}
use Rattle.descr_table.specs.Meaning.{is_misplaced, is_twice, is_unknown, is_bad_initial, or_else, full, over, limit_at, place, put_at, put}
use Rattle.descr_table.specs.Names.{field_name, field_name_in}
use Rattle.descr_table.proofs.Counts.{number_is}
use Rattle.descr_table.specs.Meaning.{place}
use Rattle.text_lines.specs.Names.{number_of}
use Rattle.descr_table.proofs.Clear.{IsClear, not_refused, false_not, of_none, none_full, none_over, none_else}
use Rattle.descr_table.proofs.Readable.{Reads, Writes, IsCall}
use Rattle.descr_table.proofs.RowForms.{call_form, Goes}
use Rattle.descr_table.proofs.ShapesBack.{stands_in}

abbrev Names : Type 0
Names = List (List ℕ)

abbrev vtable_of : SizeRow → Names
vtable_of r = option_to_list r.vtable

-- a table with these calls, functions and prebuilt objects
abbrev pub rows_so_far : Table → List CallRow → Names → List PrebuiltRow → Table
rows_so_far t calls functions roots = record { shapes = t.shapes; sizes = t.sizes; fields = t.fields; arrays = t.arrays; calls = calls; functions = functions; prebuilts = roots }

abbrev pub field_names : Table → Names
field_names t = map (λ (r : FieldRow). r.name) t.fields

-- a field by its name
pub record FieldOf (t : Table) (f : ℕ) (row : FieldRow) : Type 0 where
  pub named : field_name t f ≡ row.name
  pub known : has_name (field_name t f) (field_names t) ≡ true
  pub number : number_of (field_name t f) (field_names t) ≡ Some f
  pub at_place : place (field_name t f) (field_names t) ≡ f

pub field_of : (d : Names) (t : Table) (f : ℕ) (row : FieldRow) → slice_get t.fields f ≡ Some row → IsReadable d t → FieldOf t f row
field_of d t f row at h =
    let named : field_name t f ≡ row.name = ap field_name_in at in
    let here : slice_get (field_names t) f ≡ Some (field_name t f) = get_map (λ (r : FieldRow). r.name) t.fields f row at ∙ ap Some (sym named) in
    let once : count (field_name t f) (field_names t) ≤ 1 = omega (arith, h.named (field_name t f)) in
    record { named = named; known = is_known (field_name t f) (field_names t) f here; number = number_is (field_name t f) (field_names t) f here once; at_place = place_is (field_name t f) (field_names t) f here once }

reads_known : (d : Names) (t : Table) (fs : List ℕ) → Each (Reads t.fields) fs → IsReadable d t → Each (λ n. not (has_name n (field_names t)) ≡ false) (map (λ f. field_name t f) fs)
reads_known d t [] h i = tt
reads_known d t (f ∷ fs) h i = (false_not (has_name (field_name t f) (field_names t)) (field_of d t f h.0.0 h.0.1 i).known, reads_known d t fs h.1 i)

writes_known : (d : Names) (t : Table) (fs : List ℕ) → Each (Writes t.fields) fs → IsReadable d t → Each (λ n. not (has_name n (field_names t)) ≡ false) (map (λ f. field_name t f) fs)
writes_known d t [] h i = tt
writes_known d t (f ∷ fs) h i = (false_not (has_name (field_name t f) (field_names t)) (field_of d t f h.0.0 h.0.1 i).known, writes_known d t fs h.1 i)

reads_back : (d : Names) (t : Table) (fs : List ℕ) → Each (Reads t.fields) fs → IsReadable d t → map (λ n. place n (field_names t)) (map (λ f. field_name t f) fs) ≡ fs
reads_back d t [] h i = refl
reads_back d t (f ∷ fs) h i = cc ((field_of d t f h.0.0 h.0.1 i).at_place, reads_back d t fs h.1 i)

writes_back : (d : Names) (t : Table) (fs : List ℕ) → Each (Writes t.fields) fs → IsReadable d t → map (λ n. place n (field_names t)) (map (λ f. field_name t f) fs) ≡ fs
writes_back d t [] h i = refl
writes_back d t (f ∷ fs) h i = cc ((field_of d t f h.0.0 h.0.1 i).at_place, writes_back d t fs h.1 i)

call_clear : (d : Names) (t : Table) (done : List CallRow) (r : CallRow) (rest : List CallRow) → t.calls ≡ done ++ r ∷ rest → IsCall t.fields r → IsReadable d t → IsClear (call_form t r) d (rows_so_far t done [] [])
unfolding is_misplaced is_twice is_unknown is_bad_initial limit_at
call_clear d t done r rest e call h =
    let stands = stands_in (λ (x : CallRow). x.name) t.calls done r rest e in
    let sizes = map (λ (x : SizeRow). x.name) t.sizes in
    let arrays = map (λ (x : ArrayRow). x.name) t.arrays in
    let calls = map (λ (x : CallRow). x.name) done in
    let reads = map (λ f. field_name t f) r.reads in
    let writes = map (λ f. field_name t f) r.writes in
    let a : has_name r.name sizes ≡ false = free_count r.name sizes (omega (arith, stands.parts, h.named r.name)) in
    let b : has_name r.name (field_names t) ≡ false = free_count r.name (field_names t) (omega (arith, stands.parts, h.named r.name)) in
    let c : has_name r.name arrays ≡ false = free_count r.name arrays (omega (arith, stands.parts, h.named r.name)) in
    let f : has_name r.name calls ≡ false = free_count r.name calls (omega (arith, stands.parts, h.named r.name)) in
    let lt : length done < 1024 = omega (arith, ap length e, length-append done (r ∷ rest), h.few_calls) in
    record {
      placed = refl;
      new = or_false (has_name r.name sizes || has_name r.name (field_names t)) (has_name r.name arrays || has_name r.name calls) (or_false (has_name r.name sizes) (has_name r.name (field_names t)) a b) (or_false (has_name r.name arrays) (has_name r.name calls) c f);
      known = or_false (list_any (λ n. not (has_name n (field_names t))) reads) (list_any (λ n. not (has_name n (field_names t))) writes) (of_none (λ n. not (has_name n (field_names t))) reads (reads_known d t r.reads call.reads h)) (of_none (λ n. not (has_name n (field_names t))) writes (writes_known d t r.writes call.writes h));
      fits = refl;
      few = none_else (full what.Calls 1024 (length done)) (or_else (over what.Arguments 6 (length r.args)) (or_else (over what.Reads 16 (length reads)) (over what.Writes 16 (length writes)))) (none_full what.Calls 1024 (length done) lt)
          (none_else (over what.Arguments 6 (length r.args)) (or_else (over what.Reads 16 (length reads)) (over what.Writes 16 (length writes))) (none_over what.Arguments 6 (length r.args) call.arguments)
          (none_else (over what.Reads 16 (length reads)) (over what.Writes 16 (length writes)) (none_over what.Reads 16 (length reads) (omega (arith, length-map r.reads (λ f. field_name t f), call.few_reads))) (none_over what.Writes 16 (length writes) (omega (arith, length-map r.writes (λ f. field_name t f), call.few_writes)))));
    }

call_put : (d : Names) (t : Table) (done : List CallRow) (r : CallRow) → IsCall t.fields r → IsReadable d t → put (call_form t r) d (rows_so_far t done [] []) ≡ rows_so_far t (done ++ r ∷ []) [] []
unfolding put_at
call_put d t done r call h =
    let reads = reads_back d t r.reads call.reads h in
    let writes = writes_back d t r.writes call.writes h in
    λ i. rows_so_far t (done ++ record { name = r.name; args = r.args; result = r.result; reads = reads i; writes = writes i } ∷ []) [] []

pub calls_go : (d : Names) (t : Table) (done rest : List CallRow) → t.calls ≡ done ++ rest → Each (IsCall t.fields) rest → IsReadable d t → Goes d (rows_so_far t done [] []) (map (λ r. call_form t r) rest) (rows_so_far t t.calls [] [])
calls_go d t done [] e calls h = ap (λ (cs : List CallRow). rows_so_far t cs [] []) (sym (e ∙ append-nil done))
calls_go d t done (r ∷ rest) e calls h =
    let more : Goes d (rows_so_far t (done ++ r ∷ []) [] []) (map (λ r. call_form t r) rest) (rows_so_far t t.calls [] []) = calls_go d t (done ++ r ∷ []) rest (e ∙ sym (append_assoc done (r ∷ []) rest)) calls.1 h in (
      not_refused (call_form t r) d (rows_so_far t done [] []) (call_clear d t done r rest e calls.0 h),
      subst (λ (x : Table). Goes d x (map (λ r. call_form t r) rest) (rows_so_far t t.calls [] [])) (sym (call_put d t done r calls.0 h)) more,
    )

-- ---- functions

function_clear : (d : Names) (t : Table) (done : Names) (n : List ℕ) (rest : Names) → t.functions ≡ done ++ n ∷ rest → IsReadable d t → IsClear (Function n) d (rows_so_far t t.calls done [])
unfolding is_misplaced is_twice is_unknown is_bad_initial limit_at
function_clear d t done n rest e h =
    let vtables = flat_map vtable_of t.sizes in
    let own : one_if (bytes_eq n n) ≡ 1 = rw (bytes_itself n) refl in
    let all : count n t.functions ≡ count n done + count n (n ∷ rest) = ap (count n) e ∙ count-append n done (n ∷ rest) in
    let a : has_name n vtables ≡ false = free_count n vtables (omega (arith, own, all, h.classes n)) in
    let b : has_name n done ≡ false = free_count n done (omega (arith, own, all, h.classes n)) in
    let lt : length done < 1024 = omega (arith, ap length e, length-append done (n ∷ rest), h.few_functions) in
    record { placed = refl; new = or_false (has_name n vtables) (has_name n done) a b; known = refl; fits = refl; few = none_full what.Functions 1024 (length done) lt }

pub functions_go : (d : Names) (t : Table) (done rest : Names) → t.functions ≡ done ++ rest → IsReadable d t → Goes d (rows_so_far t t.calls done []) (map (λ n. Function n) rest) (rows_so_far t t.calls t.functions [])
unfolding put_at
functions_go d t done [] e h = ap (λ (ns : Names). rows_so_far t t.calls ns []) (sym (e ∙ append-nil done))
functions_go d t done (n ∷ rest) e h =
    let more : Goes d (rows_so_far t t.calls (done ++ n ∷ []) []) (map (λ n. Function n) rest) (rows_so_far t t.calls t.functions []) = functions_go d t (done ++ n ∷ []) rest (e ∙ sym (append_assoc done (n ∷ []) rest)) h in
    (not_refused (Function n) d (rows_so_far t t.calls done []) (function_clear d t done n rest e h), more)
