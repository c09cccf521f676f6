-- The text of a table that was read is read as that table.
use Rattle.std.proofs.Common.{◌≡◌, ℕ, ◌<◌, true, false, List, [], ◌∷◌, ◌++◌, length, map, Option, Some, None, Ok, refl, sym, ap, subst, ◌∙◌, arith, append_assoc}
use Rattle.std.specs.Prelude.{slice_get}
use Rattle.std.specs.List.{flat_map}
use Rattle.std.proofs.lemmas.List.{append-nil, map-append}
use Rattle.text_lines.specs.Laws.{LinesAreSpelled}
use Rattle.text_lines.specs.Lines.{lines}
use Rattle.text_lines.specs.Words.{is_name}
use Rattle.text_lines.specs.Names.{has_name, with_name}
use Rattle.lists.specs.Refused.{read_lines}
use Rattle.trace_ops.specs.declared.table.ShapeOf.{ShapeOf}
use Rattle.trace_ops.specs.declared.table.ShapeOf.TheVariants as shape
use Rattle.trace_ops.specs.declared.table.SizeRow.{SizeRow}
use Rattle.trace_ops.specs.declared.table.FieldRow.{FieldRow}
use Rattle.trace_ops.specs.declared.table.ArrayRow.{ArrayRow}
use Rattle.trace_ops.specs.declared.table.CallRow.{CallRow}
use Rattle.trace_ops.specs.declared.table.PrebuiltRow.{PrebuiltRow}
use Rattle.trace_ops.specs.declared.table.Initial.{Initial}
use Rattle.trace_ops.specs.declared.table.Table.{Table}
use Rattle.descr_table.specs.declared.form.Form.{Form}
use Rattle.descr_table.specs.declared.form.Form.TheVariants.{Function}
use Rattle.descr_table.specs.Meaning.{nothing}
use Rattle.descr_table.specs.Reading.{prebuilt_name, with_defined, defined_in, defined_behind, read_line, table_at}
use Rattle.descr_table.specs.Writing.{shape_line, field_line, call_line, function_line, prebuilt_line, table_text}
use Rattle.descr_table.proofs.Counts.{free_count}
use Rattle.descr_table.proofs.Readable.{Each, IsCall, IsRoot, IsReadable}
use Rattle.descr_table.proofs.RowForms.{size_forms, array_forms, shape_forms, field_form, call_form, body_form, root_form, Goes, goes_on, read_goes, defined_by, defined_said, defined_both}
use Rattle.descr_table.proofs.ShapesBack.{stands_in, shapes_so_far, all_shapes_go}
use Rattle.descr_table.proofs.FieldsBack.{fields_so_far, fields_go, fields_begin, fields_end}
use Rattle.descr_table.proofs.CallsBack.{rows_so_far, calls_go, functions_go}
use Rattle.descr_table.proofs.RootsBack.{root_names, roots_go}
use Rattle.descr_table.proofs.LinesSay.{Block, block_both, block_map, shape_blocks, field_block, call_block, function_block, root_block}
use Rattle.descr_table.proofs.LinesKept.{readable}

abbrev Names : Type 0
Names = List (List ℕ)

abbrev shapes_of : Table → List Form
shapes_of t = flat_map (λ s. shape_forms t s) t.shapes

abbrev fields_of : Table → List Form
fields_of t = map (λ r. field_form t r) t.fields

abbrev calls_of : Table → List Form
calls_of t = map (λ r. call_form t r) t.calls

abbrev functions_of : Table → List Form
functions_of t = map (λ n. Function n) t.functions

abbrev roots_of : Table → List Form
roots_of t = map (λ r. root_form t r) t.prebuilts

-- sizes and arrays in their order, then the other rows
abbrev forms_of : Table → List Form
forms_of t = (((shapes_of t ++ fields_of t) ++ calls_of t) ++ functions_of t) ++ roots_of t

-- ---- the text says the forms

named_and_owned : (n : ℕ) (fs : List FieldRow) → Each (λ (r : FieldRow). (is_name r.name ≡ true)) fs → Each (λ (r : FieldRow). (r.size < n)) fs → Each (λ (r : FieldRow). (is_name r.name ≡ true) × (r.size < n)) fs
named_and_owned n [] h i = tt
named_and_owned n (f ∷ fs) h i = ((h.0, i.0), named_and_owned n fs h.1 i.1)

text_block : (spelled : LinesAreSpelled) (t : Table) → IsReadable (root_names t) t → Block (table_text t) (forms_of t)
text_block spelled t h =
    let d = root_names t in
    let shapes = flat_map (λ s. shape_line t s) t.shapes in
    let fields = flat_map (λ r. field_line t r) t.fields in
    let calls = flat_map (λ r. call_line t r) t.calls in
    let functions = flat_map (λ n. function_line n) t.functions in
    let roots = flat_map (λ r. prebuilt_line t r) t.prebuilts in
    let a : Block shapes (shapes_of t) = shape_blocks spelled d t t.shapes h in
    let b : Block fields (fields_of t) = block_map (λ (r : FieldRow). (is_name r.name ≡ true) × (r.size < length t.sizes)) (λ r. field_line t r) (λ r. field_form t r) (field_block spelled d t h) t.fields (named_and_owned (length t.sizes) t.fields h.fields h.owned) in
    let c : Block calls (calls_of t) = block_map (IsCall t.fields) (λ r. call_line t r) (λ r. call_form t r) (call_block spelled d t h) t.calls h.calls in
    let e : Block functions (functions_of t) = block_map (λ (n : List ℕ). is_name n ≡ true) (λ n. function_line n) (λ n. Function n) (function_block spelled) t.functions h.functions in
    let f : Block roots (roots_of t) = block_map (IsRoot d t.sizes t.fields t.arrays) (λ r. prebuilt_line t r) (λ r. root_form t r) (root_block spelled t h) t.prebuilts h.prebuilts in
    let ab : Block (shapes ++ fields) (shapes_of t ++ fields_of t) = block_both shapes fields (shapes_of t) (fields_of t) a b in
    let abc : Block ((shapes ++ fields) ++ calls) ((shapes_of t ++ fields_of t) ++ calls_of t) = block_both (shapes ++ fields) calls (shapes_of t ++ fields_of t) (calls_of t) ab c in
    let abce : Block (((shapes ++ fields) ++ calls) ++ functions) (((shapes_of t ++ fields_of t) ++ calls_of t) ++ functions_of t) = block_both ((shapes ++ fields) ++ calls) functions ((shapes_of t ++ fields_of t) ++ calls_of t) (functions_of t) abc e in
    block_both (((shapes ++ fields) ++ calls) ++ functions) roots (((shapes_of t ++ fields_of t) ++ calls_of t) ++ functions_of t) (roots_of t) abce f

-- ---- the forms put the table

all_go : (t : Table) → IsReadable (root_names t) t → Goes (root_names t) nothing (forms_of t) t
all_go t h =
    let d = root_names t in
    let begun : Table = shapes_so_far t.shapes t.sizes t.arrays in
    let rows : Table = rows_so_far t [] [] [] in
    let called : Table = rows_so_far t t.calls [] [] in
    let hosted : Table = rows_so_far t t.calls t.functions [] in
    let a : Goes d nothing (shapes_of t) begun = all_shapes_go d t h in
    let b0 : Goes d (fields_so_far t []) (fields_of t) (fields_so_far t t.fields) = fields_go d t [] t.fields refl h.owned h in
    let b1 : Goes d begun (fields_of t) (fields_so_far t t.fields) = subst (λ (x : Table). Goes d x (fields_of t) (fields_so_far t t.fields)) (sym (fields_begin t)) b0 in
    let b : Goes d begun (fields_of t) rows = subst (λ (x : Table). Goes d begun (fields_of t) x) (fields_end d t h) b1 in
    let c : Goes d rows (calls_of t) called = calls_go d t [] t.calls refl h.calls h in
    let e : Goes d called (functions_of t) hosted = functions_go d t [] t.functions refl h in
    let f : Goes d hosted (roots_of t) t = roots_go t [] t.prebuilts refl h.prebuilts h in
    let ab = goes_on d nothing begun rows (shapes_of t) (fields_of t) a b in
    let abc = goes_on d nothing rows called (shapes_of t ++ fields_of t) (calls_of t) ab c in
    let abce = goes_on d nothing called hosted ((shapes_of t ++ fields_of t) ++ calls_of t) (functions_of t) abc e in
    goes_on d nothing hosted t (((shapes_of t ++ fields_of t) ++ calls_of t) ++ functions_of t) (roots_of t) abce f

-- ---- the names that the text defines

size_forms_define : (o : Option SizeRow) (names : Names) → defined_by names (size_forms o) ≡ names
size_forms_define None names = refl
size_forms_define (Some r) names = refl

array_forms_define : (o : Option ArrayRow) (names : Names) → defined_by names (array_forms o) ≡ names
array_forms_define None names = refl
array_forms_define (Some r) names = refl

shapes_define : (t : Table) (ss : List ShapeOf) (names : Names) → defined_by names (flat_map (λ s. shape_forms t s) ss) ≡ names
shapes_define t [] names = refl
shapes_define t (shape.Size k ∷ ss) names = defined_both (size_forms (slice_get t.sizes k)) (flat_map (λ s. shape_forms t s) ss) names ∙ ap (λ (x : Names). defined_by x (flat_map (λ s. shape_forms t s) ss)) (size_forms_define (slice_get t.sizes k) names) ∙ shapes_define t ss names
shapes_define t (shape.Array k ∷ ss) names = defined_both (array_forms (slice_get t.arrays k)) (flat_map (λ s. shape_forms t s) ss) names ∙ ap (λ (x : Names). defined_by x (flat_map (λ s. shape_forms t s) ss)) (array_forms_define (slice_get t.arrays k) names) ∙ shapes_define t ss names

fields_define : (t : Table) (fs : List FieldRow) (names : Names) → defined_by names (map (λ r. field_form t r) fs) ≡ names
fields_define t [] names = refl
fields_define t (f ∷ fs) names = fields_define t fs names

calls_define : (t : Table) (cs : List CallRow) (names : Names) → defined_by names (map (λ r. call_form t r) cs) ≡ names
calls_define t [] names = refl
calls_define t (c ∷ cs) names = calls_define t cs names

functions_define : (ns : Names) (names : Names) → defined_by names (map (λ n. Function n) ns) ≡ names
functions_define [] names = refl
functions_define (n ∷ ns) names = functions_define ns names

root_defines : (t : Table) (n : List ℕ) (of : ShapeOf) (ps : List Initial) → prebuilt_name (body_form t n of ps) ≡ Some n
root_defines t n (shape.Size k) ps = refl
root_defines t n (shape.Array k) ps = refl

roots_define : (t : Table) (done rest : List PrebuiltRow) → t.prebuilts ≡ done ++ rest → IsReadable (root_names t) t → defined_by (map (λ (r : PrebuiltRow). r.name) done) (map (λ r. root_form t r) rest) ≡ root_names t
roots_define t done [] e h = ap (map (λ (r : PrebuiltRow). r.name)) (sym (e ∙ append-nil done))
roots_define t done (r ∷ rest) e h =
    let names = map (λ (x : PrebuiltRow). x.name) done in
    let stands = stands_in (λ (x : PrebuiltRow). x.name) t.prebuilts done r rest e in
    let free : has_name r.name names ≡ false = free_count r.name names (omega (arith, stands.parts, h.roots r.name)) in
    let added : with_name r.name names ≡ names ++ r.name ∷ [] = rw free refl in
    let here : with_defined (prebuilt_name (root_form t r)) names ≡ map (λ (x : PrebuiltRow). x.name) (done ++ r ∷ []) = ap (λ o. with_defined o names) (root_defines t r.name r.of r.parts) ∙ added ∙ sym (map-append (λ (x : PrebuiltRow). x.name) done (r ∷ [])) in
    ap (λ (x : Names). defined_by x (map (λ r. root_form t r) rest)) here ∙ roots_define t (done ++ r ∷ []) rest (e ∙ sym (append_assoc done (r ∷ []) rest)) h

all_define : (t : Table) → IsReadable (root_names t) t → defined_by [] (forms_of t) ≡ root_names t
all_define t h =
    let a : defined_by [] (shapes_of t ++ fields_of t) ≡ [] = defined_both (shapes_of t) (fields_of t) [] ∙ ap (λ (x : Names). defined_by x (fields_of t)) (shapes_define t t.shapes []) ∙ fields_define t t.fields [] in
    let b : defined_by [] ((shapes_of t ++ fields_of t) ++ calls_of t) ≡ [] = defined_both (shapes_of t ++ fields_of t) (calls_of t) [] ∙ ap (λ (x : Names). defined_by x (calls_of t)) a ∙ calls_define t t.calls [] in
    let c : defined_by [] (((shapes_of t ++ fields_of t) ++ calls_of t) ++ functions_of t) ≡ [] = defined_both ((shapes_of t ++ fields_of t) ++ calls_of t) (functions_of t) [] ∙ ap (λ (x : Names). defined_by x (functions_of t)) b ∙ functions_define t.functions [] in
    defined_both (((shapes_of t ++ fields_of t) ++ calls_of t) ++ functions_of t) (roots_of t) [] ∙ ap (λ (x : Names). defined_by x (roots_of t)) c ∙ roots_define t [] t.prebuilts refl h

-- ---- read back

text_lines_of : (text : List ℕ) (fs : List Form) (b : Block text fs) → lines text ≡ b.lines_of
unfolding lines
text_lines_of text fs b = ap lines (sym (append-nil text)) ∙ b.lines_are [] ∙ append-nil b.lines_of

readable_back : (spelled : LinesAreSpelled) (again : ℕ) (t : Table) → IsReadable (root_names t) t → table_at again (table_text t) ≡ Ok t
unfolding table_at
readable_back spelled again t h =
    let b = text_block spelled t h in
    let ls : lines (table_text t) ≡ b.lines_of = text_lines_of (table_text t) (forms_of t) b in
    let names : defined_in (table_text t) ≡ root_names t = ap (defined_behind []) ls ∙ defined_said b.lines_of (forms_of t) [] b.said_are ∙ all_define t h in
    let read : read_lines (read_line (root_names t)) again b.lines_of nothing ≡ Ok t = read_goes (root_names t) b.lines_of again (forms_of t) nothing t b.said_are (all_go t h) in
    ap (λ (d : Names). read_lines (read_line d) again (lines (table_text t)) nothing) names ∙ ap (λ (l : Names). read_lines (read_line (root_names t)) again l nothing) ls ∙ read

pub table_back : (spelled : LinesAreSpelled) (first again : ℕ) (text : List ℕ) (t : Table) → table_at first text ≡ Ok t → table_at again (table_text t) ≡ Ok t
table_back spelled first again text t e = readable_back spelled again t (readable spelled first text t e)
