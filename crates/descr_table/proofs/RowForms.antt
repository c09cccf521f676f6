-- The forms of the lines that write a table.
use Rattle.std.proofs.Common.{◌≡◌, ℕ, suc, List, [], ◌∷◌, ◌++◌, map, Option, Some, None, Result, Ok, refl, sym, ap, subst, ◌∙◌}
use Rattle.std.specs.Prelude.{slice_get}
use Rattle.lists.specs.Refused.{read_lines, ok_then}
use Rattle.text_lines.specs.Reading.{said}
use Rattle.trace_ops.specs.declared.table.ShapeOf.{ShapeOf}
use Rattle.trace_ops.specs.declared.table.ShapeOf.TheVariants as shape
use Rattle.trace_ops.specs.declared.table.SizeRow.{SizeRow}
use Rattle.trace_ops.specs.declared.table.FieldRow.{FieldRow}
use Rattle.trace_ops.specs.declared.table.ArrayRow.{ArrayRow}
use Rattle.trace_ops.specs.declared.table.CallRow.{CallRow}
use Rattle.trace_ops.specs.declared.table.PrebuiltRow.{PrebuiltRow}
use Rattle.trace_ops.specs.declared.table.Initial.{Initial}
use Rattle.trace_ops.specs.declared.table.Initial.TheVariants as initial
use Rattle.trace_ops.specs.declared.table.Table.{Table}
use Rattle.descr_table.specs.declared.form.Form.{Form}
use Rattle.descr_table.specs.declared.form.Form.TheVariants.{Size, Field, Array, Call, Object, Items}
use Rattle.descr_table.specs.declared.form.Given.{Given}
use Rattle.descr_table.specs.declared.form.Given.TheVariants as given
use Rattle.descr_table.specs.declared.form.Part.{Part}
use Rattle.descr_table.specs.declared.fault.TableFault.{TableFault}
use Rattle.descr_table.specs.Form.{form_at}
use Rattle.descr_table.specs.Meaning.{refusal, put}
use Rattle.descr_table.specs.Reading.{prebuilt_name, with_defined, defined_name, defined_behind, read_said, read_line}
use Rattle.descr_table.specs.Names.{size_name, field_name, array_name, fields_in}
use Rattle.descr_table.specs.Names.{prebuilt_name as root_name}

abbrev Names : Type 0
Names = List (List ℕ)

-- ---- the form of each row

abbrev pub size_form : SizeRow → Form
size_form r = Size r.name r.vtable

abbrev pub array_form : ArrayRow → Form
array_form r = Array r.name r.kind

abbrev pub size_forms : Option SizeRow → List Form
size_forms None = []
size_forms (Some r) = size_form r ∷ []

abbrev pub array_forms : Option ArrayRow → List Form
array_forms None = []
array_forms (Some r) = array_form r ∷ []

abbrev pub shape_forms : Table → ShapeOf → List Form
shape_forms t (shape.Size k) = size_forms (slice_get t.sizes k)
shape_forms t (shape.Array k) = array_forms (slice_get t.arrays k)

abbrev pub field_form : Table → FieldRow → Form
field_form t r = Field r.name (size_name t r.size) r.kind r.immutable

abbrev pub call_form : Table → CallRow → Form
call_form t r = Call r.name r.args r.result (map (λ f. field_name t f) r.reads) (map (λ f. field_name t f) r.writes)

abbrev pub value_form : Table → Initial → Given
value_form t (initial.Int z) = given.Int z
value_form t initial.Null = given.Null
value_form t (initial.Ptr k) = given.Name (root_name t k)

abbrev pub part_form : Table → ℕ → Initial → Part
part_form t f p = record { name = field_name t f; value = value_form t p }

abbrev pub parts_form : Table → List ℕ → List Initial → List Part
parts_form t [] ps = []
parts_form t (f ∷ fs) [] = []
parts_form t (f ∷ fs) (p ∷ ps) = part_form t f p ∷ parts_form t fs ps

abbrev pub body_form : Table → List ℕ → ShapeOf → List Initial → Form
body_form t n (shape.Size k) ps = Object n (size_name t k) (parts_form t (fields_in (slice_get t.sizes k)) ps)
body_form t n (shape.Array k) ps = Items n (array_name t k) (map (λ p. value_form t p) ps)

abbrev pub root_form : Table → PrebuiltRow → Form
root_form t r = body_form t r.name r.of r.parts

-- ---- forms are put one after the other

abbrev pub Goes : Names → Table → List Form → Table → Type 0
Goes d s [] t = s ≡ t
Goes d s (f ∷ fs) t = (refusal f d s ≡ None) × Goes d (put f d s) fs t

pub goes_on : (d : Names) (s m t : Table) (fs gs : List Form) → Goes d s fs m → Goes d m gs t → Goes d s (fs ++ gs) t
goes_on d s m t [] gs h i = subst (λ (x : Table). Goes d x gs t) (sym h) i
goes_on d s m t (f ∷ fs) gs h i = (h.0, goes_on d (put f d s) m t fs gs h.1 i)

abbrev pub one : Form → Option (Option Form)
one f = Some (Some f)

after_goes : (d : Names) (n : ℕ) (s : Table) (f : Form) → refusal f d s ≡ None → read_said d n s (one f) ≡ Ok (put f d s)
after_goes d n s f e = rw e refl

step_goes : (d : Names) (n : ℕ) (l : List ℕ) (ls : Names) (s t : Table) (f : Form) → said form_at l ≡ one f → refusal f d s ≡ None → read_lines (read_line d) (suc n) ls (put f d s) ≡ Ok t → read_lines (read_line d) n (l ∷ ls) s ≡ Ok t
unfolding read_lines read_line
step_goes d n l ls s t f e r h =
    let here : read_said d n s (said form_at l) ≡ Ok (put f d s) = ap (read_said d n s) e ∙ after_goes d n s f r in
    ap (λ (x : Result Table TableFault). ok_then x (λ made. read_lines (read_line d) (suc n) ls made)) here ∙ h

pub read_goes : (d : Names) (ls : Names) (n : ℕ) (fs : List Form) (s t : Table) → map (said form_at) ls ≡ map one fs → Goes d s fs t → read_lines (read_line d) n ls s ≡ Ok t
unfolding read_lines
read_goes d [] n [] s t e h = ap Ok h
read_goes d [] n (f ∷ fs) s t e h = absurd cc
read_goes d (l ∷ ls) n [] s t e h = absurd cc
read_goes d (l ∷ ls) n (f ∷ fs) s t e h =
    let first : said form_at l ≡ one f = cc in
    let rest : map (said form_at) ls ≡ map one fs = cc in
    step_goes d n l ls s t f first h.0 (read_goes d ls (suc n) fs (put f d s) t rest h.1)

-- the names that forms define
abbrev pub defined_by : Names → List Form → Names
defined_by names [] = names
defined_by names (f ∷ fs) = defined_by (with_defined (prebuilt_name f) names) fs

pub defined_said : (ls : Names) (fs : List Form) (names : Names) → map (said form_at) ls ≡ map one fs → defined_behind names ls ≡ defined_by names fs
unfolding defined_behind
defined_said [] [] names e = refl
defined_said [] (f ∷ fs) names e = absurd cc
defined_said (l ∷ ls) [] names e = absurd cc
defined_said (l ∷ ls) (f ∷ fs) names e =
    let first : said form_at l ≡ one f = cc in
    let rest : map (said form_at) ls ≡ map one fs = cc in
    ap (λ (o : Option (Option Form)). defined_behind (with_defined (defined_name o) names) ls) first ∙ defined_said ls fs (with_defined (prebuilt_name f) names) rest

pub defined_both : (fs gs : List Form) (names : Names) → defined_by names (fs ++ gs) ≡ defined_by (defined_by names fs) gs
defined_both [] gs names = refl
defined_both (f ∷ fs) gs names = defined_both fs gs (with_defined (prebuilt_name f) names)
