-- The lines that write a table.
use Rattle.std.specs.Prelude.{ℕ, Bool, true, false, Option, Some, None, List, [], ◌∷◌, ◌++◌, codes, slice_get}
use Rattle.std.specs.List.{flat_map}
use Rattle.std.specs.Fmt.{signed_decimal}
use Rattle.trace_ops.specs.declared.trace.Kind.{Kind}
use Rattle.trace_ops.specs.declared.table.ShapeOf.{ShapeOf}
use Rattle.trace_ops.specs.declared.table.ShapeOf.TheVariants as shape
use Rattle.trace_ops.specs.declared.table.SizeRow.{SizeRow}
use Rattle.trace_ops.specs.declared.table.FieldRow.{FieldRow}
use Rattle.trace_ops.specs.declared.table.ArrayRow.{ArrayRow}
use Rattle.trace_ops.specs.declared.table.CallRow.{CallRow}
use Rattle.trace_ops.specs.declared.table.PrebuiltRow.{PrebuiltRow}
use Rattle.trace_ops.specs.declared.table.Initial.{Initial}
use Rattle.trace_ops.specs.declared.table.Initial.TheVariants as initial
use Rattle.trace_ops.specs.declared.table.Table.{Table}
use Rattle.descr_table.specs.Spelling.{kind_word, kinds_word, result_word}
use Rattle.descr_table.specs.Names.{size_name, field_name, array_name, prebuilt_name, fields_in}

-- ---- pieces of lines

-- a word behind a space
abbrev pub word_text : List ℕ → List ℕ
word_text w = 32 ∷ w

-- a line's first word, and a name
unfoldable pub head_text : List ℕ → List ℕ → List ℕ
head_text key name = key ++ word_text name

unfoldable pub vtable_text : Option (List ℕ) → List ℕ
vtable_text None = []
vtable_text (Some v) = word_text (codes "vtable") ++ word_text v

unfoldable pub immutable_text : Bool → List ℕ
immutable_text false = []
immutable_text true = word_text (codes "immutable")

unfoldable pub of_text : List ℕ → Kind → List ℕ
of_text size k = (word_text (codes "of") ++ word_text size) ++ word_text (kind_word k)

unfoldable pub args_text : List Kind → List ℕ
args_text ks = word_text (codes "args") ++ word_text (kinds_word ks)

unfoldable pub gives_text : Option Kind → List ℕ
gives_text k = word_text (codes "result") ++ word_text (result_word k)

abbrev pub names_text : Table → List ℕ → List ℕ
names_text t ns = flat_map (λ k. word_text (field_name t k)) ns

unfoldable pub list_text : Table → List ℕ → List ℕ → List ℕ
list_text t key [] = []
list_text t key (n ∷ ns) = word_text key ++ names_text t (n ∷ ns)

unfoldable pub value_text : Table → Initial → List ℕ
value_text t (initial.Int z) = signed_decimal z
value_text t initial.Null = codes "NULL"
value_text t (initial.Ptr k) = prebuilt_name t k

unfoldable pub part_text : Table → ℕ → Initial → List ℕ
part_text t f value = (word_text (field_name t f) ++ 61 ∷ []) ++ value_text t value

-- the fields in their order, each with its value
unfoldable pub parts_text : Table → List ℕ → List Initial → List ℕ
parts_text t [] ps = []
parts_text t (f ∷ fs) [] = []
parts_text t (f ∷ fs) (p ∷ ps) = part_text t f p ++ parts_text t fs ps

abbrev pub more_items : Table → List Initial → List ℕ
more_items t xs = flat_map (λ x. (44 ∷ 32 ∷ []) ++ value_text t x) xs

unfoldable pub items_text : Table → List Initial → List ℕ
items_text t [] = []
items_text t (x ∷ xs) = value_text t x ++ more_items t xs

unfoldable pub body_text : Table → ShapeOf → List Initial → List ℕ
body_text t (shape.Size k) ps = word_text (size_name t k) ++ parts_text t (fields_in (slice_get t.sizes k)) ps
body_text t (shape.Array k) ps = ((word_text (array_name t k) ++ 32 ∷ 91 ∷ []) ++ items_text t ps) ++ 93 ∷ []

-- ---- lines

abbrev pub size_line : SizeRow → List ℕ
size_line r = (head_text (codes "size") r.name ++ vtable_text r.vtable) ++ 10 ∷ []

abbrev pub array_line : ArrayRow → List ℕ
array_line r = (head_text (codes "array") r.name ++ word_text (kind_word r.kind)) ++ 10 ∷ []

abbrev pub field_line : Table → FieldRow → List ℕ
field_line t r = ((head_text (codes "field") r.name ++ of_text (size_name t r.size) r.kind) ++ immutable_text r.immutable) ++ 10 ∷ []

abbrev pub call_line : Table → CallRow → List ℕ
call_line t r = ((((head_text (codes "calldescr") r.name ++ args_text r.args) ++ gives_text r.result) ++ list_text t (codes "reads") r.reads) ++ list_text t (codes "writes") r.writes) ++ 10 ∷ []

abbrev pub function_line : List ℕ → List ℕ
function_line n = head_text (codes "function") n ++ 10 ∷ []

abbrev pub prebuilt_line : Table → PrebuiltRow → List ℕ
prebuilt_line t r = (head_text (codes "prebuilt") r.name ++ body_text t r.of r.parts) ++ 10 ∷ []

abbrev pub size_line_of : Option SizeRow → List ℕ
size_line_of None = []
size_line_of (Some r) = size_line r

abbrev pub array_line_of : Option ArrayRow → List ℕ
array_line_of None = []
array_line_of (Some r) = array_line r

unfoldable pub shape_line : Table → ShapeOf → List ℕ
shape_line t (shape.Size k) = size_line_of (slice_get t.sizes k)
shape_line t (shape.Array k) = array_line_of (slice_get t.arrays k)

-- sizes and arrays in their order, then fields, call descrs, functions and prebuilt objects in theirs
abbrev pub table_text : Table → List ℕ
table_text t =
    (((flat_map (λ s. shape_line t s) t.shapes ++ flat_map (λ r. field_line t r) t.fields) ++ flat_map (λ r. call_line t r) t.calls)
    ++ flat_map (λ n. function_line n) t.functions) ++ flat_map (λ r. prebuilt_line t r) t.prebuilts
