-- What the lines of a table mean.
use Rattle.std.specs.Prelude.{ℕ, zero, suc, Bool, true, false, ◌||◌, not, Option, Some, None, List, [], ◌∷◌, ◌++◌, ◌+◌, ◌*◌, ◌==◌, nat_lt, nat_le, pos, length, map, sum, slice_get, unwrap_or, if◌then◌else◌}
use Rattle.std.specs.Str.{bytes_eq}
use Rattle.std.specs.List.{list_any}
use Rattle.text_lines.specs.Names.{has_name, number_of}
use Rattle.text_lines.specs.Reading.{first_of}
use Rattle.trace_ops.specs.declared.trace.Kind.{Kind}
use Rattle.trace_ops.specs.declared.trace.Kind.TheVariants as kind
use Rattle.trace_ops.specs.declared.table.ShapeOf.{ShapeOf}
use Rattle.trace_ops.specs.declared.table.ShapeOf.TheVariants as shape
use Rattle.trace_ops.specs.declared.table.SizeRow.{SizeRow}
use Rattle.trace_ops.specs.declared.table.FieldRow.{FieldRow}
use Rattle.trace_ops.specs.declared.table.ArrayRow.{ArrayRow}
use Rattle.trace_ops.specs.declared.table.PrebuiltRow.{PrebuiltRow}
use Rattle.trace_ops.specs.declared.table.Initial.{Initial}
use Rattle.trace_ops.specs.declared.table.Initial.TheVariants as initial
use Rattle.trace_ops.specs.declared.table.Table.{Table}
use Rattle.trace_ops.specs.declared.table.What.{What}
use Rattle.trace_ops.specs.declared.table.What.TheVariants as what
use Rattle.descr_table.specs.declared.form.Form.{Form}
use Rattle.descr_table.specs.declared.form.Form.TheVariants.{Size, Field, Array, Call, Function, Object, Items}
use Rattle.descr_table.specs.declared.form.Given.{Given}
use Rattle.descr_table.specs.declared.form.Given.TheVariants as given
use Rattle.descr_table.specs.declared.form.Part.{Part}
use Rattle.descr_table.specs.declared.fault.Refusal.{Refusal}
use Rattle.descr_table.specs.declared.fault.Refusal.TheVariants.{Syntax, Twice, UnknownName, BadInitial, Limit}
use Rattle.descr_table.specs.declared.known.Known.{Known}
use Rattle.descr_table.specs.Known.{names_of, is_named, is_class, is_class_if, repeats}

abbrev pub nothing : Table
nothing = record { shapes = []; sizes = []; fields = []; arrays = []; calls = []; functions = []; prebuilts = [] }

-- ---- refusals

-- a field line behind a prebuilt line
unfoldable pub is_misplaced : Form → Table → Bool
is_misplaced (Size name vtable) t = false
is_misplaced (Field name size kind immutable) t = not (length t.prebuilts == 0)
is_misplaced (Array name kind) t = false
is_misplaced (Call name args gives reads writes) t = false
is_misplaced (Function name) t = false
is_misplaced (Object name size fields) t = false
is_misplaced (Items name array items) t = false

unfoldable pub is_twice : Form → Known → Bool
is_twice (Size name vtable) k = is_named name k || is_class_if vtable k
is_twice (Field name size kind immutable) k = is_named name k
is_twice (Array name kind) k = is_named name k
is_twice (Call name args gives reads writes) k = is_named name k
is_twice (Function name) k = is_class name k
is_twice (Object name size fields) k = has_name name k.prebuilts || repeats [] (map (λ p. p.name) fields)
is_twice (Items name array items) k = has_name name k.prebuilts

-- a name of no prebuilt object
abbrev pub is_undefined : List (List ℕ) → Given → Bool
is_undefined defined (given.Int z) = false
is_undefined defined given.Null = false
is_undefined defined (given.Name name) = not (has_name name defined)

unfoldable pub is_unknown : Form → Known → List (List ℕ) → Bool
is_unknown (Size name vtable) k defined = false
is_unknown (Field name size kind immutable) k defined = not (has_name size k.sizes)
is_unknown (Array name kind) k defined = false
is_unknown (Call name args gives reads writes) k defined = list_any (λ n. not (has_name n k.fields)) reads || list_any (λ n. not (has_name n k.fields)) writes
is_unknown (Function name) k defined = false
is_unknown (Object name size fields) k defined = (not (has_name size k.sizes) || list_any (λ p. not (has_name p.name k.fields)) fields) || list_any (λ p. is_undefined defined p.value) fields
is_unknown (Items name array items) k defined = not (has_name array k.arrays) || list_any (λ v. is_undefined defined v) items

-- an integer is one, NULL and a name are references
abbrev pub is_of : Given → Kind → Bool
is_of (given.Int z) kind.Int = true
is_of (given.Int z) kind.Ref = false
is_of given.Null kind.Int = false
is_of given.Null kind.Ref = true
is_of (given.Name name) kind.Int = false
is_of (given.Name name) kind.Ref = true

abbrev pub row_at : {X : Type 0} → List X → Option ℕ → Option X
row_at rows None = None
row_at rows (Some n) = slice_get rows n

-- the place of a name, or 0
abbrev pub place : List ℕ → List (List ℕ) → ℕ
place name names = unwrap_or (number_of name names) 0

-- the field is another size's, or the value of another kind
abbrev pub is_bad_field : ℕ → Given → Option FieldRow → Bool
is_bad_field size value None = true
is_bad_field size value (Some r) = not (r.size == size) || not (is_of value r.kind)

abbrev pub is_bad_part : Known → Table → ℕ → Part → Bool
is_bad_part k t size p = is_bad_field size p.value (row_at t.fields (number_of p.name k.fields))

abbrev pub is_bad_item : Option ArrayRow → Given → Bool
is_bad_item None value = true
is_bad_item (Some r) value = not (is_of value r.kind)

unfoldable pub is_bad_initial : Form → Known → Table → Bool
is_bad_initial (Size name vtable) k t = false
is_bad_initial (Field name size kind immutable) k t = false
is_bad_initial (Array name kind) k t = false
is_bad_initial (Call name args gives reads writes) k t = false
is_bad_initial (Function name) k t = false
is_bad_initial (Object name size fields) k t = list_any (λ p. is_bad_part k t (place size k.sizes) p) fields
is_bad_initial (Items name array items) k t = list_any (λ v. is_bad_item (row_at t.arrays (number_of array k.arrays)) v) items

-- ---- limits

-- as many as the limit are there already; what is counted is one above it
abbrev pub full : What → ℕ → ℕ → Option Refusal
full what limit n = if nat_lt n limit then None else Some (Limit what (limit + 1))

-- more than the limit
abbrev pub over : What → ℕ → ℕ → Option Refusal
over what limit n = if nat_le n limit then None else Some (Limit what (limit + 1))

abbrev pub or_else : Option Refusal → Option Refusal → Option Refusal
or_else None other = other
or_else (Some why) other = Some why

abbrev pub fields_in : Option SizeRow → List ℕ
fields_in None = []
fields_in (Some r) = r.fields

-- the fields of the size of this name
abbrev pub fields_of : List ℕ → Known → Table → List ℕ
fields_of size k t = fields_in (slice_get t.sizes (place size k.sizes))

-- the bytes of an object: a header, and 8 a field; a header and a length, and 8 an item
abbrev pub shape_bytes : ShapeOf → ℕ → ℕ
shape_bytes (shape.Size s) n = 8 + 8 * n
shape_bytes (shape.Array a) n = 16 + 8 * n

abbrev pub row_bytes : PrebuiltRow → ℕ
row_bytes r = shape_bytes r.of (length r.parts)

abbrev pub bytes_of : Table → ℕ
bytes_of t = sum (map row_bytes t.prebuilts)

-- the bytes that a line adds
unfoldable pub form_bytes : Form → Known → Table → ℕ
form_bytes (Size name vtable) k t = 0
form_bytes (Field name size kind immutable) k t = 0
form_bytes (Array name kind) k t = 0
form_bytes (Call name args gives reads writes) k t = 0
form_bytes (Function name) k t = 0
form_bytes (Object name size fields) k t = 8 + 8 * length (fields_of size k t)
form_bytes (Items name array items) k t = 16 + 8 * length items

-- the sum of all bytes is at most 32768; the sum is what is counted
abbrev pub over_bytes : ℕ → Option Refusal
over_bytes n = if nat_le n 32768 then None else Some (Limit what.Prebuilt n)

-- the limit that the line passes, the first in the order of the counts
unfoldable pub limit_at : Form → Known → Table → ℕ → Option Refusal
limit_at (Size name vtable) k t bytes = full what.Shapes 1024 (length t.shapes)
limit_at (Field name size kind immutable) k t bytes = full what.Fields 64 (length (fields_of size k t))
limit_at (Array name kind) k t bytes = full what.Shapes 1024 (length t.shapes)
limit_at (Call name args gives reads writes) k t bytes =
    or_else (full what.Calls 1024 (length t.calls))
    (or_else (over what.Arguments 6 (length args)) (or_else (over what.Reads 16 (length reads)) (over what.Writes 16 (length writes))))
limit_at (Function name) k t bytes = full what.Functions 1024 (length t.functions)
limit_at (Object name size fields) k t bytes = over_bytes (bytes + (8 + 8 * length (fields_of size k t)))
limit_at (Items name array items) k t bytes = over_bytes (bytes + (16 + 8 * length items))

-- the refusals of a line in their order
unfoldable pub refusal_at : Form → Known → List (List ℕ) → Table → ℕ → Option Refusal
refusal_at f k defined t bytes =
    or_else (first_of ((is_misplaced f t, Syntax) ∷ (is_twice f k, Twice) ∷ (is_unknown f k defined, UnknownName) ∷ (is_bad_initial f k t, BadInitial) ∷ []))
    (limit_at f k t bytes)

abbrev pub refusal : Form → List (List ℕ) → Table → Option Refusal
refusal f defined t = refusal_at f (names_of t) defined t (bytes_of t)

-- ---- what a line adds

-- the size at this number has one more field
abbrev pub with_field : ℕ → ℕ → List SizeRow → List SizeRow
with_field at n [] = []
with_field zero n (r ∷ rs) = record r { fields = r.fields ++ n ∷ [] } ∷ rs
with_field (suc at) n (r ∷ rs) = r ∷ with_field at n rs

-- the value that is written for a field
abbrev pub given_for : List ℕ → List Part → Option Given
given_for name [] = None
given_for name (p ∷ ps) = if bytes_eq p.name name then Some p.value else given_for name ps

abbrev pub initial_of : List (List ℕ) → Given → Initial
initial_of defined (given.Int z) = initial.Int z
initial_of defined given.Null = initial.Null
initial_of defined (given.Name name) = initial.Ptr (place name defined)

-- the value of a field that is left out
abbrev pub default_of : Kind → Initial
default_of kind.Int = initial.Int (pos 0)
default_of kind.Ref = initial.Null

abbrev pub initial_or : List (List ℕ) → Kind → Option Given → Initial
initial_or defined k None = default_of k
initial_or defined k (Some value) = initial_of defined value

abbrev pub field_initial : List (List ℕ) → List Part → Option FieldRow → Initial
field_initial defined parts None = initial.Null
field_initial defined parts (Some r) = initial_or defined r.kind (given_for r.name parts)

unfoldable pub put_at : Form → Known → List (List ℕ) → Table → Table
put_at (Size name vtable) k defined t = record t { shapes = t.shapes ++ shape.Size (length t.sizes) ∷ []; sizes = t.sizes ++ record { name = name; vtable = vtable; fields = [] } ∷ [] }
put_at (Field name size kind immutable) k defined t = record t { sizes = with_field (place size k.sizes) (length t.fields) t.sizes; fields = t.fields ++ record { name = name; size = place size k.sizes; kind = kind; immutable = immutable } ∷ [] }
put_at (Array name kind) k defined t = record t { shapes = t.shapes ++ shape.Array (length t.arrays) ∷ []; arrays = t.arrays ++ record { name = name; kind = kind } ∷ [] }
put_at (Call name args gives reads writes) k defined t = record t { calls = t.calls ++ record { name = name; args = args; result = gives; reads = map (λ n. place n k.fields) reads; writes = map (λ n. place n k.fields) writes } ∷ [] }
put_at (Function name) k defined t = record t { functions = t.functions ++ name ∷ [] }
put_at (Object name size fields) k defined t = record t { prebuilts = t.prebuilts ++ record { name = name; of = shape.Size (place size k.sizes); parts = map (λ j. field_initial defined fields (slice_get t.fields j)) (fields_of size k t) } ∷ [] }
put_at (Items name array items) k defined t = record t { prebuilts = t.prebuilts ++ record { name = name; of = shape.Array (place array k.arrays); parts = map (λ v. initial_of defined v) items } ∷ [] }

abbrev pub put : Form → List (List ℕ) → Table → Table
put f defined t = put_at f (names_of t) defined t
