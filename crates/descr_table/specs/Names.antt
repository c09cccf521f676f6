-- The names of rows by their numbers; none for what isn't there.
use Rattle.std.specs.Prelude.{ℕ, Option, Some, None, List, [], slice_get}
use Rattle.trace_ops.specs.declared.table.SizeRow.{SizeRow}
use Rattle.trace_ops.specs.declared.table.FieldRow.{FieldRow}
use Rattle.trace_ops.specs.declared.table.ArrayRow.{ArrayRow}
use Rattle.trace_ops.specs.declared.table.CallRow.{CallRow}
use Rattle.trace_ops.specs.declared.table.PrebuiltRow.{PrebuiltRow}
use Rattle.trace_ops.specs.declared.table.Table.{Table}

abbrev pub size_name_in : Option SizeRow → List ℕ
size_name_in None = []
size_name_in (Some r) = r.name

abbrev pub field_name_in : Option FieldRow → List ℕ
field_name_in None = []
field_name_in (Some r) = r.name

abbrev pub array_name_in : Option ArrayRow → List ℕ
array_name_in None = []
array_name_in (Some r) = r.name

abbrev pub prebuilt_name_in : Option PrebuiltRow → List ℕ
prebuilt_name_in None = []
prebuilt_name_in (Some r) = r.name

abbrev pub size_name : Table → ℕ → List ℕ
size_name t k = size_name_in (slice_get t.sizes k)

abbrev pub field_name : Table → ℕ → List ℕ
field_name t k = field_name_in (slice_get t.fields k)

abbrev pub array_name : Table → ℕ → List ℕ
array_name t k = array_name_in (slice_get t.arrays k)

abbrev pub prebuilt_name : Table → ℕ → List ℕ
prebuilt_name t k = prebuilt_name_in (slice_get t.prebuilts k)

-- no name is written as nothing
abbrev pub or_nothing : Option (List ℕ) → List ℕ
or_nothing None = []
or_nothing (Some name) = name

abbrev pub vtable_in : Option SizeRow → List ℕ
vtable_in None = []
vtable_in (Some r) = or_nothing r.vtable

abbrev pub call_name_in : Option CallRow → List ℕ
call_name_in None = []
call_name_in (Some r) = r.name

-- the name of a size's vtable
abbrev pub vtable_name : Table → ℕ → List ℕ
vtable_name t k = vtable_in (slice_get t.sizes k)

abbrev pub call_name : Table → ℕ → List ℕ
call_name t k = call_name_in (slice_get t.calls k)

abbrev pub function_name : Table → ℕ → List ℕ
function_name t k = or_nothing (slice_get t.functions k)

abbrev pub fields_in : Option SizeRow → List ℕ
fields_in None = []
fields_in (Some r) = r.fields

-- the fields of a size, in order
abbrev pub fields_of : Table → ℕ → List ℕ
fields_of t k = fields_in (slice_get t.sizes k)
