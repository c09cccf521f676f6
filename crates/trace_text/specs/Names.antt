-- The names that a table gives to lines of traces.
use Rattle.std.specs.Prelude.{ℕ, ◌+◌, Option, Some, None, List, [], ◌∷◌}
use Rattle.std.specs.Str.{bytes_eq}
use Rattle.std.specs.Map.{lookup}
use Rattle.indexmap.specs.IndexMap.{insert_entry}
use Rattle.trace_ops.specs.declared.trace.Arg.{Arg}
use Rattle.trace_ops.specs.declared.trace.Arg.TheVariants as arg
use Rattle.trace_ops.specs.declared.trace.Descr.{Descr}
use Rattle.trace_ops.specs.declared.trace.Descr.TheVariants as descr
use Rattle.trace_ops.specs.declared.table.SizeRow.{SizeRow}
use Rattle.trace_ops.specs.declared.table.FieldRow.{FieldRow}
use Rattle.trace_ops.specs.declared.table.ArrayRow.{ArrayRow}
use Rattle.trace_ops.specs.declared.table.CallRow.{CallRow}
use Rattle.trace_ops.specs.declared.table.PrebuiltRow.{PrebuiltRow}
use Rattle.trace_ops.specs.declared.table.Table.{Table}

-- vtables and functions, prebuilt objects, and descrs, each with what it stands for
pub record Names : Type 0 where
  pub classes : List (List ℕ × Arg)
  pub prebuilts : List (List ℕ × Arg)
  pub descrs : List (List ℕ × Descr)

abbrev pub look : {X : Type 0} → List ℕ → List (List ℕ × X) → Option X
look name entries = lookup (λ x. bytes_eq name x) entries

-- a name with what it stands for; the names of a table are distinct
abbrev pub with_entry : {X : Type 0} → List ℕ → X → List (List ℕ × X) → List (List ℕ × X)
with_entry name x entries = insert_entry bytes_eq entries name x

abbrev pub with_class : Option (List ℕ) → ℕ → List (List ℕ × Arg) → List (List ℕ × Arg)
with_class None k entries = entries
with_class (Some name) k entries = with_entry name (arg.Class k) entries

-- ---- the rows, of which the first has the number k

unfoldable pub vtables_from : ℕ → List SizeRow → List (List ℕ × Arg) → List (List ℕ × Arg)
vtables_from k [] entries = entries
vtables_from k (r ∷ rs) entries = vtables_from (k + 1) rs (with_class r.vtable k entries)

unfoldable pub functions_from : ℕ → List (List ℕ) → List (List ℕ × Arg) → List (List ℕ × Arg)
functions_from k [] entries = entries
functions_from k (n ∷ ns) entries = functions_from (k + 1) ns (with_entry n (arg.Func k) entries)

unfoldable pub prebuilts_from : ℕ → List PrebuiltRow → List (List ℕ × Arg) → List (List ℕ × Arg)
prebuilts_from k [] entries = entries
prebuilts_from k (r ∷ rs) entries = prebuilts_from (k + 1) rs (with_entry r.name (arg.Ptr k) entries)

unfoldable pub sizes_from : ℕ → List SizeRow → List (List ℕ × Descr) → List (List ℕ × Descr)
sizes_from k [] entries = entries
sizes_from k (r ∷ rs) entries = sizes_from (k + 1) rs (with_entry r.name (descr.Size k) entries)

unfoldable pub fields_from : ℕ → List FieldRow → List (List ℕ × Descr) → List (List ℕ × Descr)
fields_from k [] entries = entries
fields_from k (r ∷ rs) entries = fields_from (k + 1) rs (with_entry r.name (descr.Field k) entries)

unfoldable pub arrays_from : ℕ → List ArrayRow → List (List ℕ × Descr) → List (List ℕ × Descr)
arrays_from k [] entries = entries
arrays_from k (r ∷ rs) entries = arrays_from (k + 1) rs (with_entry r.name (descr.Array k) entries)

unfoldable pub calls_from : ℕ → List CallRow → List (List ℕ × Descr) → List (List ℕ × Descr)
calls_from k [] entries = entries
calls_from k (r ∷ rs) entries = calls_from (k + 1) rs (with_entry r.name (descr.Call k) entries)

-- the names of a table's rows; a vtable and a function, and a size, a field, an array and a call descr, share a name space
abbrev pub names_of : Table → Names
names_of t = record {
  classes = functions_from 0 t.functions (vtables_from 0 t.sizes []);
  prebuilts = prebuilts_from 0 t.prebuilts [];
  descrs = calls_from 0 t.calls (arrays_from 0 t.arrays (fields_from 0 t.fields (sizes_from 0 t.sizes [])));
}
