-- The table that a draft stands for.
use Rattle.std.specs.Prelude.{◌≡◌, ℕ, ◌≤◌, ◌+◌, Option, Some, None, Result, Ok, Err, List, length}
use Rattle.text_lines.specs.Names.{with_name}
use Rattle.trace_ops.specs.declared.table.Table.{Table}
use Rattle.descr_table.specs.declared.form.Form.{Form}
use Rattle.descr_table.specs.declared.form.Form.TheVariants.{Size, Field, Array, Call, Function, Object, Items}
use Rattle.descr_table.specs.declared.known.Known.{Known}
use Rattle.descr_table.specs.declared.draft.Draft.{Draft}
use Rattle.descr_table.specs.declared.fault.TableFault.{TableFault}
use Rattle.descr_table.specs.Known.{names_of}
use Rattle.descr_table.specs.Meaning.{bytes_of, form_bytes, put_at}
use Rattle.descr_table.specs.Reading.{Fails}

abbrev pub table_of : Draft → Table
table_of d = record { shapes = d.shapes.items; sizes = d.sizes.items; fields = d.fields.items; arrays = d.arrays.items; calls = d.calls.items; functions = d.functions.items; prebuilts = d.prebuilts.items }

abbrev pub with_name_if : Option (List ℕ) → List (List ℕ) → List (List ℕ)
with_name_if None names = names
with_name_if (Some name) names = with_name name names

-- the names behind a line
unfoldable pub noted : Form → Known → Known
noted (Size name vtable) k = record k { sizes = with_name name k.sizes; vtables = with_name_if vtable k.vtables }
noted (Field name size kind immutable) k = record k { fields = with_name name k.fields }
noted (Array name kind) k = record k { arrays = with_name name k.arrays }
noted (Call name args gives reads writes) k = record k { calls = with_name name k.calls }
noted (Function name) k = record k { functions = with_name name k.functions }
noted (Object name size fields) k = record k { prebuilts = with_name name k.prebuilts }
noted (Items name array items) k = record k { prebuilts = with_name name k.prebuilts }

-- what a draft is behind a line
pub record Puts (f : Form) (defined : List (List ℕ)) (old new : Draft) : Type 0 where
  pub table : table_of new ≡ put_at f old.known defined (table_of old)
  pub known : new.known ≡ noted f old.known
  pub bytes : new.bytes ≡ old.bytes + form_bytes f old.known (table_of old)

-- the numbers of its rows and names are at most n
pub record HasRoom (d : Draft) (n : ℕ) : Type 0 where
  pub sizes : length d.sizes.items ≤ n
  pub fields : length d.fields.items ≤ n
  pub arrays : length d.arrays.items ≤ n
  pub size_names : length d.known.sizes ≤ n
  pub field_names : length d.known.fields ≤ n
  pub array_names : length d.known.arrays ≤ n

-- its names and bytes are those of its rows
pub record IsDraft (d : Draft) : Type 0 where
  pub known : d.known ≡ names_of (table_of d)
  pub bytes : d.bytes ≡ bytes_of (table_of d)
  pub fits : d.bytes ≤ 32768

-- each list is at most this long
pub record Few (t : Table) (n : ℕ) : Type 0 where
  pub sizes : length t.sizes ≤ n
  pub fields : length t.fields ≤ n
  pub arrays : length t.arrays ≤ n

-- what a step answered and left is what reading gives, unless memory ran out
abbrev pub Leaves : {X : Type 0} → Result X TableFault → Draft → Result Table TableFault → Type 0
Leaves (Ok x) d read = read ≡ Ok (table_of d)
Leaves (Err e) d read = Fails e read
