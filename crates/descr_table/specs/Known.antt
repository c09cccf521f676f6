-- The names of a table's rows.
use Rattle.std.specs.Prelude.{ℕ, Bool, false, ◌||◌, Option, Some, None, List, [], ◌∷◌, ◌++◌, map, option_to_list}
use Rattle.std.specs.List.{flat_map}
use Rattle.text_lines.specs.Names.{has_name}
use Rattle.trace_ops.specs.declared.table.Table.{Table}
use Rattle.descr_table.specs.declared.known.Known.{Known}

abbrev pub names_of : Table → Known
names_of t = record {
  sizes = map (λ r. r.name) t.sizes;
  vtables = flat_map (λ r. option_to_list r.vtable) t.sizes;
  fields = map (λ r. r.name) t.fields;
  arrays = map (λ r. r.name) t.arrays;
  calls = map (λ r. r.name) t.calls;
  functions = t.functions;
  prebuilts = map (λ r. r.name) t.prebuilts;
}

-- a size, field, array or call descr has this name
abbrev pub is_named : List ℕ → Known → Bool
is_named name k = (has_name name k.sizes || has_name name k.fields) || (has_name name k.arrays || has_name name k.calls)

-- a vtable or a function has this name
abbrev pub is_class : List ℕ → Known → Bool
is_class name k = has_name name k.vtables || has_name name k.functions

abbrev pub is_class_if : Option (List ℕ) → Known → Bool
is_class_if None k = false
is_class_if (Some name) k = is_class name k

-- a name stands among those before it
unfoldable pub repeats : List (List ℕ) → List (List ℕ) → Bool
repeats seen [] = false
repeats seen (n ∷ ns) = has_name n seen || repeats (seen ++ n ∷ []) ns
