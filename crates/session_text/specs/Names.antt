-- The names that a set gives to the lines of a session.
use Rattle.std.specs.Prelude.{ℕ, ◌+◌, Bool, false, Option, Some, None, List, [], ◌∷◌, map, is_some, if◌then◌else◌}
use Rattle.std.specs.Str.{bytes_eq}
use Rattle.std.specs.Map.{lookup}
use Rattle.indexmap.specs.IndexMap.{insert_entry}
use Rattle.trace_ops.specs.declared.trace.Origin.{Origin}
use Rattle.trace_ops.specs.declared.trace.Origin.TheVariants.{Loop, Bridge}
use Rattle.trace_ops.specs.declared.trace.Trace.{Trace}
use Rattle.trace_ops.specs.declared.trace.TraceSet.{TraceSet}

-- loops and bridges, each with its place among the traces, and prebuilt objects, sizes and fields, each with its row
pub record Names : Type 0 where
  pub loops : List (List ℕ × ℕ)
  pub bridges : List (List ℕ × ℕ)
  pub prebuilts : List (List ℕ × ℕ)
  pub sizes : List (List ℕ × ℕ)
  pub fields : List (List ℕ × ℕ)

abbrev pub look : List ℕ → List (List ℕ × ℕ) → Option ℕ
look name entries = lookup (λ x. bytes_eq name x) entries

-- a name that is there stays as it is
abbrev pub with_first : List ℕ → ℕ → List (List ℕ × ℕ) → List (List ℕ × ℕ)
with_first name k entries = if is_some (look name entries) then entries else insert_entry bytes_eq entries name k

abbrev pub with_first_if : Option (List ℕ) → ℕ → List (List ℕ × ℕ) → List (List ℕ × ℕ)
with_first_if None k entries = entries
with_first_if (Some name) k entries = with_first name k entries

-- the names that there are, the first place being k
unfoldable pub firsts_from : ℕ → List (Option (List ℕ)) → List (List ℕ × ℕ) → List (List ℕ × ℕ)
firsts_from k [] entries = entries
firsts_from k (o ∷ os) entries = firsts_from (k + 1) os (with_first_if o k entries)

abbrev pub loop_name_by : Origin → List ℕ → Option (List ℕ)
loop_name_by Loop name = Some name
loop_name_by (Bridge parent guard) name = None

abbrev pub bridge_name_by : Origin → List ℕ → Option (List ℕ)
bridge_name_by Loop name = None
bridge_name_by (Bridge parent guard) name = Some name

-- the name of a trace that is a loop, and of one that is a bridge
abbrev pub loop_name : Trace → Option (List ℕ)
loop_name t = loop_name_by t.origin t.name

abbrev pub bridge_name : Trace → Option (List ℕ)
bridge_name t = bridge_name_by t.origin t.name

abbrev pub names_of : TraceSet → Names
names_of set = record {
  loops = firsts_from 0 (map loop_name set.traces) [];
  bridges = firsts_from 0 (map bridge_name set.traces) [];
  prebuilts = firsts_from 0 (map (λ r. Some r.name) set.table.prebuilts) [];
  sizes = firsts_from 0 (map (λ r. Some r.name) set.table.sizes) [];
  fields = firsts_from 0 (map (λ r. Some r.name) set.table.fields) [];
}

-- ---- what a name stands for

abbrev pub is_named : List ℕ → Option (List ℕ) → Bool
is_named name None = false
is_named name (Some n) = bytes_eq name n

-- the first place that has the name, the first one being k
unfoldable pub first_from : ℕ → List ℕ → List (Option (List ℕ)) → Option ℕ
first_from k name [] = None
first_from k name (o ∷ os) = if is_named name o then Some k else first_from (k + 1) name os
