-- Where the prebuilt objects of a table lie.
use Rattle.std.specs.Prelude.{◌≡◌, ℕ, List, Some, map, slice_get}
use Rattle.trace_ops.specs.declared.table.PrebuiltRow.{PrebuiltRow}
use Rattle.trace_meaning.specs.Recorded.{prebuilt_object}
use Rattle.arena_objects.specs.Layout.{words_before}

-- the words before each of these objects
abbrev pub HaveStarts : List PrebuiltRow → List ℕ → Type 0
HaveStarts rows starts = (k n : ℕ) → slice_get starts k ≡ Some n → n ≡ words_before (map prebuilt_object rows) k
