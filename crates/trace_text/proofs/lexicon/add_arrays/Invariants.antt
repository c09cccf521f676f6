use Rattle.std.proofs.Common.{◌≡◌, drop}
use Rattle.trace_text.specs.Names.{arrays_from}
use Rattle.trace_text.proofs.lexicon.add_arrays.Given as goal

abbrev pub invariant-loop-row : goal.invariant-loop-row
invariant-loop-row l = arrays_from l.k (drop l.row-index l.rows) l.entries.entries ≡ arrays_from 0 l.rows l.fn.entries.entries
