use Rattle.std.proofs.Common.{◌≡◌, drop}
use Rattle.trace_text.specs.Names.{sizes_from}
use Rattle.trace_text.proofs.lexicon.add_sizes.Given as goal

abbrev pub invariant-loop-row : goal.invariant-loop-row
invariant-loop-row l = sizes_from l.k (drop l.row-index l.rows) l.entries.entries ≡ sizes_from 0 l.rows l.fn.entries.entries
