use Rattle.std.proofs.Common.{◌≡◌, drop}
use Rattle.trace_text.specs.Names.{vtables_from}
use Rattle.trace_text.proofs.lexicon.add_vtables.Given as goal

abbrev pub invariant-loop-row : goal.invariant-loop-row
invariant-loop-row l = vtables_from l.k (drop l.row-index l.rows) l.entries.entries ≡ vtables_from 0 l.rows l.fn.entries.entries
