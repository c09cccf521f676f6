use Rattle.std.proofs.Common.{◌≡◌, drop}
use Rattle.trace_text.specs.Names.{fields_from}
use Rattle.trace_text.proofs.lexicon.add_fields.Given as goal

abbrev pub invariant-loop-row : goal.invariant-loop-row
invariant-loop-row l = fields_from l.k (drop l.row-index l.rows) l.entries.entries ≡ fields_from 0 l.rows l.fn.entries.entries
