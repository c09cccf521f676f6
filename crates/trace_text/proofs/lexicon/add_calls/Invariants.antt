use Rattle.std.proofs.Common.{◌≡◌, drop}
use Rattle.trace_text.specs.Names.{calls_from}
use Rattle.trace_text.proofs.lexicon.add_calls.Given as goal

abbrev pub invariant-loop-row : goal.invariant-loop-row
invariant-loop-row l = calls_from l.k (drop l.row-index l.rows) l.entries.entries ≡ calls_from 0 l.rows l.fn.entries.entries
