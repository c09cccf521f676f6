use Rattle.std.proofs.Common.{◌≡◌, drop, map, Some}
use Rattle.session_text.specs.Names.{firsts_from}
use Rattle.session_text.proofs.lexicon.add_fields.Given as goal

abbrev pub invariant-loop-row : goal.invariant-loop-row
invariant-loop-row l = firsts_from l.k (map (λ r. Some r.name) (drop l.row-index l.rows)) l.entries.entries ≡ firsts_from 0 (map (λ r. Some r.name) l.rows) l.fn.entries.entries
