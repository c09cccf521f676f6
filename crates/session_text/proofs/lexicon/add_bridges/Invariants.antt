use Rattle.std.proofs.Common.{◌≡◌, drop, map}
use Rattle.session_text.specs.Names.{firsts_from, bridge_name}
use Rattle.session_text.proofs.lexicon.add_bridges.Given as goal

abbrev pub invariant-loop-trace : goal.invariant-loop-trace
invariant-loop-trace l = firsts_from l.k (map bridge_name (drop l.trace-index l.traces)) l.entries.entries ≡ firsts_from 0 (map bridge_name l.traces) l.fn.entries.entries
