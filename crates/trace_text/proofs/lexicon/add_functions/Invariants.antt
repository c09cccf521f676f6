use Rattle.std.proofs.Common.{◌≡◌, drop}
use Rattle.trace_text.specs.Names.{functions_from}
use Rattle.trace_text.proofs.lexicon.add_functions.Given as goal

abbrev pub invariant-loop-name : goal.invariant-loop-name
invariant-loop-name l = functions_from l.k (drop l.name-index l.names) l.entries.entries ≡ functions_from 0 l.names l.fn.entries.entries
