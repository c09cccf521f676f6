use Rattle.std.proofs.Common.{◌≡◌, ◌++◌, drop, map}
use Rattle.session_text.specs.Attaching.{row_of}
use Rattle.session_text.proofs.attaching.rows_of.Given as goal

abbrev pub invariant-loop-trace : goal.invariant-loop-trace
invariant-loop-trace l = l.rows.items ++ map (row_of l.traces) (drop l.trace-index l.traces) ≡ map (row_of l.traces) l.traces
