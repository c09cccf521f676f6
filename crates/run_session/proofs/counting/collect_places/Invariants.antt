use Rattle.std.proofs.Common.{◌≡◌, ◌++◌, drop}
use Rattle.run_session.specs.Guards.{places_of}
use Rattle.run_session.proofs.counting.collect_places.Given as goal

abbrev pub invariant-loop-row : goal.invariant-loop-row
invariant-loop-row l = l.places.items ++ places_of (drop l.row-index l.rows) ≡ places_of l.rows
