use Rattle.std.proofs.Common.{◌≤◌}
use Rattle.run_session.proofs.Nths.{Passed}
use Rattle.run_session.proofs.reading.nth_address.Given as goal

abbrev pub invariant-loop : goal.invariant-loop
invariant-loop l = Passed l.table l.arena l.counter l.at × (l.counter ≤ l.k)
