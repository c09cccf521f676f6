use Rattle.std.proofs.Common.{◌≡◌, drop}
use Rattle.run_session.specs.Fitting.{fit_each}
use Rattle.run_session.proofs.starting.fit_boxes.Given as goal

abbrev pub invariant-loop-k : goal.invariant-loop-k
invariant-loop-k l = fit_each l.table (drop l.k l.boxes) (drop l.k l.inputs) ≡ fit_each l.table l.boxes l.inputs
