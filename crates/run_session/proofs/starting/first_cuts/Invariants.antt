use Rattle.std.proofs.Common.{◌≡◌, ℕ, ◌++◌, map, drop}
use Rattle.run_session.proofs.starting.first_cuts.Given as goal

abbrev pub invariant-loop-bridge : goal.invariant-loop-bridge
invariant-loop-bridge l = l.cuts.items ++ map (λ (b : ℕ). (b, 0)) (drop l.bridge-index l.attached) ≡ map (λ (b : ℕ). (b, 0)) l.attached
