use Rattle.std.proofs.Common.{◌≡◌, ◌++◌, drop, filter}
use Rattle.trace_meaning.specs.declared.routes.GuardPlace.{GuardPlace}
use Rattle.trace_meaning.specs.Routes.{leaves, cuts_at}
use Rattle.trace_meaning.proofs.routes.bridges_of.Given as goal

abbrev pub invariant-loop-cut : goal.invariant-loop-cut
invariant-loop-cut l = (g : GuardPlace) → cuts_at l.bridges.entries g ++ filter (leaves l.traces g) (drop l.cut-index l.cuts) ≡ filter (leaves l.traces g) l.cuts
