use Rattle.trace_meaning.specs.Cuts.{seen_bridge}
use Rattle.trace_meaning.proofs.Bridges.{seen-is_bridge, one-seen, bridge-found}
use Rattle.trace_meaning.proofs.laws.bridges_are_seen.Goals as goal
use Rattle.std.proofs.Common.{refl}

pub returns-clause-bridge : goal.returns-clause-bridge
returns-clause-bridge c = λ traces cuts p n k b h. seen-is_bridge traces cuts p n k b h

pub returns-clause-where_one : goal.returns-clause-where_one
returns-clause-where_one c = λ traces cuts p n k. (
  λ h. (let one = one-seen traces cuts p n k (seen_bridge traces cuts p n k) refl h in (one.0, one.1.0, one.1.1)),
  λ h. bridge-found traces cuts p n k h.0 h.2.0 h.2.1.0 h.1 h.2.2 h.2.1.1 h.2.1.2,
)
