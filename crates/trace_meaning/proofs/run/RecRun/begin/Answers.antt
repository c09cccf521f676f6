use Rattle.std.proofs.Common.{ap, refl}
use Rattle.trace_meaning.specs.Kept.{Kept}
use Rattle.trace_meaning.proofs.Begun.{standing-begun}
use Rattle.trace_meaning.proofs.run.RecRun.begin.Goals as goal

pub invariant_of-result : goal.invariant_of-result
invariant_of-result c = record {
  standing = standing-begun c.args.small_set.now _ _ c.requires c.in_ok-set.ensures (ap (λ (k : Kept). k.prebuilts) c.in_ok-world.ensures) refl refl refl;
  routed = c.in_ok-routes.ensures.noted;
}
