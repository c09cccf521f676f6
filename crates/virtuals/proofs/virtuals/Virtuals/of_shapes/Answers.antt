use Rattle.std.proofs.Common.{List, Option, sym, subst}
use Rattle.trace_ops.specs.declared.piece.Shape.{Shape}
use Rattle.virtuals.specs.Shapes.{IsLive, IsSound}
use Rattle.virtuals.specs.Namings.{AreCounted}
use Rattle.virtuals.proofs.Sound.{sound_all, live_all}
use Rattle.virtuals.proofs.virtuals.Virtuals.of_shapes.Goals as goal

pub invariant_of-result : goal.invariant_of-result
invariant_of-result c = record {
  sound = subst IsSound (sym c.in_ok-shapes.ensures) (sound_all c.args.shapes.now c.requires);
  counted = subst (λ (s : List (Option Shape)). AreCounted s c.in_ok-counts.counts.items) (sym c.in_ok-shapes.ensures) c.in_ok-counts.ensures;
}

pub returns-clause-live : goal.returns-clause-live
returns-clause-live c = λ n h. subst (λ (s : List (Option Shape)). IsLive s n) (sym c.in_ok-shapes.ensures) (live_all c.args.shapes.now n h)
