use Rattle.std.proofs.Common.{◌≡◌, ◌<◌, ◌^◌, List, Option, Some, [], ◌∷◌, ◌++◌, length, ap, sym, subst, ◌∙◌, arith}
use Rattle.trace_ops.specs.declared.piece.Val.{Val}
use Rattle.trace_ops.specs.declared.piece.Shape.{Shape}
use Rattle.virtuals.specs.Shapes.{fresh, IsLive, IsSound}
use Rattle.virtuals.specs.Namings.{AreCounted}
use Rattle.virtuals.proofs.Sound.{sound_make, live_made, live_kept}
use Rattle.virtuals.proofs.NamingLemmas.{counted_push, fresh_names_none}
use Rattle.virtuals.proofs.virtuals.Virtuals.make.Goals as goal

pub invariant_of-self-2 : goal.invariant_of-self-2
invariant_of-self-2 c =
    let shapes = c.self.inside.shapes.items in
    let short : length c.args.kinds.now < 2 ^ 32 = omega (arith, c.if-kinds.false) in
    let made = c.in_ok-add.ensures.shapes ∙ ap (λ (ps : List Val). shapes ++ Some (record { of = c.args.of; parts = ps }) ∷ []) (c.of.ensures ∙ c.in_ok-parts.ensures) in record {
      sound = subst IsSound (sym made) (sound_make shapes c.args.of c.args.kinds.now c.self.invariant.sound short);
      counted = subst (λ (s : List (Option Shape)). AreCounted s c.add.new.counts.items) (sym made)
          (subst (AreCounted (shapes ++ Some (fresh c.args.of c.args.kinds.now) ∷ [])) (sym c.in_ok-add.ensures.counts)
          (counted_push shapes c.self.inside.counts.items 0 (Some (fresh c.args.of c.args.kinds.now)) c.self.invariant.sound c.self.invariant.counted (fresh_names_none c.args.of c.args.kinds.now)));
    }

pub returns-clause-made : goal.returns-clause-made
returns-clause-made c =
    let at : c.len-id.result ≡ length c.self.inside.shapes.items = omega (arith, c.len-id.ensures) in
    live_made c.self.inside.shapes.items c.add.new.shapes.items _ c.len-id.result c.in_ok-add.ensures.shapes at

pub returns-clause-live : goal.returns-clause-live
returns-clause-live c = λ n live. live_kept c.self.inside.shapes.items c.add.new.shapes.items _ n c.in_ok-add.ensures.shapes (subst (λ (s : List (Option Shape)). IsLive s n) (sym c.self.view_is) live)
