use Rattle.std.proofs.Common.{sym, ap, ◌∙◌, ◌++◌, ◌+◌, ◌∷◌, [], arith, ◌≡◌}
use Rattle.target_base.specs.declared.place.Place.TheVariants.{Word}
use Rattle.bridge_patch.specs.Pieces.{words_from}
use Rattle.bridge_patch.proofs.Labels.{words_push}
use Rattle.bridge_patch.proofs.plan.label_places.Goals as goal

pub loop-k-preserved : goal.loop-k-preserved
loop-k-preserved c =
    (c.in_ok-push.ensures {u = tt}).items ∙ ap (λ xs. xs ++ Word (16 + c.loop-k.k) ∷ []) c.loop-k.invariant ∙ sym (words_push 16 c.loop-k.k)

pub returns : goal.returns
returns c =
    let e : c.loop-k.k ≡ c.args.count = omega (arith, c.loop-k-test.false, c.loop-k.auto.k-end) in
    c.of.ensures ∙ c.loop-k.invariant ∙ ap (words_from 16) e
