use Rattle.std.proofs.Common.{ℕ, ◌<◌, List, length, slice_get, ap, sym, subst, ◌∙◌, arith}
use Rattle.std.proofs.lemmas.List.{length_push}
use Rattle.box_forward.proofs.TreeLemmas.{push_at}
use Rattle.box_forward.proofs.classes.own_parents.Goals as goal

pub loop-node-preserved : goal.loop-node-preserved
loop-node-preserved c =
    let had = c.loop-node.parents.items in
    let e = c.in_ok-push.ensures.items in record {
      each = λ k w. ap (λ (xs : List ℕ). slice_get xs k) e
          ∙ push_at had c.loop-node.node (λ (j : ℕ). j) c.loop-node.invariant.each (sym c.loop-node.invariant.count) k (subst (λ (xs : List ℕ). k < length xs) e w);
      count = omega (arith, ap length e, length_push had c.loop-node.node, c.loop-node.invariant.count);
    }

pub returns-clause-each : goal.returns-clause-each
returns-clause-each c = λ k h. c.loop-node.invariant.each k (omega (arith, h, c.loop-node.invariant.count))
