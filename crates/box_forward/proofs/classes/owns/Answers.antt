use Rattle.std.proofs.Common.{◌<◌, List, length, slice_get, ap, sym, subst, ◌∙◌, arith}
use Rattle.std.proofs.lemmas.List.{length_push}
use Rattle.trace_ops.specs.declared.trace.Arg.{Arg}
use Rattle.box_forward.specs.Trees.{own_at}
use Rattle.box_forward.proofs.TreeLemmas.{push_at}
use Rattle.box_forward.proofs.classes.owns.Goals as goal

pub loop-node-preserved : goal.loop-node-preserved
loop-node-preserved c =
    let had = c.loop-node.values.items in
    let e = c.in_ok-push.ensures.items in record {
      each = λ k w. ap (λ (xs : List Arg). slice_get xs k) e
          ∙ push_at had c.own.result (own_at c.args.boxes) c.loop-node.invariant.each (c.own.ensures ∙ ap (own_at c.args.boxes) (sym c.loop-node.invariant.count)) k
          (subst (λ (xs : List Arg). k < length xs) e w);
      count = omega (arith, ap length e, length_push had c.own.result, c.loop-node.invariant.count);
    }

pub returns : goal.returns
returns c = record {
  count = omega (arith, c.loop-node.invariant.count);
  each = λ k h. c.loop-node.invariant.each k (omega (arith, h, c.loop-node.invariant.count));
}
