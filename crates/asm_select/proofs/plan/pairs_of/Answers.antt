use Rattle.std.proofs.Common.{◌∙◌, ◌++◌, ◌+◌, drop, ap, sym, arith}
use Rattle.asm_select.specs.Given.{where_in}
use Rattle.asm_select.specs.Drafting.{pairs_at}
use Rattle.asm_select.proofs.Pushes.{pairs_then, pairs_else, one_more}
use Rattle.asm_select.proofs.plan.pairs_of.Goals as goal
use Rattle.asm_select.proofs.plan.pairs_of.Goals.{then-k-targets+in_ok-push_pair, else-k-targets}

pub loop-k-preserved : goal.loop-k-preserved
loop-k-preserved c =
    let at = where_in c.args.at.now in
    elim c.if-k-targets.branch [
      | then-k-targets+in_ok-push_pair w ↦
          one_more c.if-k-targets.pairs.items c.loop-k.pairs.items _ (pairs_at at (drop (c.loop-k.k + 1) c.args.args.now) (drop (c.loop-k.k + 1) c.args.targets.now)) _ _
          (ap (λ o. o.items) w.pairs-is ∙ w.in_ok-push_pair.ensures {u = tt}) (pairs_then at c.args.args.now c.args.targets.now c.loop-k.k _ _ (omega (arith, c.loop-k-test.true, c.loop-k.auto.k-end)) (omega (arith, w.if-k-targets.true))) c.loop-k.invariant
      | else-k-targets w ↦
          ap (λ o. o.items ++ pairs_at at (drop (c.loop-k.k + 1) c.args.args.now) (drop (c.loop-k.k + 1) c.args.targets.now)) w.pairs-is
          ∙ ap (λ l. c.loop-k.pairs.items ++ l) (sym (pairs_else at c.args.args.now c.args.targets.now c.loop-k.k (omega (arith, w.if-k-targets.false)))) ∙ c.loop-k.invariant
    ]
