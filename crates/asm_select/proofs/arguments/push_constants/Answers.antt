use Rattle.std.proofs.Common.{◌∙◌, ◌++◌, ◌+◌, drop, ap, sym, arith}
use Rattle.asm_select.specs.Chosen.{constants_code}
use Rattle.asm_select.specs.Drafting.{setting}
use Rattle.asm_select.proofs.Pushes.{constants_then, constants_else, one_more}
use Rattle.asm_select.proofs.arguments.push_constants.Goals as goal
use Rattle.asm_select.proofs.arguments.push_constants.Goals.{then-k-targets+in_ok-push_arg, else-k-targets}

pub loop-k-preserved : goal.loop-k-preserved
loop-k-preserved c =
    let s = setting c.args.c.now in
    elim c.if-k-targets.branch [
      | then-k-targets+in_ok-push_arg w ↦
          one_more c.if-k-targets.out.items c.loop-k.out.items _ (constants_code s (drop (c.loop-k.k + 1) c.args.args.now) (drop (c.loop-k.k + 1) c.args.targets.now)) _ _
          (ap (λ o. o.items) w.out-is ∙ w.in_ok-push_arg.ensures {u = tt}) (constants_then s c.args.args.now c.args.targets.now c.loop-k.k _ _ (omega (arith, c.loop-k-test.true, c.loop-k.auto.k-end)) (omega (arith, w.if-k-targets.true))) c.loop-k.invariant
      | else-k-targets w ↦
          ap (λ o. o.items ++ constants_code s (drop (c.loop-k.k + 1) c.args.args.now) (drop (c.loop-k.k + 1) c.args.targets.now)) w.out-is
          ∙ ap (λ l. c.loop-k.out.items ++ l) (sym (constants_else s c.args.args.now c.args.targets.now c.loop-k.k (omega (arith, w.if-k-targets.false)))) ∙ c.loop-k.invariant
    ]
