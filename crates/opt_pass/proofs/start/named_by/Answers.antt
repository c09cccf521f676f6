use Rattle.std.proofs.Common.{◌≤◌, ◌∙◌, sym, length, min, arith}
use Rattle.opt_pass.specs.Starting.{entered_val}
use Rattle.opt_pass.proofs.NamesAll.{names_all}
use Rattle.opt_pass.proofs.start.named_by.Goals as goal

pub returns : goal.returns
returns c =
    let past : min (length c.args.inputs.now) (length c.args.values.now) ≤ c.loop-k.k = omega arith in
    sym (names_all _ (entered_val c.args.entering.now) c.args.inputs.now c.args.values.now c.loop-k.k past) ∙ c.loop-k.invariant
