use Rattle.std.proofs.Common.{ap, ◌∙◌}
use Rattle.opt_pass.specs.State.{jumped}
use Rattle.opt_pass.proofs.Arms.{ok_by, keeps_jump}
use Rattle.opt_pass.proofs.steps.jump_op.Goals as goal

pub returns : goal.returns
returns c = ok_by _ _ _ _ (λ e. keeps_jump c.args.op.now c.args.pass.now _ c.requires.going c.requires.part (e ∙ ap (jumped c.args.pass.now) c.items.ensures)) c.jump_to.ensures
