use Rattle.opt_pass.proofs.Arms.{ok_by}
use Rattle.opt_pass.proofs.TruthGuards.{keeps_opposed, looked_up}
use Rattle.opt_pass.proofs.truths.keep_unpassed.Goals as goal

pub returns-in-Some : goal.returns-in-Some
returns-in-Some c = ok_by _ _ _ _ (λ e. keeps_opposed c.args.op.now c.args.pass.now _ c.args.wants c.args.args _ _ c.requires.going c.requires.code c.requires.args c.requires.few (looked_up c.args.pass.now.passed _ _ _ _ c.in-Some.ensures c.opposite-other.ensures c.items.ensures) c.items-in-Some.ensures e) c.exit_at.ensures
