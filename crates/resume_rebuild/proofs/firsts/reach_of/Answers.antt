use Rattle.std.proofs.Common.{arith}
use Rattle.resume_rebuild.specs.Firsts.{IsBelow}
use Rattle.resume_rebuild.proofs.Rowing.{below_step, bounded_all}
use Rattle.resume_rebuild.proofs.firsts.reach_of.Goals as goal

pub loop-arg-preserved : goal.loop-arg-preserved
loop-arg-preserved c =
    below_step c.args.consts.now c.loop-arg.arg-index _ c.loop-arg.most c.reach_of_one.result c.larger-most.result c.loop-arg-test.true c.loop-arg.invariant c.larger-most.ensures.first c.larger-most.ensures.second c.reach_of_one.ensures

pub returns : goal.returns
returns c = bounded_all (IsBelow c.loop-arg.most) c.args.consts.now c.loop-arg.arg-index (omega (arith, c.loop-arg-test.false)) c.loop-arg.invariant
