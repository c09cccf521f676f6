use Rattle.std.proofs.Common.{sym, subst, arith}
use Rattle.std.specs.Io.KnownBytes.{Appends}
use Rattle.std.proofs.KnownBytes.{Appends-trans}
use Rattle.io_edge.proofs.Moved.{take_on}
use Rattle.io_edge.proofs.whole.write_all.Goals as goal

pub loop-written-preserved : goal.loop-written-preserved
loop-written-preserved g c =
    let bs = c.args.bytes.now in
    let w = c.loop-written.written in
    let n = c.in-Ok.count in (
      omega (arith, c.in-Ok.ensures.bound),
      omega (arith, c.loop-written.invariant.1, c.in-Ok.ensures.cause.later),
      subst (Appends _ _) (sym (take_on bs w n c.loop-written.invariant.0)) (Appends-trans _ _ _ _ _ c.loop-written.invariant.2 c.in-Ok.ensures.bytes),
    )
