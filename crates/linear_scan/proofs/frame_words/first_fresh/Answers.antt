use Rattle.std.proofs.Common.{arith}
use Rattle.linear_scan.proofs.Idle.{idle-held, passed_more}
use Rattle.linear_scan.proofs.frame_words.first_fresh.Goals as goal

pub loop-word-preserved : goal.loop-word-preserved
loop-word-preserved c = passed_more c.args.until.now c.loop-word.word c.loop-word.invariant (omega arith)

pub unreachable-requires : goal.unreachable-requires
unreachable-requires c =
    let h = idle-held 16 c.args.until.now (λ k le w. c.loop-word.invariant.before k le (omega (arith, c.loop-word-test.false)) w) in
    omega (arith, c.requires.some)
