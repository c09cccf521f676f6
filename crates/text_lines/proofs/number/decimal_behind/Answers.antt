use Rattle.std.proofs.Common.{sym}
use Rattle.text_lines.proofs.Digits.{goes_on, stops, is_done}
use Rattle.text_lines.proofs.number.decimal_behind.Goals as goal

pub returns-in_err-n-clause-value : goal.returns-in_err-n-clause-value
returns-in_err-n-clause-value c = rw c.from_residual.ensures (sym (stops c.args.limit c.loop-c.n c.loop-c.c-index c.args.word.now _ c.loop-c-test.true (sym c.in_err-n.ensures.value) c.loop-c.invariant.0))

pub loop-c-preserved : goal.loop-c-preserved
loop-c-preserved c = (goes_on c.args.limit c.loop-c.n c.in_ok-n.n c.loop-c.c-index c.args.word.now _ c.loop-c-test.true (sym c.in_ok-n.ensures.value) c.loop-c.invariant.0, c.in_ok-n.ensures.bound)

pub returns-clause-value : goal.returns-clause-value
returns-clause-value c = sym (is_done c.args.limit c.loop-c.n c.loop-c.c-index c.args.word.now _ c.loop-c-test.false c.loop-c.invariant.1 c.loop-c.invariant.0)
