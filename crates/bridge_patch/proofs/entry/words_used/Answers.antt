use Rattle.std.proofs.Common.{arith}
use Rattle.bridge_patch.proofs.Entering.{words_least, words_end}
use Rattle.bridge_patch.proofs.entry.words_used.Goals as goal

pub loop-place-init : goal.loop-place-init
loop-place-init c = (omega (arith, words_least c.args.places.now), c.requires, omega arith)

pub returns : goal.returns
returns c = omega (arith, c.loop-place.invariant.0, c.loop-place.invariant.2, words_end c.loop-place.place-index c.args.places.now (omega (arith, c.loop-place-test.false)))
