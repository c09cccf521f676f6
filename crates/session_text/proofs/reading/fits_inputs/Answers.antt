use Rattle.session_text.proofs.RunsOut.{runs_out}
use Rattle.session_text.proofs.reading.fits_inputs.Goals as goal

pub returns-in_default : goal.returns-in_default
returns-in_default c = runs_out c.args.values.now c.loop-value.value-index c.loop-value.rest.now _ c.loop-value-test.true c.in_default.ensures.cases c.loop-value.invariant
