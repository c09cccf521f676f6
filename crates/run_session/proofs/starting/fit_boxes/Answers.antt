use Rattle.std.proofs.Common.{◌<◌, length, ◌∙◌, sym, arith}
use Rattle.run_session.proofs.Starts.{fit_short, fit_here, fit_later, fit_end}
use Rattle.run_session.proofs.starting.fit_boxes.Goals as goal

pub returns-then-boxes-inputs : goal.returns-then-boxes-inputs
returns-then-boxes-inputs c = fit_short c.args.table.now c.args.boxes.now c.args.inputs.now c.if-boxes-inputs.true

pub returns-then-not-fits_box : goal.returns-then-not-fits_box
returns-then-not-fits_box c =
    let same = c.if-boxes-inputs.false in
    let within : c.loop-k.k < length c.args.inputs.now = omega (arith, same, c.loop-k-test.true) in
    sym (fit_here c.args.table.now c.args.boxes.now c.args.inputs.now c.loop-k.k _ _ c.fits_box.result c.loop-k-test.true within c.fits_box.ensures c.if-not-fits_box.true) ∙ c.loop-k.invariant

pub loop-k-preserved : goal.loop-k-preserved
loop-k-preserved c =
    let same = c.if-boxes-inputs.false in
    let within : c.loop-k.k < length c.args.inputs.now = omega (arith, same, c.loop-k-test.true) in
    sym (fit_later c.args.table.now c.args.boxes.now c.args.inputs.now c.loop-k.k _ _ c.fits_box.result c.loop-k-test.true within c.fits_box.ensures c.if-not-fits_box.false) ∙ c.loop-k.invariant

pub returns : goal.returns
returns c = sym (fit_end c.args.table.now c.args.boxes.now c.args.inputs.now c.loop-k.k c.if-boxes-inputs.false c.loop-k-test.false) ∙ c.loop-k.invariant
