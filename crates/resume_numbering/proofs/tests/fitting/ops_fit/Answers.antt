use Rattle.std.proofs.Common.{◌∙◌, ◌+◌, ◌&&◌, ap, sym, drop}
use Rattle.resume_numbering.specs.Fitting.{ops_fit}
use Rattle.resume_numbering.proofs.FittingLemmas.{fit_next}
use Rattle.resume_numbering.proofs.tests.fitting.ops_fit.Goals as goal

pub returns-then-not-op_fits : goal.returns-then-not-op_fits
returns-then-not-op_fits c =
    let kinds = c.args.kinds.now in let ops = c.args.ops.now in let k = c.loop-k.k in
    sym (c.loop-k.invariant ∙ fit_next kinds ops k c.index-ops-k.result c.index-ops-k.is c.loop-k-test.true ∙ ap (λ b. b && ops_fit kinds (k + 1) (drop (k + 1) ops)) (sym c.op_fits.ensures ∙ c.if-not-op_fits.true))

pub loop-k-preserved : goal.loop-k-preserved
loop-k-preserved c =
    let kinds = c.args.kinds.now in let ops = c.args.ops.now in let k = c.loop-k.k in
    c.loop-k.invariant ∙ fit_next kinds ops k c.index-ops-k.result c.index-ops-k.is c.loop-k-test.true ∙ ap (λ b. b && ops_fit kinds (k + 1) (drop (k + 1) ops)) (sym c.op_fits.ensures ∙ c.if-not-op_fits.false)
