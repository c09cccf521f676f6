use Rattle.std.proofs.Common.{◌∙◌, sym}
use Rattle.resume_numbering.proofs.FittingLemmas.{fits_can}
use Rattle.resume_numbering.proofs.tests.fitting.fits.Goals as goal

pub returns-clause-can : goal.returns-clause-can
returns-clause-can c e = (fits_can c.args.kinds.now c.args.piece.now (sym c.passes.ensures ∙ e)).0

pub returns-clause-kinds : goal.returns-clause-kinds
returns-clause-kinds c e = (fits_can c.args.kinds.now c.args.piece.now (sym c.passes.ensures ∙ e)).1
