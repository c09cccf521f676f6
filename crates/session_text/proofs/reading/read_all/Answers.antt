use Rattle.std.proofs.Common.{sym}
use Rattle.std.proofs.lemmas.Result.{err_from_is_err_and}
use Rattle.std.proofs.lemmas.Bool.{eqb-true}
use Rattle.session_text.proofs.LineByLine.{begins, goes_on, ends, is_done}
use Rattle.session_text.proofs.reading.read_all.Goals as goal

pub loop-rest-init : goal.loop-rest-init
loop-rest-init c = begins c.args.set.now c.args.text.now c.args.first_line _ c.requires.room c.nothing-session.ensures

pub read_line-requires : goal.read_line-requires
read_line-requires c = c.loop-rest.invariant.fits.few_starts

pub returns-in_err-read_line-clause-read : goal.returns-in_err-read_line-clause-read
returns-in_err-read_line-clause-read c =
    let p = err_from_is_err_and c.from_residual.result c.from_residual.ensures.1 in
    rw (p.1, p.2) (ends c.args.set.now c.args.names.now c.in_err-read_line.field-0.0 _ c.loop-rest.number c.loop-rest.rest.now c.next_line.result.0.now c.next_line.result.1.now c.loop-rest.session c.requires.names c.loop-rest.invariant c.next_line.ensures.lines c.in_err-read_line.ensures)

pub loop-rest-preserved : goal.loop-rest-preserved
loop-rest-preserved c = goes_on c.lines_are_spelled.ensures c.args.set.now c.args.names.now _ c.loop-rest.number c.loop-rest.rest.now c.next_line.result.0.now c.next_line.result.1.now c.loop-rest.session _ c.requires.names c.loop-rest.invariant c.next_line.ensures.lines c.in_ok-read_line.ensures

pub returns-clause-read : goal.returns-clause-read
returns-clause-read c = is_done c.args.set.now _ c.loop-rest.number c.loop-rest.rest.now c.loop-rest.session c.loop-rest.invariant (eqb-true _ _ (sym c.loop-rest-test.ensures))
