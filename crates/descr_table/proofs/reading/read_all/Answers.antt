use Rattle.std.proofs.Common.{sym, ap, ◌∙◌, Ok}
use Rattle.std.proofs.lemmas.Result.{err_from_is_err_and}
use Rattle.std.proofs.lemmas.Bool.{eqb-true}
use Rattle.descr_table.specs.Draft.{table_of}
use Rattle.descr_table.proofs.Steps.{goes_on, ends, is_done}
use Rattle.descr_table.proofs.reading.read_all.Goals as goal

pub returns-in_err-read_line : goal.returns-in_err-read_line
returns-in_err-read_line c =
    let p = err_from_is_err_and c.from_residual.result c.from_residual.ensures.1 in
    rw (p.1, p.2) (ends c.args.defined.now c.in_err-read_line.field-0.0 _ c.loop-rest.number c.loop-rest.rest.now c.next_line.result.0.now c.next_line.result.1.now (table_of c.loop-rest.draft) c.loop-rest.invariant.0 c.next_line.ensures.lines c.in_err-read_line.ensures.read)

pub loop-rest-preserved : goal.loop-rest-preserved
loop-rest-preserved c = (goes_on c.args.defined.now _ c.loop-rest.number c.loop-rest.rest.now c.next_line.result.0.now c.next_line.result.1.now (table_of c.loop-rest.draft) _ c.loop-rest.invariant.0 c.next_line.ensures.lines c.in_ok-read_line.ensures.read, c.in_ok-read_line.ensures.kept)

pub returns : goal.returns
returns c = is_done c.args.defined.now _ c.loop-rest.number c.loop-rest.rest.now (table_of c.loop-rest.draft) c.loop-rest.invariant.0 (eqb-true _ _ (sym c.loop-rest-test.ensures)) ∙ ap Ok (sym c.finish.ensures)
