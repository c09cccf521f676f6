use Rattle.std.proofs.Common.{◌≡◌, ◌∙◌, sym, ap, Some}
use Rattle.std.specs.Prelude.{slice_get}
use Rattle.run_session.specs.Fitting.{fit_each}
use Rattle.run_session.proofs.Lists.{get_some}
use Rattle.run_session.proofs.Starts.{starts_when, starts_unless}
use Rattle.run_session.proofs.starting.fits_loop.Goals as goal

pub returns-then-is_loop : goal.returns-then-is_loop
returns-then-is_loop c =
    let set = c.args.set.now in
    let one = c.in-Some.one.now in
    let found = c.in-Some.ensures.lookup in
    let at : slice_get set.traces c.args.trace ≡ Some one = ap (λ l. slice_get l c.args.trace) (sym c.items.ensures) ∙ get_some c.items.result.now c.args.trace one found.3.0 ∙ ap Some (sym found.1) in
    starts_when set c.args.trace c.args.inputs.now one c.fit_boxes.result at (c.is_loop.ensures.0 c.if-is_loop.true) (c.fit_boxes.ensures ∙ ap (λ l. fit_each set.table l c.args.inputs.now) c.items-then-is_loop.ensures)

pub returns-else-is_loop : goal.returns-else-is_loop
returns-else-is_loop c =
    let set = c.args.set.now in
    let one = c.in-Some.one.now in
    let found = c.in-Some.ensures.lookup in
    let at : slice_get set.traces c.args.trace ≡ Some one = ap (λ l. slice_get l c.args.trace) (sym c.items.ensures) ∙ get_some c.items.result.now c.args.trace one found.3.0 ∙ ap Some (sym found.1) in
    starts_unless set c.args.trace c.args.inputs.now one c.is_loop.result at c.is_loop.ensures c.if-is_loop.false
