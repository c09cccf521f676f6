use Rattle.std.proofs.Common.{sym, ap, ◌∙◌, take, drop}
use Rattle.std.proofs.lemmas.Bool.{eqb-true}
use Rattle.trace_text.specs.Sections.{stops}
use Rattle.trace_text.proofs.Cuts.{goes_on, at_line, at_end, front_whole, back_whole}
use Rattle.trace_text.proofs.cut.cut.Goals as goal

pub returns-then-stops-clause-front : goal.returns-then-stops-clause-front
returns-then-stops-clause-front c = c.split_at.ensures.front ∙ ap (λ k. take k c.args.text.now) (at_line (stops c.args.until) c.args.text.now c.loop-rest.rest.now c.next_line.result.0.now c.next_line.result.1.now c.loop-rest.count c.loop-rest.invariant c.next_line.ensures.lines (sym c.stops.ensures ∙ c.if-stops.true)).place

pub returns-then-stops-clause-back : goal.returns-then-stops-clause-back
returns-then-stops-clause-back c = c.split_at-then-stops.ensures.back ∙ ap (λ k. drop k c.args.text.now) (at_line (stops c.args.until) c.args.text.now c.loop-rest.rest.now c.next_line.result.0.now c.next_line.result.1.now c.loop-rest.count c.loop-rest.invariant c.next_line.ensures.lines (sym c.stops.ensures ∙ c.if-stops.true)).place

pub loop-rest-preserved : goal.loop-rest-preserved
loop-rest-preserved c = goes_on (stops c.args.until) c.args.text.now c.loop-rest.rest.now c.next_line.result.0.now c.next_line.result.1.now c.loop-rest.count c.loop-rest.invariant c.next_line.ensures.lines c.next_line.ensures.behind c.next_line.ensures.within (sym c.stops.ensures ∙ c.if-stops.false)

pub returns-clause-front : goal.returns-clause-front
returns-clause-front c = front_whole c.args.text.now _ (at_end (stops c.args.until) c.args.text.now c.loop-rest.rest.now c.loop-rest.count c.loop-rest.invariant (eqb-true _ _ (sym c.loop-rest-test.ensures))).place

pub returns-clause-back : goal.returns-clause-back
returns-clause-back c = back_whole c.args.text.now _ (at_end (stops c.args.until) c.args.text.now c.loop-rest.rest.now c.loop-rest.count c.loop-rest.invariant (eqb-true _ _ (sym c.loop-rest-test.ensures))).place

pub returns-clause-lines : goal.returns-clause-lines
returns-clause-lines c = (at_end (stops c.args.until) c.args.text.now c.loop-rest.rest.now c.loop-rest.count c.loop-rest.invariant (eqb-true _ _ (sym c.loop-rest-test.ensures))).count
