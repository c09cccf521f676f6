use Rattle.std.proofs.Common.{pos, get_or, ◌∙◌}
use Rattle.std.proofs.lemmas.Option.{slice_get-get_or}
use Rattle.trace_meaning.specs.declared.value.Value.TheVariants as v
use Rattle.heap_shape.proofs.Steps.{within_rest, visit_rest}
use Rattle.heap_shape.proofs.visits.Visits.add_values.Goals as goal

pub loop-value-preserved : goal.loop-value-preserved
loop-value-preserved c =
    let i = c.loop-value.value-index in let values = c.args.values.now in
    let at = slice_get-get_or values i (v.Int (pos 0)) c.loop-value-test.true in
    record {
      order = visit_rest c.loop-value.self.order.items c.add_value.new.self.order.items _ i values (get_or values i (v.Int (pos 0))) at c.in_ok-add_value.ensures.order c.loop-value.invariant.order;
      count = c.in_ok-add_value.ensures.count ∙ c.loop-value.invariant.count;
      numbered = c.in_ok-add_value.ensures.numbered;
      within = within_rest _ _ i values (get_or values i (v.Int (pos 0))) at c.in_ok-add_value.ensures.count c.loop-value.invariant.within;
    }
