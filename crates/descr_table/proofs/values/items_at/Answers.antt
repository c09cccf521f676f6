use Rattle.std.proofs.Common.{sym, ◌∙◌, ap, Some}
use Rattle.descr_table.proofs.Lists.{items_more, items_none, items_ended, items_bad}
use Rattle.descr_table.proofs.values.items_at.Goals as goal

pub loop-item-preserved : goal.loop-item-preserved
loop-item-preserved c = rw c.in_ok-push.ensures.items (sym (items_more _ _ _ _ _ c.in-Some.ensures.value c.if-last.false) ∙ c.loop-item.invariant)

pub returns-then-is_end : goal.returns-then-is_end
returns-then-is_end c = ap Some (c.of.ensures ∙ c.in_ok-push.ensures.items) ∙ items_ended c.is_end.result _ _ _ _ _ _ c.in-Some.ensures.value c.if-last.true c.is_end.ensures c.if-is_end.true c.loop-item.invariant

pub returns-then-last : goal.returns-then-last
returns-then-last c = items_bad c.is_end.result _ _ _ _ _ _ c.in-Some.ensures.value c.if-last.true c.is_end.ensures c.if-is_end.false c.loop-item.invariant

pub returns : goal.returns
returns c = sym (items_none _ _ c.in_default.ensures.value) ∙ c.loop-item.invariant
