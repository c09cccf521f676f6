use Rattle.std.proofs.Common.{sym, ◌∙◌, ap, Some}
use Rattle.descr_table.proofs.Lists.{parts_more, parts_ended, parts_bad}
use Rattle.descr_table.proofs.values.parts_at.Goals as goal

pub loop-part-preserved : goal.loop-part-preserved
loop-part-preserved c = rw c.in_ok-push.ensures.items (sym (parts_more _ _ _ _ c.in-Some.ensures.value) ∙ c.loop-part.invariant)

pub returns-then-is_end : goal.returns-then-is_end
returns-then-is_end c = ap Some c.of.ensures ∙ parts_ended c.is_end.result _ _ _ c.in_default.ensures.value c.is_end.ensures c.if-is_end.true c.loop-part.invariant

pub returns : goal.returns
returns c = parts_bad c.is_end.result _ _ _ c.in_default.ensures.value c.is_end.ensures c.if-is_end.false c.loop-part.invariant
