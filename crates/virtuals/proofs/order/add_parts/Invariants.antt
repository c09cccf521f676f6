use Rattle.std.proofs.Common.{◌≡◌, drop}
use Rattle.virtuals.specs.Order.{added_parts, AreMarks}
use Rattle.virtuals.proofs.order.add_parts.Given as goal

abbrev pub invariant-loop-part : goal.invariant-loop-part
invariant-loop-part l = record {
  listed : added_parts l.work.items (drop l.part-index l.parts) ≡ added_parts l.initial.work.items l.parts;
  marked : AreMarks l.work.items l.marks.keys;
}
