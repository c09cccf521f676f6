use Rattle.std.proofs.Common.{◌∙◌, ap, pos, rules}
use Rattle.trace_ops.specs.Words.{equal, unequal}
use Rattle.int_bounds.proofs.Settled.{settles-one}
use Rattle.int_bounds.proofs.bounds.bounds_of_one.Goals.{in-IntIsZero, in-IntIsTrue, in-IntNeg, in-IntInvert, in-IntForceGeZero, in-SameAsI, in_default}
use Rattle.int_bounds.proofs.bounds.bounds_of_one.Goals as goal

pub returns-clause-near : goal.returns-clause-near
returns-clause-near c = elim c.match-code.branch [
  | in-IntIsZero w ↦ rw (w.in-IntIsZero.is) (λ answer all.
      let (low, high) = settles-one equal c.args.a w.zero.result w.equals.result (pos 0) w.zero.ensures.only w.equals.ensures.settled answer all in
      (ap (λ t. t.0) w.result-is ∙ low, ap (λ t. t.1.0) w.result-is ∙ high))
  | in-IntIsTrue w ↦ rw (w.in-IntIsTrue.is) (λ answer all.
      let (low, high) = settles-one unequal c.args.a w.zero-in-IntIsTrue.result w.differs.result (pos 0) w.zero-in-IntIsTrue.ensures.only w.differs.ensures.settled answer all in
      (ap (λ t. t.0) w.result-is ∙ low, ap (λ t. t.1.0) w.result-is ∙ high))
  | in-IntNeg w ↦ search rules
  | in-IntInvert w ↦ search rules
  | in-IntForceGeZero w ↦ search rules
  | in-SameAsI w ↦ search rules
  | in_default w ↦ search rules
]
