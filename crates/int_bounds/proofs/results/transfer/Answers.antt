use Rattle.std.proofs.Common.{ap, subst}
use Rattle.int_bounds.specs.Near.{IsNearOne, IsNearTwo}
use Rattle.int_bounds.proofs.Nearness.{near-none, near-one, near-two, near-many}
use Rattle.int_bounds.proofs.results.transfer.Goals.{in-len1, in-len2, in_default, in_default-2}
use Rattle.int_bounds.proofs.results.transfer.Goals as goal

pub returns-clause-near : goal.returns-clause-near
returns-clause-near c = elim c.if-args-lt1.branch [
  | in-len1 w ↦ near-one _ c.args.args.now w.a-item.result w.of_one.result _ w.in-len1.len_at_least w.in-len1.len_below w.a-item.is
      (subst (λ k. IsNearOne k w.a-item.result w.of_one.result) w.plain_of.ensures w.of_one.ensures.near) (ap (λ t. t.0) w.result-is) (ap (λ t. t.1.0) w.result-is)
  | in-len2 w ↦ near-two _ c.args.args.now w.a-item-then-args-lt3.result w.b-item.result w.of_two.result _ w.in-len2.len_at_least w.in-len2.len_below w.a-item-then-args-lt3.is w.b-item.is
      (subst (λ k. IsNearTwo k w.a-item-then-args-lt3.result w.b-item.result w.of_two.result) w.plain_of-in-len2.ensures w.of_two.ensures.near) (ap (λ t. t.0) w.result-is) (ap (λ t. t.1.0) w.result-is)
  | in_default w ↦ near-none _ c.args.args.now _ w.in_default.len_below
  | in_default-2 w ↦ near-many _ c.args.args.now _ w.in_default.len_at_least
]
