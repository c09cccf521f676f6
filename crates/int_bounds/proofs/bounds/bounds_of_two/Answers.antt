use Rattle.std.proofs.Common.{◌∙◌, ap, rules}
use Rattle.trace_ops.specs.Words.{less, at_most, unsigned_less, unsigned_at_most}
use Rattle.int_bounds.proofs.Settled.{settles-turned}
use Rattle.int_bounds.proofs.bounds.bounds_of_two.Goals.{in-IntAdd, in-IntSub, in-IntMul, in-IntAnd, in-IntOr, in-IntXor, in-IntLshift, in-IntRshift, in-UintRshift, in-IntLt, in-IntLe, in-IntEq, in-IntNe, in-IntGt, in-IntGe, in-UintLt, in-UintLe, in-UintGt, in-UintGe, in_default}
use Rattle.int_bounds.proofs.bounds.bounds_of_two.Goals as goal

pub returns-clause-near : goal.returns-clause-near
returns-clause-near c = elim c.match-code.branch [
  | in-IntAdd w ↦ search rules
  | in-IntSub w ↦ search rules
  | in-IntMul w ↦ search rules
  | in-IntAnd w ↦ search rules
  | in-IntOr w ↦ search rules
  | in-IntXor w ↦ search rules
  | in-IntLshift w ↦ search rules
  | in-IntRshift w ↦ search rules
  | in-UintRshift w ↦ search rules
  | in-IntLt w ↦ rw (w.in-IntLt.is) (λ answer all. let (low, high) = w.lesses.ensures.settled answer all in (ap (λ t. t.0) w.result-is ∙ low, ap (λ t. t.1.0) w.result-is ∙ high))
  | in-IntLe w ↦ rw (w.in-IntLe.is) (λ answer all. let (low, high) = w.at_mosts.ensures.settled answer all in (ap (λ t. t.0) w.result-is ∙ low, ap (λ t. t.1.0) w.result-is ∙ high))
  | in-IntEq w ↦ rw (w.in-IntEq.is) (λ answer all. let (low, high) = w.equals.ensures.settled answer all in (ap (λ t. t.0) w.result-is ∙ low, ap (λ t. t.1.0) w.result-is ∙ high))
  | in-IntNe w ↦ rw (w.in-IntNe.is) (λ answer all. let (low, high) = w.differs.ensures.settled answer all in (ap (λ t. t.0) w.result-is ∙ low, ap (λ t. t.1.0) w.result-is ∙ high))
  | in-IntGt w ↦ rw (w.in-IntGt.is) (λ answer all. let (low, high) = (settles-turned less c.args.a c.args.b w.lesses-in-IntGt.result w.lesses-in-IntGt.ensures.settled) answer all in (ap (λ t. t.0) w.result-is ∙ low, ap (λ t. t.1.0) w.result-is ∙ high))
  | in-IntGe w ↦ rw (w.in-IntGe.is) (λ answer all. let (low, high) = (settles-turned at_most c.args.a c.args.b w.at_mosts-in-IntGe.result w.at_mosts-in-IntGe.ensures.settled) answer all in (ap (λ t. t.0) w.result-is ∙ low, ap (λ t. t.1.0) w.result-is ∙ high))
  | in-UintLt w ↦ rw (w.in-UintLt.is) (λ answer all. let (low, high) = w.unsigned_lesses.ensures.settled answer all in (ap (λ t. t.0) w.result-is ∙ low, ap (λ t. t.1.0) w.result-is ∙ high))
  | in-UintLe w ↦ rw (w.in-UintLe.is) (λ answer all. let (low, high) = w.unsigned_at_mosts.ensures.settled answer all in (ap (λ t. t.0) w.result-is ∙ low, ap (λ t. t.1.0) w.result-is ∙ high))
  | in-UintGt w ↦ rw (w.in-UintGt.is) (λ answer all. let (low, high) = (settles-turned unsigned_less c.args.a c.args.b w.unsigned_lesses-in-UintGt.result w.unsigned_lesses-in-UintGt.ensures.settled) answer all in (ap (λ t. t.0) w.result-is ∙ low, ap (λ t. t.1.0) w.result-is ∙ high))
  | in-UintGe w ↦ rw (w.in-UintGe.is) (λ answer all. let (low, high) = (settles-turned unsigned_at_most c.args.a c.args.b w.unsigned_at_mosts-in-UintGe.result w.unsigned_at_mosts-in-UintGe.ensures.settled) answer all in (ap (λ t. t.0) w.result-is ∙ low, ap (λ t. t.1.0) w.result-is ∙ high))
  | in_default w ↦ search rules
]
