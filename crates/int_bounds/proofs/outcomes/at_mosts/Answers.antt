use Rattle.std.proofs.Common.{arith}
use Rattle.std.specs.Prelude.{int_le}
use Rattle.std.proofs.lemmas.Int.{ints}
use Rattle.trace_ops.specs.Words.{at_most}
use Rattle.int_bounds.proofs.Fitting.{within-low, within-high}
use Rattle.int_bounds.proofs.Settled.{settled-by, at_most-told}
use Rattle.int_bounds.proofs.outcomes.at_mosts.Goals as goal

pub returns-clause-contains : goal.returns-clause-contains
returns-clause-contains c = λ x y a b. c.outcomes.ensures.contains (int_le x y) (λ h. grind (arith, ints)) (λ h. grind (arith, ints))

pub returns-clause-settled : goal.returns-clause-settled
returns-clause-settled c = settled-by at_most c.args.a c.args.b c.outcomes.result _ _ c.outcomes.ensures.yes c.outcomes.ensures.no
    c.args.a.high c.args.b.low c.args.a.low c.args.b.high
    (within-high c.args.a c.args.a.ordered) (within-low c.args.b c.args.b.ordered) (within-low c.args.a c.args.a.ordered) (within-high c.args.b c.args.b.ordered)
    (at_most-told c.args.a.high c.args.b.low _ (λ h. grind (arith, ints)) (λ h. grind (arith, ints)))
    (at_most-told c.args.a.low c.args.b.high _ (λ h. grind (arith, ints)) (λ h. grind (arith, ints)))
