use Rattle.std.proofs.Common.{arith}
use Rattle.std.specs.Prelude.{int_lt}
use Rattle.std.proofs.lemmas.Int.{ints}
use Rattle.trace_ops.specs.Words.{less}
use Rattle.int_bounds.proofs.Fitting.{within-low, within-high}
use Rattle.int_bounds.proofs.Settled.{settled-by, less-told}
use Rattle.int_bounds.proofs.outcomes.lesses.Goals as goal

pub returns-clause-contains : goal.returns-clause-contains
returns-clause-contains c = λ x y a b. c.outcomes.ensures.contains (int_lt x y) (λ h. grind (arith, ints)) (λ h. grind (arith, ints))

pub returns-clause-settled : goal.returns-clause-settled
returns-clause-settled c = settled-by less c.args.a c.args.b c.outcomes.result _ _ c.outcomes.ensures.yes c.outcomes.ensures.no
    c.args.a.high c.args.b.low c.args.a.low c.args.b.high
    (within-high c.args.a c.args.a.ordered) (within-low c.args.b c.args.b.ordered) (within-low c.args.a c.args.a.ordered) (within-high c.args.b c.args.b.ordered)
    (less-told c.args.a.high c.args.b.low _ (λ h. grind (arith, ints)) (λ h. grind (arith, ints)))
    (less-told c.args.a.low c.args.b.high _ (λ h. grind (arith, ints)) (λ h. grind (arith, ints)))
