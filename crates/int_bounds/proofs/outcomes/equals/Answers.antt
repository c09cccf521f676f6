use Rattle.std.specs.Ordering.{int_eq}
use Rattle.int_bounds.proofs.Equal.{equal-same, equal-apart}
use Rattle.trace_ops.specs.Words.{equal}
use Rattle.int_bounds.proofs.Settled.{settled-by, equal-there, apart-there}
use Rattle.int_bounds.proofs.outcomes.equals.Goals as goal

pub returns-clause-contains : goal.returns-clause-contains
returns-clause-contains c = λ x y a b. c.outcomes.ensures.contains (int_eq x y)
    (λ h. equal-same x y (c.are_one.ensures.one h x y a b))
    (λ h. equal-apart x y (λ e. c.are_apart.ensures.apart h x a (rw e b)))

pub returns-clause-settled : goal.returns-clause-settled
returns-clause-settled c =
    let (p, q, wp, wq, e, f) = equal-there c.args.a c.args.b c.are_one.result c.args.a.ordered c.args.b.ordered c.are_one.ensures.one c.are_one.ensures.two in
    let (s, t, ws, wt, g, h) = apart-there c.args.a c.args.b c.are_apart.result c.args.a.ordered c.args.b.ordered c.are_apart.ensures.apart c.are_apart.ensures.shared in
    settled-by equal c.args.a c.args.b c.outcomes.result c.are_one.result c.are_apart.result c.outcomes.ensures.yes c.outcomes.ensures.no p q s t wp wq ws wt e g
