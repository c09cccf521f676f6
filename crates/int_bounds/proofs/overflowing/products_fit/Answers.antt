use Rattle.std.proofs.Common.{◌≡◌, ◌*ℤ◌, not, ◌∙◌, true, ap, rules, FitsSigned}
use Rattle.std.specs.Int.{w64}
use Rattle.std.proofs.lemmas.Int.{to_z-of_z}
use Rattle.trace_ops.specs.Words.{overflows}
use Rattle.int_bounds.proofs.Fitting.{products-fit, within-low, within-high}
use Rattle.int_bounds.proofs.Equal.{not-no}
use Rattle.int_bounds.proofs.overflowing.products_fit.Goals as goal

pub returns-clause-never : goal.returns-clause-never
returns-clause-never c = λ says x y p q.
    let al : FitsSigned w64 c.args.a.low = search rules in
    let ah : FitsSigned w64 c.args.a.high = search rules in
    let bl : FitsSigned w64 c.args.b.low = search rules in
    let bh : FitsSigned w64 c.args.b.high = search rules in
    let first : c.mul_overflows.result ≡ overflows (c.args.a.low *ℤ c.args.b.low) = rw (to_z-of_z w64 c.args.a.low al, to_z-of_z w64 c.args.b.low bl) at c.mul_overflows.ensures in
    let second : c.mul_overflows-2.result ≡ overflows (c.args.a.low *ℤ c.args.b.high) = rw (to_z-of_z w64 c.args.a.low al, to_z-of_z w64 c.args.b.high bh) at c.mul_overflows-2.ensures in
    let third : c.mul_overflows-3.result ≡ overflows (c.args.a.high *ℤ c.args.b.low) = rw (to_z-of_z w64 c.args.a.high ah, to_z-of_z w64 c.args.b.low bl) at c.mul_overflows-3.ensures in
    let fourth : c.mul_overflows-4.result ≡ overflows (c.args.a.high *ℤ c.args.b.high) = rw (to_z-of_z w64 c.args.a.high ah, to_z-of_z w64 c.args.b.high bh) at c.mul_overflows-4.ensures in
    let (low, high) = c.neither.ensures.never says in
    let (one, two) = c.neither-low.ensures.never (not-no _ low) in
    let (three, four) = c.neither-high.ensures.never (not-no _ high) in
    products-fit c.args.a.low c.args.a.high c.args.b.low c.args.b.high x y p.0 p.1 q.0 q.1 (cc) (cc) (cc) (cc)

pub returns-clause-exact : goal.returns-clause-exact
returns-clause-exact c = λ fits.
    let al : FitsSigned w64 c.args.a.low = search rules in
    let ah : FitsSigned w64 c.args.a.high = search rules in
    let bl : FitsSigned w64 c.args.b.low = search rules in
    let bh : FitsSigned w64 c.args.b.high = search rules in
    let first : c.mul_overflows.result ≡ overflows (c.args.a.low *ℤ c.args.b.low) = rw (to_z-of_z w64 c.args.a.low al, to_z-of_z w64 c.args.b.low bl) at c.mul_overflows.ensures in
    let second : c.mul_overflows-2.result ≡ overflows (c.args.a.low *ℤ c.args.b.high) = rw (to_z-of_z w64 c.args.a.low al, to_z-of_z w64 c.args.b.high bh) at c.mul_overflows-2.ensures in
    let third : c.mul_overflows-3.result ≡ overflows (c.args.a.high *ℤ c.args.b.low) = rw (to_z-of_z w64 c.args.a.high ah, to_z-of_z w64 c.args.b.low bl) at c.mul_overflows-3.ensures in
    let fourth : c.mul_overflows-4.result ≡ overflows (c.args.a.high *ℤ c.args.b.high) = rw (to_z-of_z w64 c.args.a.high ah, to_z-of_z w64 c.args.b.high bh) at c.mul_overflows-4.ensures in
    let low : c.neither-low.result ≡ true = c.neither-low.ensures.exact (first ∙ fits c.args.a.low c.args.b.low (within-low c.args.a c.args.a.ordered) (within-low c.args.b c.args.b.ordered)) (second ∙ fits c.args.a.low c.args.b.high (within-low c.args.a c.args.a.ordered) (within-high c.args.b c.args.b.ordered)) in
    let high : c.neither-high.result ≡ true = c.neither-high.ensures.exact (third ∙ fits c.args.a.high c.args.b.low (within-high c.args.a c.args.a.ordered) (within-low c.args.b c.args.b.ordered)) (fourth ∙ fits c.args.a.high c.args.b.high (within-high c.args.a c.args.a.ordered) (within-high c.args.b c.args.b.ordered)) in
    c.neither.ensures.exact (ap not low) (ap not high)
