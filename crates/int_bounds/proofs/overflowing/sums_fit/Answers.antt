use Rattle.std.proofs.Common.{◌≡◌, ◌+ℤ◌, ◌∙◌, arith, rules, FitsSigned}
use Rattle.std.specs.Int.{w64}
use Rattle.std.proofs.lemmas.Int.{ints, to_z-of_z}
use Rattle.trace_ops.specs.Words.{overflows}
use Rattle.int_bounds.proofs.Fitting.{overflows-between, within-low, within-high}
use Rattle.int_bounds.proofs.overflowing.sums_fit.Goals as goal

pub returns-clause-never : goal.returns-clause-never
returns-clause-never c = λ says x y p q.
    let al : FitsSigned w64 c.args.a.low = search rules in
    let ah : FitsSigned w64 c.args.a.high = search rules in
    let bl : FitsSigned w64 c.args.b.low = search rules in
    let bh : FitsSigned w64 c.args.b.high = search rules in
    let first : c.add_overflows.result ≡ overflows (c.args.a.low +ℤ c.args.b.low) = rw (to_z-of_z w64 c.args.a.low al, to_z-of_z w64 c.args.b.low bl) at c.add_overflows.ensures in
    let second : c.add_overflows-2.result ≡ overflows (c.args.a.high +ℤ c.args.b.high) = rw (to_z-of_z w64 c.args.a.high ah, to_z-of_z w64 c.args.b.high bh) at c.add_overflows-2.ensures in
    let (low, high) = c.neither.ensures.never says in
    overflows-between (c.args.a.low +ℤ c.args.b.low) (c.args.a.high +ℤ c.args.b.high) (x +ℤ y) (cc) (cc) (omega (arith, ints)) (omega (arith, ints))

pub returns-clause-exact : goal.returns-clause-exact
returns-clause-exact c = λ fits.
    let al : FitsSigned w64 c.args.a.low = search rules in
    let ah : FitsSigned w64 c.args.a.high = search rules in
    let bl : FitsSigned w64 c.args.b.low = search rules in
    let bh : FitsSigned w64 c.args.b.high = search rules in
    let first : c.add_overflows.result ≡ overflows (c.args.a.low +ℤ c.args.b.low) = rw (to_z-of_z w64 c.args.a.low al, to_z-of_z w64 c.args.b.low bl) at c.add_overflows.ensures in
    let second : c.add_overflows-2.result ≡ overflows (c.args.a.high +ℤ c.args.b.high) = rw (to_z-of_z w64 c.args.a.high ah, to_z-of_z w64 c.args.b.high bh) at c.add_overflows-2.ensures in
    c.neither.ensures.exact (first ∙ fits c.args.a.low c.args.b.low (within-low c.args.a c.args.a.ordered) (within-low c.args.b c.args.b.ordered)) (second ∙ fits c.args.a.high c.args.b.high (within-high c.args.a c.args.a.ordered) (within-high c.args.b c.args.b.ordered))
