use Rattle.std.proofs.Common.{◌≡◌, ◌+ℤ◌, arith, rules, to_z, of_z}
use Rattle.std.specs.Int.{w128}
use Rattle.std.proofs.lemmas.Int.{ints}
use Rattle.int_bounds.proofs.Casts.{wide-cast}
use Rattle.int_bounds.proofs.sums.sums.Goals as goal

pub returns-clause-contains : goal.returns-clause-contains
returns-clause-contains c = λ x y a b. c.span.ensures.contains (x +ℤ y) (omega (arith, ints)) (omega (arith, ints))

pub returns-clause-near : goal.returns-clause-near
returns-clause-near c =
    let e : to_z w128 (of_z w128 c.sum.result) ≡ c.args.a.low +ℤ c.args.b.low = wide-cast (λ x y. x +ℤ y) c.sum.result c.args.a.low c.args.b.low (search rules) (search rules) (search rules) c.sum.ensures in
    let f : to_z w128 (of_z w128 c.sum-2.result) ≡ c.args.a.high +ℤ c.args.b.high = wide-cast (λ x y. x +ℤ y) c.sum-2.result c.args.a.high c.args.b.high (search rules) (search rules) (search rules) c.sum-2.ensures in
    rw (e, f) at c.span.ensures.near
