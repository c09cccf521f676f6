use Rattle.std.proofs.Common.{rules, FitsSigned}
use Rattle.std.specs.Int.{w64}
use Rattle.std.proofs.lemmas.Int.{to_z-of_z}
use Rattle.int_bounds.proofs.Folded.{near-folded}
use Rattle.int_bounds.proofs.results.of_two.Goals as goal

pub returns-clause-near : goal.returns-clause-near
returns-clause-near c =
    let x : FitsSigned w64 c.in-Some.x = search rules in
    let y : FitsSigned w64 c.in-Some-only.y = search rules in
    let z : FitsSigned w64 c.in-Some-fold.z = search rules in
    near-folded c.args.code c.args.a c.args.b _ c.in-Some.x c.in-Some-only.y c.in-Some-fold.z x y
    c.in-Some.ensures.low c.in-Some.ensures.high c.in-Some-only.ensures.low c.in-Some-only.ensures.high c.args.a.ordered c.args.b.ordered
    (rw (to_z-of_z w64 c.in-Some.x x, to_z-of_z w64 c.in-Some-only.y y) at c.in-Some-fold.ensures.value)
    (to_z-of_z w64 c.in-Some-fold.z z) (to_z-of_z w64 c.in-Some-fold.z z)
