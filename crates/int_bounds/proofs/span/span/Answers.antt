use Rattle.std.proofs.Common.{arith}
use Rattle.std.proofs.lemmas.Int.{ints}
use Rattle.int_bounds.proofs.Wraps.{wrap-between, least-wrap, wrap-most}
use Rattle.int_bounds.proofs.span.span.Goals as goal

pub returns-then-high-clause-contains : goal.returns-then-high-clause-contains
returns-then-high-clause-contains c = λ z l h.
    rw (wrap-between z (omega (arith, ints)) (omega (arith, ints))) (omega (arith, ints), omega (arith, ints))

pub returns-clause-contains : goal.returns-clause-contains
returns-clause-contains c = λ z l h. (least-wrap z, wrap-most z)
