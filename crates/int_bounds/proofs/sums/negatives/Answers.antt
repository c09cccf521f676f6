use Rattle.std.proofs.Common.{neg_ℤ, arith}
use Rattle.std.proofs.lemmas.Int.{ints}
use Rattle.int_bounds.proofs.sums.negatives.Goals as goal

pub returns-clause-contains : goal.returns-clause-contains
returns-clause-contains c = λ x a. c.span.ensures.contains (neg_ℤ x) (omega (arith, ints)) (omega (arith, ints))
