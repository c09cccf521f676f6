use Rattle.std.proofs.Common.{inl, inr, arith}
use Rattle.std.proofs.lemmas.Int.{ints}
use Rattle.int_bounds.proofs.signed.below.Goals as goal

pub returns-clause-narrows : goal.returns-clause-narrows
returns-clause-narrows c = (
  λ x y a b t. (
    (omega (arith, ints), elim c.lesser.ensures.one [ inl e ↦ omega (arith, ints) | inr e ↦ omega (arith, ints) ]),
    (elim c.greater.ensures.one [ inl e ↦ omega (arith, ints) | inr e ↦ omega (arith, ints) ], omega (arith, ints)),
  ),
  (omega (arith, ints), omega (arith, ints)),
  (omega (arith, ints), omega (arith, ints)),
)
