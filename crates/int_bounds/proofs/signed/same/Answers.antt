use Rattle.std.proofs.Common.{inl, inr, arith}
use Rattle.std.proofs.lemmas.Int.{ints}
use Rattle.int_bounds.proofs.signed.same.Goals as goal

pub returns-clause-narrows : goal.returns-clause-narrows
returns-clause-narrows c = (
  λ x y a b t. (
    (
      elim c.greater-low.ensures.one [ inl e ↦ omega (arith, ints) | inr e ↦ omega (arith, ints) ],
      elim c.lesser-high.ensures.one [ inl e ↦ omega (arith, ints) | inr e ↦ omega (arith, ints) ],
    ),
    (
      elim c.greater-low.ensures.one [ inl e ↦ omega (arith, ints) | inr e ↦ omega (arith, ints) ],
      elim c.lesser-high.ensures.one [ inl e ↦ omega (arith, ints) | inr e ↦ omega (arith, ints) ],
    ),
  ),
  (omega (arith, ints), omega (arith, ints)),
  (omega (arith, ints), omega (arith, ints)),
)
