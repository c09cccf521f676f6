use Rattle.std.proofs.Common.{◌∙◌, sym, rules}
use Rattle.std.specs.Int.{w64}
use Rattle.std.specs.Int.Signed.{≤ℤ_refl}
use Rattle.std.proofs.lemmas.Int.{to_z-of_z}
use Rattle.int_bounds.proofs.signed.second_apart.Goals as goal

pub returns : goal.returns
returns c = (
  λ x y a b differ. (a, c.without.ensures.keeps y b (λ e. differ (c.requires x a ∙ sym (to_z-of_z w64 c.args.word (search rules)) ∙ sym e))),
  (≤ℤ_refl _, ≤ℤ_refl _),
  c.without.ensures.part,
)
