use Rattle.std.proofs.Common.{◌∙◌, sym, rules}
use Rattle.std.specs.Int.{w64}
use Rattle.std.specs.Int.Signed.{≤ℤ_refl}
use Rattle.std.proofs.lemmas.Int.{to_z-of_z}
use Rattle.int_bounds.proofs.signed.first_apart.Goals as goal

pub returns : goal.returns
returns c = (
  λ x y a b differ. (c.without.ensures.keeps x a (λ e. differ (e ∙ to_z-of_z w64 c.args.word (search rules) ∙ sym (c.requires y b))), b),
  c.without.ensures.part,
  (≤ℤ_refl _, ≤ℤ_refl _),
)
