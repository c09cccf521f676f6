use Rattle.std.proofs.Common.{◌∙◌, ℕ, List, ap, subst}
use Rattle.std.specs.Prelude.{IfErr}
use Rattle.bridge_patch.specs.Image.{Imaged}
use Rattle.bridge_patch.specs.Bridged.{IsRefused}
use Rattle.bridge_patch.proofs.image.Image.attachable.Goals as goal

pub returns-clause-err : goal.returns-clause-err
returns-clause-err c = subst (λ (bs : List ℕ). IfErr c.attachable.result (λ e. IsRefused c.args.set.now bs c.args.bridge e)) (c.deref.ensures.value ∙ ap (λ (m : Imaged). m.attached) c.self.view_is) c.attachable.ensures.err
