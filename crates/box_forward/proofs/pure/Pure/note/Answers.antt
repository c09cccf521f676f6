use Rattle.std.proofs.Common.{◌≡◌, List, Bool, true, false, cond, Option, Some, refl, ap, sym, ◌∙◌}
use Rattle.trace_ops.specs.declared.trace.Arg.{Arg}
use Rattle.trace_ops.specs.Equality.{EqualityDecides}
use Rattle.box_forward.specs.declared.pure.Key.{Key}
use Rattle.box_forward.specs.Noted.{at_key}
use Rattle.box_forward.specs.contracts.pure.KeyPartialEq.TheImpl as key_eq
use Rattle.box_forward.specs.contracts.pure.KeyEq.TheImpl.Laws as key_laws
use Rattle.box_forward.proofs.KeySame.{key_same}
use Rattle.box_forward.proofs.pure.Pure.note.Goals as goal

unless_same : EqualityDecides → (b : Bool) (k q : Key) (x y : Option Arg) → key_eq.ghosts.eq k q ≡ b → (q ≡ k → ⊥) → cond b x y ≡ y
unless_same law true k q x y h apart = absurd (apart (sym (key_same law k q h)))
unless_same law false k q x y h apart = refl

pub returns-clause-ok : goal.returns-clause-ok
returns-clause-ok c =
    let k = c.key_of.ensures in
    let updates = c.in_ok-insert.ensures.updates in
    record {
      here = ap (λ (q : Key). at_key q c.insert.new.self.entries) (sym k) ∙ (updates.0 c.key_of.result ∙ ap (λ (b : Bool). cond b (Some c.args.value) (at_key c.key_of.result c.self.inside.known.entries)) (key_laws.lawful.laws.refl c.key_of.result));
      others = λ q apart. updates.0 q ∙ unless_same c.equality_decides.ensures _ c.key_of.result q _ _ refl (λ e. apart (e ∙ k)) ∙ ap (λ (es : List (Key × Arg)). at_key q es) c.self.view_is;
    }
