use Rattle.std.proofs.Common.{◌≡◌, ℕ, ◌+◌, ◌*◌, List, length, ap, sym, ◌∙◌, subst}
use Rattle.bridge_patch.specs.Image.{Imaged}
use Rattle.run_session.specs.Calls.{most_made, MayMake, RunsUpTo, MakesAtMost, MakesAll}
use Rattle.run_session.specs.Sessions.{Sessioned}
use Rattle.run_session.proofs.session.Session.run.Goals as goal

-- how many events are made at most
limit_is : (a b len n : ℕ) (read code : List ℕ) (s : Sessioned) → a ≡ n → b ≡ len → len ≡ length read → read ≡ code → code ≡ s.image.bytes → (a + 1) * b ≡ most_made n s
limit_is a b len n read code s e1 e2 e3 e4 e5 = ap (λ k. (k + 1) * b) e1 ∙ ap (λ k. (n + 1) * k) (e2 ∙ e3 ∙ ap length (e4 ∙ e5))

pub steps-requires-clause-count : goal.steps-requires-clause-count
steps-requires-clause-count c =
    subst (λ k. MayMake c.args.a k c.args.self.now) (sym (limit_is c.from.result c.from-2.result c.len.result c.args.n c.code.result.now.bytes c.self.inside.placed.image.bytes c.args.self.now c.from.ensures c.from-2.ensures c.len.ensures.len (c.code.ensures ∙ ap (λ (i : Imaged). i.bytes) c.image.ensures) (ap (λ (s : Sessioned). s.image.bytes) c.self.view_is))) c.requires.count

pub returns-clause-events : goal.returns-clause-events
returns-clause-events c =
    subst (λ k. RunsUpTo c.args.a k c.args.self.now c.steps.new.self c.steps.result) (limit_is c.from.result c.from-2.result c.len.result c.args.n c.code.result.now.bytes c.self.inside.placed.image.bytes c.args.self.now c.from.ensures c.from-2.ensures c.len.ensures.len (c.code.ensures ∙ ap (λ (i : Imaged). i.bytes) c.image.ensures) (ap (λ (s : Sessioned). s.image.bytes) c.self.view_is)) c.steps.ensures.events

pub returns-clause-made : goal.returns-clause-made
returns-clause-made c =
    subst (λ k. MakesAtMost c.args.a k c.args.self.now c.steps.new.self) (limit_is c.from.result c.from-2.result c.len.result c.args.n c.code.result.now.bytes c.self.inside.placed.image.bytes c.args.self.now c.from.ensures c.from-2.ensures c.len.ensures.len (c.code.ensures ∙ ap (λ (i : Imaged). i.bytes) c.image.ensures) (ap (λ (s : Sessioned). s.image.bytes) c.self.view_is)) c.steps.ensures.made

pub returns-clause-all : goal.returns-clause-all
returns-clause-all c =
    subst (λ k. MakesAll c.args.a k c.args.self.now c.steps.new.self c.steps.result) (limit_is c.from.result c.from-2.result c.len.result c.args.n c.code.result.now.bytes c.self.inside.placed.image.bytes c.args.self.now c.from.ensures c.from-2.ensures c.len.ensures.len (c.code.ensures ∙ ap (λ (i : Imaged). i.bytes) c.image.ensures) (ap (λ (s : Sessioned). s.image.bytes) c.self.view_is)) c.steps.ensures.all
