use Rattle.std.proofs.Common.{◌≡◌, ◌<◌, [], ◌∷◌, ◌++◌, length, sym, ap, ◌∙◌, rules}
use Rattle.std.specs.Option.{IsSome, option_to_list}
use Rattle.std.specs.Vec.{vec_len}
use Rattle.opt_set.specs.Optimised.{Optimised}
use Rattle.opt_set.proofs.TakenBack.{last_popped, pushed_some, last_taken}
use Rattle.opt_set.proofs.pieces.OptimisedSet.take_back.Goals as goal

pub returns-in-Some : goal.returns-in-Some
returns-in-Some c before h =
    let was = ap (λ (z : Optimised). z.traces) h.is in
    let some_there : 0 < length c.args.self.now.traces = pushed_some before.traces h.pieces _ was in
    let long : 0 < vec_len c.self.inside.traces = search (rules, some_there) in
    let some : IsSome c.pop.result = c.pop.ensures.variant.1 long in
    let items : c.args.self.now.traces ≡ c.pop.new.self.items ++ option_to_list c.pop.result = search (rules, c.pop.ensures.items) in
    let bridges : c.args.self.now.attached ≡ c.pop-2.new.self.items ++ c.in-Some.bridge ∷ [] = search (rules, c.in-Some.ensures.items) in
    let kept : c.self.inside.left.items ≡ c.args.self.now.left = search rules in
    let t = last_popped before.traces c.pop.new.self.items h.pieces c.pop.result some (sym was ∙ items) in
    last_taken before c.args.self.now (record { traces = c.pop.new.self.items; attached = c.pop-2.new.self.items; left = c.self.inside.left.items }) _ h t.0 c.in-Some.bridge (was ∙ t.1) bridges kept c.clear.ensures
