use Rattle.std.proofs.Common.{◌≡◌, ◌++◌, ◌∷◌, [], drop, arith}
use Rattle.trace_meaning.proofs.KeptCalls.{answered_new, used_more}
use Rattle.trace_meaning.proofs.world.World.log_answered_new.Goals as goal

pub returns-clause-ok : goal.returns-clause-ok
returns-clause-ok c =
    let w = c.self.inside in
    let calls : c.push-2.new.self.items ≡ w.calls.items ++ c.args.event ∷ [] = grind (arith, c.in_default.ensures.items, c.in_ok-reserve-2.ensures.items) in
    let spent : c.push-3.new.self.items ≡ w.spent.items ++ w.bytes ∷ [] = grind (arith, c.in_default-push.ensures.items, c.in_ok-reserve.ensures.items) in
    answered_new w.store.objects w.calls.items _ w.spent.items _ c.args.event w.bytes w.failures w.prebuilts w.overflow _ c.self.invariant.calls calls spent c.self.invariant.counted.total (drop w.used w.answers.items) _ c.args.object _ c.in_ok-push.ensures.ok (used_more w.used w.answers.items) c.self.view_is
