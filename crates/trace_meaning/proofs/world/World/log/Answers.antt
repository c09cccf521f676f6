use Rattle.std.proofs.Common.{◌≡◌, ◌++◌, ◌∷◌, [], drop, arith}
use Rattle.trace_meaning.proofs.KeptCalls.{called_once}
use Rattle.trace_meaning.proofs.world.World.log.Goals as goal

pub returns-clause-ok : goal.returns-clause-ok
returns-clause-ok c =
    let w = c.self.inside in
    let spent : c.push-2.new.self.items ≡ w.spent.items ++ w.bytes ∷ [] = grind (arith, c.in_default.ensures.items, c.in_ok-reserve.ensures.items) in
    called_once w.store.objects w.calls.items _ w.spent.items _ c.args.event w.bytes w.failures w.prebuilts w.overflow _ c.self.invariant.calls c.in_ok-push.ensures.items spent c.self.invariant.counted.total (drop w.used w.answers.items) c.self.view_is
