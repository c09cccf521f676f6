use Rattle.std.proofs.Common.{◌≡◌, ◌∙◌, ℕ, List, Option, Some, None, OnOk, ap, subst}
use Rattle.trace_meaning.specs.declared.value.Value.{Value}
use Rattle.trace_meaning.specs.World.{failed}
use Rattle.trace_meaning.specs.Cuts.{seen_bridge}
use Rattle.trace_meaning.specs.Legs.{begins, into}
use Rattle.trace_meaning.specs.Recorded.{recorded}
use Rattle.trace_meaning.specs.Standing.{now_of}
use Rattle.trace_meaning.proofs.steps.leave_by_guard.Goals as goal

pub returns-in-None-clause-ok : goal.returns-in-None-clause-ok
returns-in-None-clause-ok c =
    let set = c.args.set.now in
    let routes = c.args.routes.now in
    let k = c.args.c.now in
    let seen : None ≡ seen_bridge set.traces routes.cuts.items k.trace k.guards k.world.world.failures =
    c.in-None.ensures set c.requires.routed
    ∙ ap (seen_bridge set.traces routes.cuts.items k.trace k.guards) c.failures-failure.ensures in
    let P : Option ℕ → Type 0 = λ x. OnOk c.exit.result (now_of set c.exit.new.c ≡ into (recorded set routes.cuts.items) k.trace k.guards c.args.values.items k.world.world x) in
    subst P seen c.exit.ensures.ok

pub returns-in-Some-clause-ok : goal.returns-in-Some-clause-ok
returns-in-Some-clause-ok c =
    let set = c.args.set.now in
    let routes = c.args.routes.now in
    let k = c.args.c.now in
    let seen : Some c.in-Some.bridge ≡ seen_bridge set.traces routes.cuts.items k.trace k.guards k.world.world.failures =
    c.in-Some.ensures set c.requires.routed
    ∙ ap (seen_bridge set.traces routes.cuts.items k.trace k.guards) c.failures-failure.ensures in
    let P : Option ℕ → Type 0 = λ x. OnOk c.enter_bridge.result (now_of set c.enter_bridge.new.c ≡ into (recorded set routes.cuts.items) k.trace k.guards c.args.values.items k.world.world x) in
    let Q : List Value → Type 0 = λ vs. OnOk c.enter_bridge.result (now_of set c.enter_bridge.new.c ≡ begins (recorded set routes.cuts.items) c.in-Some.bridge vs (failed k.world.world)) in
    subst P seen (subst Q c.deref.ensures.value c.enter_bridge.ensures.ok)
