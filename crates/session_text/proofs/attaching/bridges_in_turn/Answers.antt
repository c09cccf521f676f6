use Rattle.std.proofs.Common.{◌-◌, ◌+◌, ◌<◌, length, arith, length-set, ap, sym, subst, ◌∙◌, rules, List}
use Rattle.std.proofs.lemmas.List.{get_or_default}
use Rattle.session_text.specs.declared.attaching.Row.{Row}
use Rattle.session_text.specs.Attaching.{first_bridge, turns, no_row}
use Rattle.session_text.proofs.Turning.{turns-stopped, turns-over, turns-more, turns-changed}
use Rattle.session_text.proofs.attaching.bridges_in_turn.Goals as goal

pub loop-init : goal.loop-init
loop-init c = search rules

pub returns-in_default : goal.returns-in_default
returns-in_default c =
    turns-stopped (length c.args.rows.items - c.loop.counter) c.loop.rows.items (first_bridge c.loop.rows.items) c.loop.bridges.items _ (sym (c.first_bridge.ensures.value ∙ ap first_bridge c.deref.ensures.value) ∙ c.in_default.is) c.loop.invariant.1

pub loop-preserved : goal.loop-preserved
loop-preserved c =
    let within : c.loop.counter < length c.args.rows.items = omega (arith, c.loop-test.true, c.len-end.ensures) in
    let within_rows : c.in-Some.bridge < length c.loop.rows.items = subst (λ (rows : List Row). c.in-Some.bridge < length rows) c.deref.ensures.value c.in-Some.ensures.within in (
      length-set c.loop.rows.items c.in-Some.bridge _ ∙ c.loop.invariant.0,
      turns-changed (length c.args.rows.items - (c.loop.counter + 1)) c.loop.rows.items c.in-Some.bridge c.index_mut.result.now c.push.new.self.items _ (c.index_mut.ensures.value ∙ get_or_default c.loop.rows.items c.in-Some.bridge c.index_mut.result.now no_row within_rows)
          (turns-more (length c.args.rows.items) c.loop.counter c.loop.rows.items c.in-Some.bridge (first_bridge c.loop.rows.items) c.loop.bridges.items c.push.new.self.items _ within
          (sym (c.first_bridge.ensures.value ∙ ap first_bridge c.deref.ensures.value) ∙ c.in-Some.is) c.in_ok-push.ensures.items c.loop.invariant.1),
    )

pub returns : goal.returns
returns c = turns-over (length c.args.rows.items - c.loop.counter) c.loop.rows.items (first_bridge c.loop.rows.items) c.loop.bridges.items _ (omega (arith, c.loop-test.false, c.len-end.ensures)) c.loop.invariant.1
