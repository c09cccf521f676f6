use Rattle.std.proofs.Common.{sym, ◌∙◌, subst, refl}
use Rattle.trace_ops.specs.declared.trace.TraceSet.{TraceSet}
use Rattle.bridge_patch.specs.Attached.{CanAttach}
use Rattle.set_in_image.specs.Placing.{IsAttached}
use Rattle.set_in_image.proofs.Histories.{ready_so, named_so, last_so, may_so, attached_by, placed_so, kept_so, still_so}
use Rattle.set_in_image.proofs.placed.PlacedSet.place.Goals as goal

pub grow-requires : goal.grow-requires
grow-requires c words =
    let r = ready_so c.args.bridge c.args.made c.self.inside.checked c.self.inside.optimised c.add_bridge.new.self c.self.inside.image c.args.self.now c.self.view_is c.requires c.in_ok-add_bridge.ensures.ok in
    let named = named_so c.self.inside.optimised c.add_bridge.new.self r.1 c.args.bridge r.2 in
    let last = last_so c.self.inside.optimised c.add_bridge.new.self r.1 c.traces-traces.result.now _ c.index-traces-traces.result c.traces-traces.ensures refl c.index-traces-traces.is in
    subst (λ (s : TraceSet). CanAttach s c.self.inside.image c.args.bridge c.index-traces-traces.result.pieces) (sym c.set.ensures.value)
    (may_so c.attached_can_attach.ensures c.self.inside.checked c.set.ensures.checked c.self.inside.optimised c.add_bridge.new.self c.self.inside.image c.self.invariant r.0 r.1 c.args.bridge
    c.index-traces-traces.result named last words)

pub invariant_of-self-in-Ok : goal.invariant_of-self-in-Ok
invariant_of-self-in-Ok c =
    let r = ready_so c.args.bridge c.args.made c.self.inside.checked c.self.inside.optimised c.add_bridge.new.self c.self.inside.image c.args.self.now c.self.view_is c.requires c.in_ok-add_bridge.ensures.ok in
    let named = named_so c.self.inside.optimised c.add_bridge.new.self r.1 c.args.bridge r.2 in
    let last = last_so c.self.inside.optimised c.add_bridge.new.self r.1 c.traces-traces.result.now _ c.index-traces-traces.result c.traces-traces.ensures refl c.index-traces-traces.is in
    let attached =
    attached_by c.attached_can_attach.ensures c.self.inside.checked c.set.result.now c.set.ensures.value c.set.ensures.checked c.self.inside.optimised c.add_bridge.new.self c.self.inside.image c.grow.new.image
    c.self.invariant r.0 r.1 c.args.bridge c.index-traces-traces.result named last c.grow.ensures.words c.in-Ok.ensures.changed c.in-Ok.ensures.placed in
    placed_so c.self.inside.checked c.args.bridge c.self.inside.optimised c.add_bridge.new.self c.self.inside.image c.grow.new.image c.self.invariant r.0 attached

pub returns-in-Ok-clause-attached : goal.returns-in-Ok-clause-attached
returns-in-Ok-clause-attached c =
    let r = ready_so c.args.bridge c.args.made c.self.inside.checked c.self.inside.optimised c.add_bridge.new.self c.self.inside.image c.args.self.now c.self.view_is c.requires c.in_ok-add_bridge.ensures.ok in
    let named = named_so c.self.inside.optimised c.add_bridge.new.self r.1 c.args.bridge r.2 in
    let last = last_so c.self.inside.optimised c.add_bridge.new.self r.1 c.traces-traces.result.now _ c.index-traces-traces.result c.traces-traces.ensures refl c.index-traces-traces.is in
    let attached =
    attached_by c.attached_can_attach.ensures c.self.inside.checked c.set.result.now c.set.ensures.value c.set.ensures.checked c.self.inside.optimised c.add_bridge.new.self c.self.inside.image c.grow.new.image
    c.self.invariant r.0 r.1 c.args.bridge c.index-traces-traces.result named last c.grow.ensures.words c.in-Ok.ensures.changed c.in-Ok.ensures.placed in
    subst (λ z. IsAttached c.args.bridge z (record { set = c.self.inside.checked; optimised = c.add_bridge.new.self; image = c.grow.new.image })) c.self.view_is attached

pub invariant_of-self-in-Err : goal.invariant_of-self-in-Err
invariant_of-self-in-Err c =
    let r = ready_so c.args.bridge c.args.made c.self.inside.checked c.self.inside.optimised c.add_bridge.new.self c.self.inside.image c.args.self.now c.self.view_is c.requires c.in_ok-add_bridge.ensures.ok in
    let back = c.take_back.ensures c.self.inside.optimised r.1 in
    still_so c.self.inside.checked c.self.inside.optimised c.take_back.new.self c.self.inside.image c.grow.new.image back c.in-Err.ensures.err c.self.invariant

pub returns-in-Err-clause-kept : goal.returns-in-Err-clause-kept
returns-in-Err-clause-kept c =
    let r = ready_so c.args.bridge c.args.made c.self.inside.checked c.self.inside.optimised c.add_bridge.new.self c.self.inside.image c.args.self.now c.self.view_is c.requires c.in_ok-add_bridge.ensures.ok in
    let back = c.take_back.ensures c.self.inside.optimised r.1 in
    kept_so c.self.inside.checked c.self.inside.optimised c.take_back.new.self c.self.inside.image c.grow.new.image back c.in-Err.ensures.err ∙ c.self.view_is
