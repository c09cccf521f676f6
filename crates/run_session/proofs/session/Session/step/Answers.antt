use Rattle.std.proofs.Common.{◌≡◌, ◌<◌, List, length, map, sym, ap, subst, ◌∙◌, arith}
use Rattle.std.specs.Prelude.{slice_set}
use Rattle.std.proofs.lemmas.List.{length-map}
use Rattle.trace_ops.specs.declared.piece.OptTrace.{OptTrace}
use Rattle.trace_ops.specs.declared.trace.TraceSet.{TraceSet}
use Rattle.opt_meaning.specs.Pieces.{all_pieces}
use Rattle.bridge_patch.specs.Image.{Imaged}
use Rattle.opt_set.specs.Optimised.{Optimised}
use Rattle.run_session.specs.Calls.{StepsOnce, OthersStay, MakesInstruction}
use Rattle.run_session.specs.Keeping.{IsKept, HoldsTogether}
use Rattle.run_session.specs.Sessions.{Active, Sessioned}
use Rattle.run_session.specs.Turning.{MakesEvent}
use Rattle.run_session.specs.Viewed.{seen_of}
use Rattle.run_session.proofs.Lists.{length-set}
use Rattle.run_session.proofs.Stepping.{Stepped, stepped, counted, all_set, seen_session}
use Rattle.run_session.proofs.session.Session.step.Goals as goal

pub advance-requires-clause-count : goal.advance-requires-clause-count
advance-requires-clause-count c =
    let acts = c.self.inside.activations.items in
    let are = ap (λ (s : Sessioned). s.activations) c.self.view_is in
    let lt = subst (λ n. c.args.a < n) (length-map acts seen_of) (subst (λ (l : List Active). c.args.a < length l) (sym are) c.requires.started) in
    let few = counted c.args.self.now 1 acts c.args.a c.index_mut.result.now (sym are) c.requires.count lt c.index_mut.ensures.value in
    omega (arith, few)

pub invariant_of-self : goal.invariant_of-self
invariant_of-self c =
    let i = c.self.invariant in
    let acts = c.self.inside.activations.items in
    let after = c.advance.new.active in
    let kept0 = subst (λ (s : TraceSet). IsKept s.table c.image.result.now.pieces after) (c.set.ensures.value ∙ c.checked.ensures) c.advance.ensures.kept in
    let kept = subst (λ (x : Imaged). IsKept c.self.inside.placed.set.table x.pieces after) c.image.ensures kept0 in
    record {
      host = i.host;
      places = i.places;
      served = i.served;
      size = i.size;
      few = (let same = length-set acts c.args.a after in let few = i.few in omega (arith, same, few));
      room = i.room;
      each = all_set (IsKept c.self.inside.placed.set.table c.self.inside.placed.image.pieces) acts c.args.a after i.each kept;
    }

-- all that is promised
promised : (c : goal.After-self-1) → Stepped c.args.a c.args.self.now (seen_session c.self.inside.placed.set c.self.inside.placed.optimised c.self.inside.placed.image c.self.inside.arena_bytes (slice_set c.self.inside.activations.items c.args.a c.advance.new.active)) c.advance.result
promised c =
    let acts = c.self.inside.activations.items in
    let are = ap (λ (s : Sessioned). s.activations) c.self.view_is in
    let lt = subst (λ n. c.args.a < n) (length-map acts seen_of) (subst (λ (l : List Active). c.args.a < length l) (sym are) c.requires.started) in
    let k = c.index_mut.result.now in
    let after = c.advance.new.active in
    let image = c.self.inside.placed.image in
    let x = c.image.result.now in
    let zero = subst (λ (s : TraceSet). MakesEvent s (all_pieces c.traces.result.now) x.bytes x.exits (seen_of k) (seen_of after)) (c.set.ensures.value ∙ c.checked.ensures) c.advance.ensures.event in
    let one = subst (λ (i : Imaged). MakesEvent c.self.inside.placed.set (all_pieces c.traces.result.now) i.bytes i.exits (seen_of k) (seen_of after)) c.image.ensures zero in
    let two = subst (λ (o : List OptTrace). MakesEvent c.self.inside.placed.set (all_pieces o) image.bytes image.exits (seen_of k) (seen_of after)) (c.traces.ensures ∙ ap (λ (o : Optimised). o.traces) c.optimised.ensures) one in
    let all = stepped c.self.inside.placed.set c.self.inside.placed.optimised image c.self.inside.arena_bytes acts c.args.a k after c.advance.result lt c.index_mut.ensures.value two c.advance.ensures.made c.advance.ensures.given c.advance.ensures.ended c.advance.ensures.now in
    subst (λ (s : Sessioned). Stepped c.args.a s (seen_session c.self.inside.placed.set c.self.inside.placed.optimised image c.self.inside.arena_bytes (slice_set acts c.args.a after)) c.advance.result) c.self.view_is all

pub returns-clause-event : goal.returns-clause-event
returns-clause-event c = (promised c).event

pub returns-clause-now : goal.returns-clause-now
returns-clause-now c = (promised c).now

pub returns-clause-others : goal.returns-clause-others
returns-clause-others c = (promised c).others

pub returns-clause-made : goal.returns-clause-made
returns-clause-made c = (promised c).made

pub returns-clause-given : goal.returns-clause-given
returns-clause-given c = (promised c).given

pub returns-clause-ended : goal.returns-clause-ended
returns-clause-ended c = (promised c).ended
