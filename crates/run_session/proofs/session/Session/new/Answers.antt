use Rattle.std.proofs.Common.{◌≡◌, [], sym, subst}
use Rattle.trace_ops.specs.declared.trace.TraceSet.{TraceSet}
use Rattle.opt_meaning.specs.Pieces.{all_pieces}
use Rattle.bridge_patch.specs.Attached.{IsImageOf}
use Rattle.bridge_patch.specs.Image.{IsImage}
use Rattle.opt_set.specs.Optimised.{Optimised}
use Rattle.set_in_image.specs.Placing.{HasNoStep}
use Rattle.run_session.specs.Sessions.{Sessioned, placed_in}
use Rattle.run_session.proofs.Begun.{if_ok}
use Rattle.run_session.proofs.session.Session.new.Goals as goal

pub returns-clause-image : goal.returns-clause-image
returns-clause-image c =
    let p = c.in_ok-placed.placed in
    let seen : Sessioned = record { set = p.set; optimised = p.optimised; image = p.image; arena_bytes = c.args.arena_bytes; activations = [] } in
    let one = subst (λ (o : Optimised). (z : IsImage c.args.checked (all_pieces o.traces) p.image) × IsImageOf c.args.checked z.placed p.image) (sym c.in_ok-placed.ensures.optimised) c.in_ok-placed.ensures.image in
    let two = subst (λ (x : TraceSet). (z : IsImage x (all_pieces p.optimised.traces) p.image) × IsImageOf x z.placed p.image) (sym c.in_ok-placed.ensures.set) one in
    if_ok (λ (s : Sessioned). s ≡ seen) (λ (s : Sessioned). (z : IsImage s.set (all_pieces s.optimised.traces) s.image) × IsImageOf s.set z.placed s.image) c.of_placed.result c.of_placed.ensures.seen
    (λ s e. subst (λ (x : Sessioned). (z : IsImage x.set (all_pieces x.optimised.traces) x.image) × IsImageOf x.set z.placed x.image) (sym e) two)

pub returns-clause-history : goal.returns-clause-history
returns-clause-history c =
    let p = c.in_ok-placed.placed in
    let seen : Sessioned = record { set = p.set; optimised = p.optimised; image = p.image; arena_bytes = c.args.arena_bytes; activations = [] } in
    if_ok (λ (s : Sessioned). s ≡ seen) (λ (s : Sessioned). HasNoStep (placed_in s)) c.of_placed.result c.of_placed.ensures.seen (λ s e. subst (λ (x : Sessioned). HasNoStep (placed_in x)) (sym e) c.in_ok-placed.ensures.history)
