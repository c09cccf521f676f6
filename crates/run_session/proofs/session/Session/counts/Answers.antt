use Rattle.std.proofs.Common.{ap}
use Rattle.run_session.specs.Sessions.{Sessioned}
use Rattle.run_session.specs.Viewed.{seen_of}
use Rattle.run_session.proofs.Stepping.{shown_at}
use Rattle.run_session.proofs.session.Session.counts.Goals as goal

pub returns : goal.returns
returns c =
    let k = c.index-active.result.now in (
      seen_of k,
      shown_at c.args.self.now c.self.inside.activations.items c.args.a k (ap (λ (s : Sessioned). s.activations) c.self.view_is) c.requires c.index-active.ensures,
      record {
        instructions = ap (λ x. x.instructions) c.counts-made.ensures;
        loads = ap (λ x. x.loads) c.counts-made.ensures;
        stores = ap (λ x. x.stores) c.counts-made.ensures;
        bytes = c.bytes.ensures;
      },
    )
