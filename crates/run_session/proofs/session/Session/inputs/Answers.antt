use Rattle.std.proofs.Common.{ap}
use Rattle.run_session.specs.Sessions.{Sessioned}
use Rattle.run_session.specs.Viewed.{seen_of}
use Rattle.run_session.proofs.Stepping.{shown_at}
use Rattle.run_session.proofs.session.Session.inputs.Goals as goal

pub returns : goal.returns
returns c =
    let k = c.index.result.now in
    (seen_of k, shown_at c.args.self.now c.self.inside.activations.items c.args.a k (ap (λ (s : Sessioned). s.activations) c.self.view_is) c.requires c.index.ensures, c.deref.ensures.value)
