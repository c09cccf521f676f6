use Rattle.std.proofs.Common.{◌≡◌, false, true, sym, ◌∙◌}
use Rattle.opt_meaning.specs.Pieces.{all_pieces}
use Rattle.run_session.specs.Viewed.{seen_of}
use Rattle.run_session.proofs.Events.{stays_as_it_is}
use Rattle.run_session.proofs.starting.Setting.advance.Goals as goal

pub returns-then-not-is_going-clause-event : goal.returns-then-not-is_going-clause-event
returns-then-not-is_going-clause-event c =
    let image = c.args.self.now.image.now in
    stays_as_it_is c.args.self.now.set.now (all_pieces c.args.self.now.opt.now) image.bytes image.exits (seen_of c.args.active.now) (λ g. let t : c.is_going.result ≡ true = c.is_going.ensures.1 g in let w : false ≡ true = sym c.if-not-is_going.true ∙ t in cc)
