use Rattle.std.proofs.Common.{sym, ap, subst}
use Rattle.std.specs.List.{Contains}
use Rattle.run_session.specs.Keeping.{AreReserved}
use Rattle.run_session.proofs.Returns.{reserved_found}
use Rattle.run_session.proofs.returning.returned.Goals as goal

pub shown-requires-clause-served : goal.shown-requires-clause-served
shown-requires-clause-served c = c.requires.served.rows c.in-Some.row.now (subst (λ rows. Contains rows c.in-Some.row.now) c.exits.ensures c.in-Some.ensures.some)

pub shown-requires-clause-reserved : goal.shown-requires-clause-reserved
shown-requires-clause-reserved c =
    let found = c.look.new.active.rebuilt.found in
    subst (λ r. AreReserved c.args.image.now.pieces r) (sym (ap (λ a. a.rebuilt) c.look.ensures)) (reserved_found c.args.image.now.pieces c.args.active.now.rebuilt _ c.requires.reserved)
