use Rattle.std.proofs.Common.{subst}
use Rattle.opt_meaning.specs.Pieces.{all_pieces}
use Rattle.session_host.specs.Showing.{finished_at}
use Rattle.run_session.specs.Keeping.{Serves}
use Rattle.run_session.proofs.Returns.{shows_finish, not_going}
use Rattle.run_session.proofs.returning.shown.Goals as goal

pub returns-in-None-clause-shown : goal.returns-in-None-clause-shown
returns-in-None-clause-shown c =
    let serves = subst (λ g. Serves c.args.table.now (all_pieces c.args.opt.now) c.args.image.now.pieces c.args.row.now g) c.in-None.is c.requires.served in
    shows_finish c.args.table.now (all_pieces c.args.opt.now) c.args.row.now c.args.active.now c.finished.result c.in-None.is serves c.finished.ensures

pub returns-in-None-clause-ended : goal.returns-in-None-clause-ended
returns-in-None-clause-ended c =
    let serves = subst (λ g. Serves c.args.table.now (all_pieces c.args.opt.now) c.args.image.now.pieces c.args.row.now g) c.in-None.is c.requires.served in
    not_going c.args.table.now (finished_at c.args.table.now c.args.active.now.machine c.args.row.now serves.0) c.finished.result c.args.active.now.rebuilt.frames c.args.active.now.machine (c.finished.ensures serves.0 serves.1)
