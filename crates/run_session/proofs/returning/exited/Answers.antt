use Rattle.std.proofs.Common.{◌∙◌, ◌≡◌, sym, subst}
use Rattle.run_session.specs.Keeping.{ServesGuard}
use Rattle.run_session.proofs.Returns.{exits, some_same}
use Rattle.run_session.proofs.returning.exited.Goals as goal

pub returns-clause-shown : goal.returns-clause-shown
returns-clause-shown c snap is =
    let old = c.args.active.now in
    let serves = c.requires.served in
    let same : serves.0 ≡ snap = some_same serves.0 snap (sym serves.1 ∙ is) in
    let by = subst (λ t. ServesGuard t c.args.image.now.pieces c.args.row.now c.args.guard serves.0) (sym c.requires.adopted) serves.2 in
    let at = subst (λ s. ServesGuard old.rebuilt.table c.args.image.now.pieces c.args.row.now c.args.guard s) same by in
    exits c.args.table.now old.rebuilt.table c.args.row.now c.args.guard snap old c.rebuild_at.new.active c.rebuild_at.result c.requires.adopted (sym c.in_default.is ∙ c.stray_at.ensures snap is) (c.rebuild_at.ensures.shown snap at)
