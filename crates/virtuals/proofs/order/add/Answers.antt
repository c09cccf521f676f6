use Rattle.std.proofs.Common.{ℕ, List, sym, subst}
use Rattle.virtuals.specs.Order.{AreMarks}
use Rattle.virtuals.proofs.Marks.{marks_push}
use Rattle.virtuals.proofs.order.add.Goals as goal

pub returns-clause-marked : goal.returns-clause-marked
returns-clause-marked c =
    subst (λ (ns : List ℕ). AreMarks ns c.insert.new.self.keys) (sym c.in_ok-push.ensures.ok)
    (marks_push c.args.work.now.items c.insert.new.self.keys c.args.marks.now.keys c.args.id c.requires c.in_ok-insert.ensures.updates.0)
