use Rattle.std.proofs.Common.{ℕ, Option, None, get_or, ap, sym, ◌∙◌, arith}
use Rattle.trace_ops.specs.Weights.{along, capped}
use Rattle.trace_ops.proofs.Capped.{along-end, along-none, along_up}
use Rattle.trace_ops.proofs.weights.+along.Goals as goal

pub returns-then-left-eq0 : goal.returns-then-left-eq0
returns-then-left-eq0 t c = sym (ap capped (along-end (λ k. get_or c.args.own.now k 0) (λ k. get_or c.args.parents.now k None) c.args.left c.args.at (omega arith)))

pub returns-in-None : goal.returns-in-None
returns-in-None t c =
    sym (ap capped
    (ap (λ (o : Option ℕ). along (λ k. get_or c.args.own.now k 0) (λ k. get_or c.args.parents.now k None) c.args.left o) c.in-None.is
    ∙ along-none (λ k. get_or c.args.own.now k 0) (λ k. get_or c.args.parents.now k None) c.args.left))

pub returns-in-Some : goal.returns-in-Some
returns-in-Some t c =
    along_up (λ k. get_or c.args.own.now k 0) (λ k. get_or c.args.parents.now k None) c.args.left c.args.at c.in-Some.k c.up_from.result c.own_at.result c.along.result c.saturating_add.result
    c.if-left-eq0.false c.in-Some.is c.own_at.ensures c.up_from.ensures c.along.ensures c.saturating_add.ensures
