use Rattle.std.proofs.Common.{◌+◌, List, Option, slice_index, ap, sym, subst, ◌∙◌}
use Rattle.trace_ops.specs.declared.piece.Val.{Val}
use Rattle.trace_ops.specs.declared.piece.Shape.{Shape}
use Rattle.virtuals.specs.Namings.{namings_in, namings_of, IsAtLeast, counts_without_all, counts_without_shape}
use Rattle.virtuals.proofs.counting.without.Goals as goal

pub returns-in-Some-clause-lowers : goal.returns-in-Some-clause-lowers
returns-in-Some-clause-lowers c = λ m n w h.
    c.fewer_each.ensures.lowers m n w
    (subst (λ (ps : List Val). IsAtLeast (slice_index c.args.counts.now.items m) (n + namings_in m ps)) (sym c.items.ensures)
    (subst (λ (o : Option Shape). IsAtLeast (slice_index c.args.counts.now.items m) (n + namings_of m o)) c.in-Some.is h))

pub returns-in-Some-clause-exactly : goal.returns-in-Some-clause-exactly
returns-in-Some-clause-exactly c =
    c.fewer_each.ensures.exactly ∙ ap (λ (ps : List Val). counts_without_all ps c.args.counts.now.items) c.items.ensures
    ∙ ap (λ (o : Option Shape). counts_without_shape o c.args.counts.now.items) (sym c.in-Some.is)
