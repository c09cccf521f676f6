use Rattle.std.proofs.Common.{ℕ, List, ◌∙◌, ap, ◌==◌, sym}
use Rattle.std.specs.Prelude.{position}
use Rattle.trace_ops.specs.declared.table.ShapeOf.{ShapeOf}
use Rattle.trace_meaning.specs.Objects.{field_place}
use Rattle.trace_meaning.proofs.objects.field_place.Goals as goal

pub returns-in-Size : goal.returns-in-Size
returns-in-Size c =
    c.place_among.ensures ∙ ap (λ (fs : List ℕ). position (λ f. f == c.args.field) fs) c.fields_of.ensures
    ∙ ap (λ (of : ShapeOf). field_place c.args.table.now of c.args.field) (sym c.in-Size.is)
