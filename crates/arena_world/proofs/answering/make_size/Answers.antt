use Rattle.std.proofs.Common.{◌≡◌, ◌∙◌, sym, ap, slice_get}
use Rattle.std.proofs.lemmas.List.{length-map}
use Rattle.trace_ops.specs.declared.table.ShapeOf.TheVariants.{Size}
use Rattle.trace_meaning.specs.Objects.{fields_of, zero_field}
use Rattle.arena_objects.specs.Layout.{header_of}
use Rattle.arena_objects.specs.Making.{arena_begun}
use Rattle.arena_world.proofs.Firsts.{size_there}
use Rattle.arena_world.proofs.answering.make_size.Goals as goal

pub returns-in-Ok-clause-ok : goal.returns-in-Ok-clause-ok
returns-in-Ok-clause-ok c =
    let t = c.args.table.now in
    let s = Size c.args.size in
    let header = c.header_of.ensures ∙ c.requires.host.headers s (size_there t c.args.size c.requires.range c.requires.named) c.requires.named in
    c.in-Ok.ensures.ok
    ∙ ap (λ h. arena_begun s h c.field_count-parts.result c.args.arena.now) header
    ∙ ap (λ n. arena_begun s (header_of t s) n c.args.arena.now) (c.field_count-parts.ensures ∙ sym (length-map (fields_of t c.args.size) (λ f. zero_field (slice_get t.fields f))))
