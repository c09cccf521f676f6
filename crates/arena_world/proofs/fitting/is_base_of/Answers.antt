use Rattle.std.proofs.Common.{◌≡◌, ◌∙◌, ap}
use Rattle.trace_ops.specs.declared.table.ShapeOf.TheVariants.{Size}
use Rattle.arena_objects.specs.Layout.{header_of}
use Rattle.arena_world.specs.Prebuilt.{last_of}
use Rattle.arena_world.specs.Fitting.{is_base_word}
use Rattle.arena_world.proofs.Firsts.{size_there}
use Rattle.arena_world.proofs.fitting.is_base_of.Goals as goal

pub returns : goal.returns
returns c =
    let t = c.args.table.now in
    let h = c.args.host.now in
    let f = c.args.field in
    c.is_base.ensures
    ∙ ap (λ n. is_base_word n (last_of h.prebuilts) f.immutable c.args.arena.now c.args.base) (c.requires.host.headers (Size f.size) (size_there t f.size c.requires.range c.requires.sized) c.requires.sized)
    ∙ ap (λ xs. is_base_word (header_of t (Size f.size)) (last_of xs) f.immutable c.args.arena.now c.args.base) c.requires.host.prebuilts
