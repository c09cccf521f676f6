use Rattle.std.proofs.Common.{◌≡◌, ◌*◌, ◌∙◌, ◌++◌, ap, length}
use Rattle.arena_world.specs.Prebuilt.{rows_words}
use Rattle.arena_world.proofs.Firsts.{rows_same, first_bytes}
use Rattle.arena_world.proofs.first.first_words.Goals as goal

pub returns : goal.returns
returns c =
    let t = c.args.table.now in
    let h = c.args.host.now in
    let words =
    c.in_ok-push_rows.ensures
    ∙ ap (λ xs. xs ++ rows_words h c.items.result.now) c.new-words.ensures.items
    ∙ ap (rows_words h) c.items.ensures
    ∙ rows_same t h t.prebuilts c.requires.range c.requires.host c.requires.range.prebuilts_fit in
    record { words = words; bytes = ap (λ xs. 8 * length xs) words ∙ first_bytes t }
