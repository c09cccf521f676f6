use Rattle.std.proofs.Common.{◌≡◌, map, ap, sym, ◌∙◌, subst}
use Rattle.arena_objects.specs.Headers.{header_in}
use Rattle.resume_rebuild.specs.Firsts.{StartsAs, sources_before}
use Rattle.resume_rebuild.specs.Rebuilding.{arg_word, made_with, first_new, addresses_from, found_addresses}
use Rattle.resume_rebuild.specs.Rows.{row_extent, rows_at, extents_at}
use Rattle.resume_rebuild.proofs.ConstWords.{words_before, made_same}
use Rattle.resume_rebuild.proofs.rebuilt.make.Goals as goal

pub returns-clause-words : goal.returns-clause-words
returns-clause-words c =
    let exit = c.args.exit.now in
    let places = exit.places.now in
    let frame = exit.frame.now in
    let all = found_addresses c.args.t.now c.args.arena.now in
    c.const_words.ensures.items
    ∙ ap (λ l. map (arg_word (sources_before places frame l)) c.items.result.now) c.as_slice-2.ensures.value
    ∙ ap (map (arg_word (sources_before places frame c.find_firsts.new.firsts.items))) c.items.ensures
    ∙ words_before c.args.room.now.most places frame c.find_firsts.new.firsts.items all (addresses_from (first_new c.args.arena.now) (extents_at exit.table.now exit.row.now)) exit.table.now.consts c.find_firsts.ensures.starts c.requires.below

pub returns-clause-arena : goal.returns-clause-arena
returns-clause-arena c =
    let exit = c.args.exit.now in
    let headers = c.args.headers.now in
    c.make_all.ensures.arena
    ∙ ap (λ l. made_with (header_in headers) (map row_extent (rows_at l c.items-3.result.now)) c.args.arena.now) c.items-2.ensures
    ∙ ap (λ l. made_with (header_in headers) (map row_extent (rows_at exit.table.now.virtuals l)) c.args.arena.now) c.items-3.ensures
    ∙ made_same c.args.t.now headers (rows_at exit.table.now.virtuals exit.row.now.virtuals) c.args.arena.now c.requires.headers c.requires.known
