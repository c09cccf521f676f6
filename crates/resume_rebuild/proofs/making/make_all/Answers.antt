use Rattle.std.proofs.Common.{◌≡◌, [], ◌∷◌, ◌++◌, ◌+◌, ◌*◌, ◌∙◌, map, drop, ap, sym, arith, pos, append_assoc}
use Rattle.arena_objects.specs.Headers.{header_in}
use Rattle.resume_rebuild.specs.Rebuilding.{words_of_extent, bytes_of_all, addresses_from, made_with, first_new}
use Rattle.resume_rebuild.specs.Rows.{row_extent, rows_at}
use Rattle.resume_rebuild.proofs.Rowing.{next_row}
use Rattle.resume_rebuild.proofs.making.make_all.Goals as goal

pub make_one-requires : goal.make_one-requires
make_one-requires c =
    let i = c.loop-k.k-index in
    let s = c.loop-k.invariant in
    let row = c.index-rows-k.result in
    let one = ap (λ l. bytes_of_all (map row_extent l)) (next_row c.args.rows.now c.args.numbers.now i 0 row c.loop-k-test.true (c.requires.rows i 0 c.loop-k-test.true) c.index-rows-k.is) in
    omega (arith, one, s.taken, s.size, c.requires.room)

pub loop-k-preserved : goal.loop-k-preserved
loop-k-preserved c =
    let i = c.loop-k.k-index in
    let s = c.loop-k.invariant in
    let row = c.index-rows-k.result in
    let rest = rows_at c.args.rows.now (drop (i + 1) c.args.numbers.now) in
    let old = c.loop-k.arena in
    let new = c.make_one.new.arena in
    let one = next_row c.args.rows.now c.args.numbers.now i 0 row c.loop-k-test.true (c.requires.rows i 0 c.loop-k-test.true) c.index-rows-k.is in
    let next : first_new new ≡ first_new old + 8 * words_of_extent (row_extent row) = omega (arith, c.make_one.ensures.taken) in
    record {
      made =
          ap (λ l. l ++ addresses_from (first_new new) (map row_extent rest)) c.push_next.ensures.items
          ∙ append_assoc c.loop-k.made.items (pos (first_new old) ∷ []) (addresses_from (first_new new) (map row_extent rest))
          ∙ ap (λ a. c.loop-k.made.items ++ (pos (first_new old) ∷ addresses_from a (map row_extent rest))) next
          ∙ ap (λ l. c.loop-k.made.items ++ addresses_from (first_new old) (map row_extent l)) (sym one)
          ∙ s.made;
      arena = ap (made_with (header_in c.args.headers.now) (map row_extent rest)) c.make_one.ensures.arena ∙ ap (λ l. made_with (header_in c.args.headers.now) (map row_extent l) old) (sym one) ∙ s.arena;
      taken = (let all = ap (λ l. bytes_of_all (map row_extent l)) one in omega (arith, all, s.taken, c.make_one.ensures.taken));
      size = c.make_one.ensures.size ∙ s.size;
      space = omega (arith, s.space, c.push_next.ensures.capacity);
      count = omega (arith, s.count, c.push_next.ensures.len);
    }
