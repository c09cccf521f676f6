-- What a rebuild takes of an arena.
use Rattle.std.proofs.Common.{ℕ, ◌+◌, ◌-◌, ◌*◌, Bool, true, false, cond, is_some, List, [], ◌∷◌, length, map, refl, ◌∙◌, arith, ℤ, pos, negsuc}
use Rattle.std.specs.Prelude.{◌/◌}
use Rattle.std.proofs.Math.ListN.{length-set}
use Rattle.trace_ops.specs.declared.table.Table.{Table}
use Rattle.target_base.specs.Arena.{Arena, arena_word, with_arena_word}
use Rattle.arena_objects.specs.Layout.{header_of, part_offset, words_ahead}
use Rattle.arena_objects.specs.Making.{arena_begun}
use Rattle.arena_objects.specs.Laws.{arena_filled}
use Rattle.resume_rebuild.specs.Rebuilding.{Extent, Filled, Stored, words_of_extent, bytes_of_all, made_all, filled_all, stored_at, stored_all, extents_of, filled_of, stored_of, sources_of, first_new}
use Rattle.resume_rebuild.specs.Laws.{Takes, TakesWhatIsAsked}
use Rattle.resume_rebuild.proofs.Made.{begun_taken, begun_size}

both : (n m : ℕ) (a b c : Arena) → Takes n a b → Takes m b c → Takes (n + m) a c
both n m a b c h k = (omega (arith, h.0, k.0), k.1 ∙ h.1)

one_put : (a : ℕ) (w : ℤ) (arena : Arena) → Takes 0 arena (with_arena_word a w arena)
one_put a w arena = (omega arith, length-set arena.words ((a - 0x10000000) / 8) w)

none : (arena : Arena) → Takes 0 arena arena
none arena = (omega arith, refl)

makes : (t : Table) (es : List Extent) (arena : Arena) → Takes (bytes_of_all es) arena (made_all t es arena)
makes t [] arena = none arena
makes t (e ∷ es) arena =
    both (8 * words_of_extent e) (bytes_of_all es) arena (arena_begun e.of (header_of t e.of) e.parts arena) (made_all t (e ∷ es) arena)
    (begun_taken e.of (header_of t e.of) e.parts arena, begun_size e.of (header_of t e.of) e.parts arena)
    (makes t es (arena_begun e.of (header_of t e.of) e.parts arena))

fills : (a : ℕ) (ws : List ℤ) (arena : Arena) → Takes 0 arena (arena_filled a ws arena)
fills a [] arena = none arena
fills a (w ∷ ws) arena = both 0 0 arena (with_arena_word a w arena) (arena_filled a (w ∷ ws) arena) (one_put a w arena) (fills (a + 8) ws (with_arena_word a w arena))

fills_all : (a : ℕ) (fs : List Filled) (arena : Arena) → Takes 0 arena (filled_all a fs arena)
fills_all a [] arena = none arena
fills_all a (f ∷ fs) arena =
    both 0 0 arena (arena_filled (a + part_offset f.of 0) f.words arena) (filled_all a (f ∷ fs) arena) (fills (a + part_offset f.of 0) f.words arena)
    (fills_all (a + 8 * (words_ahead f.of + length f.words)) fs (arena_filled (a + part_offset f.of 0) f.words arena))

puts : (a : ℕ) (w : ℤ) (arena : Arena) (b : Bool) → Takes 0 arena (cond b (with_arena_word a w arena) arena)
puts a w arena true = one_put a w arena
puts a w arena false = none arena

stores : (b : ℤ) (o : ℕ) (w : ℤ) (arena : Arena) → Takes 0 arena (stored_at b o w arena)
stores (pos a) o w arena = puts (a + o) w arena (is_some (arena_word arena (a + o)))
stores (negsuc n) o w arena = none arena

stores_all : (ss : List Stored) (arena : Arena) → Takes 0 arena (stored_all ss arena)
stores_all [] arena = none arena
stores_all (s ∷ ss) arena = both 0 0 arena (stored_at s.base s.offset s.word arena) (stored_all (s ∷ ss) arena) (stores s.base s.offset s.word arena) (stores_all ss (stored_at s.base s.offset s.word arena))

pub takes_what_is_asked : TakesWhatIsAsked
takes_what_is_asked t snap places frame arena =
    let known = sources_of t snap places frame arena in
    let made = made_all t (extents_of snap) arena in
    let filled = filled_all (first_new arena) (map (filled_of known) snap.shapes) made in
    let after = stored_all (map (stored_of t known) snap.pending) filled in
    let all = both (bytes_of_all (extents_of snap)) 0 arena made filled (makes t (extents_of snap) arena) (fills_all (first_new arena) (map (filled_of known) snap.shapes) made) in
    let last = both (bytes_of_all (extents_of snap) + 0) 0 arena filled after all (stores_all (map (stored_of t known) snap.pending) filled) in
    (omega (arith, last.0), last.1)
