use Rattle.std.proofs.Common.{◌≡◌, ◌+◌, ◌≤◌, ◌++◌, length, map, drop}
use Rattle.std.specs.Vec.{vec_capacity, vec_len}
use Rattle.arena_objects.specs.Headers.{header_in}
use Rattle.resume_rebuild.specs.Rebuilding.{bytes_of_all, addresses_from, made_with, first_new}
use Rattle.resume_rebuild.specs.Rows.{row_extent, rows_at}
use Rattle.resume_rebuild.proofs.making.make_all.Given as goal

abbrev pub invariant-loop-k : goal.invariant-loop-k
invariant-loop-k l = record {
  made : l.made.items ++ addresses_from (first_new l.arena) (map row_extent (rows_at l.rows (drop l.k-index l.numbers))) ≡ addresses_from (first_new l.initial.arena) (map row_extent (rows_at l.rows l.numbers));
  arena : made_with (header_in l.headers) (map row_extent (rows_at l.rows (drop l.k-index l.numbers))) l.arena ≡ made_with (header_in l.headers) (map row_extent (rows_at l.rows l.numbers)) l.initial.arena;
  taken : l.arena.taken + bytes_of_all (map row_extent (rows_at l.rows (drop l.k-index l.numbers))) ≡ l.initial.arena.taken + bytes_of_all (map row_extent (rows_at l.rows l.numbers));
  size : length l.arena.words ≡ length l.initial.arena.words;
  space : length l.numbers ≤ vec_capacity l.made;
  count : vec_len l.made ≡ l.k-index;
}
