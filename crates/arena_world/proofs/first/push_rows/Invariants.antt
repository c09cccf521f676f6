use Rattle.std.proofs.Common.{◌≡◌, ◌++◌, drop}
use Rattle.arena_world.specs.Prebuilt.{rows_words}
use Rattle.arena_world.proofs.first.push_rows.Given as goal

abbrev pub invariant-loop-row : goal.invariant-loop-row
invariant-loop-row l = l.words.items ++ rows_words l.host (drop l.row-index l.rows) ≡ l.initial.words.items ++ rows_words l.host l.rows
