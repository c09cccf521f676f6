use Rattle.std.proofs.Common.{◌≡◌, ◌≤◌, ◌*◌, ◌++◌, length, drop}
use Rattle.std.specs.Vec.{vec_capacity, vec_len}
use Rattle.run_session.specs.Answers.{all_seen}
use Rattle.run_session.proofs.passing.fill_all_seen.Given as goal

abbrev pub invariant-loop-k : goal.invariant-loop-k
invariant-loop-k l = record {
  items : l.seen.items ++ all_seen l.table l.arena l.rebuilt.found l.row.reads (drop l.k l.kinds) (drop l.k l.words) ≡ all_seen l.table l.arena l.rebuilt.found l.row.reads l.kinds l.words;
  few : vec_len l.seen ≤ l.k * length l.row.reads;
  room : length l.kinds * length l.row.reads ≤ vec_capacity l.seen;
}
