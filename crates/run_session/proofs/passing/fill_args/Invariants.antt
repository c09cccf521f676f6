use Rattle.std.proofs.Common.{◌≡◌, ◌≤◌, ◌++◌, length, drop}
use Rattle.std.specs.Vec.{vec_capacity, vec_len}
use Rattle.run_session.specs.Answers.{values_by}
use Rattle.run_session.proofs.passing.fill_args.Given as goal

abbrev pub invariant-loop-k : goal.invariant-loop-k
invariant-loop-k l = record {
  items : l.args.items ++ values_by l.rebuilt.found (drop l.k l.kinds) (drop l.k l.words) ≡ values_by l.rebuilt.found l.kinds l.words;
  room : length l.kinds ≤ vec_capacity l.args;
  count : vec_len l.args ≡ l.k;
}
