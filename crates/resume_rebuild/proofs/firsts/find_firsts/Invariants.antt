use Rattle.std.proofs.Common.{◌≡◌}
use Rattle.std.specs.Vec.{vec_capacity, vec_len}
use Rattle.resume_rebuild.proofs.FirstWalk.{Finding}
use Rattle.resume_rebuild.proofs.firsts.find_firsts.Given as goal

abbrev pub invariant-loop : goal.invariant-loop
invariant-loop l = record {
  found : Finding l.table l.arena l.counter l.at l.firsts.items;
  room : vec_capacity l.firsts ≡ vec_capacity l.initial.firsts;
  count : vec_len l.firsts ≡ l.counter;
}
