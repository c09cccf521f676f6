use Rattle.std.proofs.Common.{◌≡◌, []}
use Rattle.run_session.specs.Beginning.{HaveAllRoom}
use Rattle.run_session.proofs.starting.room_for.Given as goal

abbrev pub invariant-loop-one : goal.invariant-loop-one
invariant-loop-one l = record {
  room : HaveAllRoom l.one-index l.image.pieces l.opt l.rebuilt;
  table : l.rebuilt.table ≡ l.table;
  frames : l.rebuilt.frames ≡ [];
}
