-- What is seen of an activation as it is kept.
use Rattle.std.specs.Prelude.{ℕ, ◌-◌, Option, Some, None}
use Rattle.run_session.specs.declared.active.Active.{Active as Kept}
use Rattle.run_session.specs.Sessions.{Active}

abbrev pub taken_by : ℕ → Option ℕ → ℕ
taken_by now None = now
taken_by now (Some last) = last

abbrev pub seen_of : Kept → Active
seen_of a = record {
  trace = a.trace;
  inputs = a.inputs.items;
  answers = a.log.answers;
  used = a.log.used;
  machine = a.machine;
  log = a.log.calls;
  failures = a.failures;
  cuts = a.cuts.items;
  now = a.stands;
  frames = a.rebuilt.frames;
  bytes = taken_by a.machine.arena.taken a.last_taken - a.first_taken;
}
