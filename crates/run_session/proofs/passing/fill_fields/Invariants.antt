use Rattle.std.proofs.Common.{◌≡◌, ◌≤◌, ◌+◌, ◌++◌, length, drop}
use Rattle.std.specs.Vec.{vec_capacity, vec_len}
use Rattle.run_session.specs.Answers.{fields_seen}
use Rattle.run_session.proofs.passing.fill_fields.Given as goal

abbrev pub invariant-loop-field : goal.invariant-loop-field
invariant-loop-field l = record {
  items : l.seen.items ++ fields_seen l.table l.arena l.rebuilt.found (drop l.field-index l.reads) l.word ≡ l.initial.seen.items ++ fields_seen l.table l.arena l.rebuilt.found l.reads l.word;
  few : vec_len l.seen ≤ vec_len l.initial.seen + l.field-index;
  room : vec_capacity l.seen ≡ vec_capacity l.initial.seen;
  reach : vec_len l.initial.seen + length l.reads ≤ vec_capacity l.initial.seen;
}
