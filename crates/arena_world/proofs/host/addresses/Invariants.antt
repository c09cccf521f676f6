use Rattle.std.proofs.Common.{◌≡◌, ◌+◌, ◌≤◌, ◌++◌, map, drop}
use Rattle.std.specs.Prelude.{sum_by}
use Rattle.trace_ops.specs.InRange.{prebuilt_bytes}
use Rattle.trace_meaning.specs.Recorded.{prebuilt_object}
use Rattle.arena_world.specs.Prebuilt.{addresses_from}
use Rattle.arena_world.proofs.host.addresses.Given as goal

abbrev pub invariant-loop-row : goal.invariant-loop-row
invariant-loop-row l = record {
  words : l.words.items ++ addresses_from l.at (map prebuilt_object (drop l.row-index l.rows)) ≡ addresses_from 0x10000000 (map prebuilt_object l.rows);
  few : l.at + sum_by prebuilt_bytes (drop l.row-index l.rows) ≤ 0x10000000 + 32768;
}
