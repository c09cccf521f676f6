use Rattle.std.proofs.Common.{◌≡◌, ◌≤◌, ◌++◌, length, map, drop}
use Rattle.std.specs.Vec.{vec_capacity, vec_len}
use Rattle.resume_rebuild.specs.Read.{sources_read}
use Rattle.resume_rebuild.specs.Rows.{tag_value}
use Rattle.resume_rebuild.proofs.framing.push_slots.Given as goal

abbrev pub invariant-loop-number : goal.invariant-loop-number
invariant-loop-number l = record {
  items : l.slots.items ++ map (tag_value l.walked.found (sources_read l.read) l.read.consts.now l.read.words.now) (drop l.number-index l.numbers) ≡ map (tag_value l.walked.found (sources_read l.read) l.read.consts.now l.read.words.now) l.numbers;
  room : length l.numbers ≤ vec_capacity l.slots;
  count : vec_len l.slots ≡ l.number-index;
}
