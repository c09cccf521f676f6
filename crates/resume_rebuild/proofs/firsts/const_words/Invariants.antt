use Rattle.std.proofs.Common.{◌≡◌, ◌≤◌, ◌++◌, length, map, drop}
use Rattle.std.specs.Vec.{vec_capacity, vec_len}
use Rattle.resume_rebuild.specs.Rebuilding.{arg_word}
use Rattle.resume_rebuild.specs.Firsts.{sources_before}
use Rattle.resume_rebuild.proofs.firsts.const_words.Given as goal

abbrev pub invariant-loop-arg : goal.invariant-loop-arg
invariant-loop-arg l = record {
  items : l.words.items ++ map (arg_word (sources_before l.before.places.now l.before.frame.now l.before.firsts.now)) (drop l.arg-index l.consts) ≡ map (arg_word (sources_before l.before.places.now l.before.frame.now l.before.firsts.now)) l.consts;
  room : length l.consts ≤ vec_capacity l.words;
  count : vec_len l.words ≡ l.arg-index;
}
