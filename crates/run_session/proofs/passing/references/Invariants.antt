use Rattle.std.proofs.Common.{◌≡◌, ◌≤◌, ◌++◌, take, drop}
use Rattle.asm_select.specs.Answering.{reference_words}
use Rattle.run_session.proofs.passing.references.Given as goal

abbrev pub invariant-loop-k : goal.invariant-loop-k
invariant-loop-k l = record {
  count : l.count ≤ l.k;
  words : take l.count l.found ++ reference_words (drop l.k l.kinds) (drop l.k l.words) ≡ reference_words l.kinds l.words;
}
