use Rattle.std.proofs.Common.{◌≡◌, ◌++◌, map, drop}
use Rattle.arena_world.specs.Prebuilt.{initial_word}
use Rattle.arena_world.proofs.first.push_parts.Given as goal

abbrev pub invariant-loop-part : goal.invariant-loop-part
invariant-loop-part l = l.words.items ++ map (initial_word l.host) (drop l.part-index l.parts) ≡ l.initial.words.items ++ map (initial_word l.host) l.parts
