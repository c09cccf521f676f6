use Rattle.std.proofs.Common.{◌≡◌, [], drop, map}
use Rattle.descr_table.specs.Known.{repeats}
use Rattle.descr_table.proofs.known.repeats.Given as goal

abbrev pub invariant-loop-part : goal.invariant-loop-part
invariant-loop-part l = repeats l.seen (map (λ p. p.name) (drop l.part-index l.parts)) ≡ repeats [] (map (λ p. p.name) l.parts)
