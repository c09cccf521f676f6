use Rattle.std.proofs.Common.{pos, refl, arith}
use Rattle.std.proofs.lemmas.Int.{ints}
use Rattle.int_bounds.proofs.outcomes.unsigned_low.Goals as goal

pub returns-then-a-ge0-clause-there : goal.returns-then-a-ge0-clause-there
returns-then-a-ge0-clause-there c = (pos 0, (grind (arith, ints), grind (arith, ints)), refl)
