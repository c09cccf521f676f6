use Rattle.std.proofs.Common.{negsuc, refl, arith}
use Rattle.std.proofs.lemmas.Int.{ints}
use Rattle.int_bounds.proofs.outcomes.unsigned_high.Goals as goal

pub returns-then-a-ge0-clause-there : goal.returns-then-a-ge0-clause-there
returns-then-a-ge0-clause-there c = (negsuc 0, (grind (arith, ints), grind (arith, ints)), refl)
