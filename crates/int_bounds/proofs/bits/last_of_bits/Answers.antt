use Rattle.std.proofs.Common.{arith}
use Rattle.std.proofs.lemmas.Int.{ints}
use Rattle.int_bounds.proofs.bits.last_of_bits.Goals as goal
use Rattle.int_bounds.proofs.bits.last_of_bits.Goals.{then-a-b, else-a-b}

pub returns : goal.returns
returns c =
    let (k, few, e) = c.power_above.ensures.bits in (
      k,
      few,
      elim c.if-a-b.branch [ then-a-b w ↦ grind (arith, ints) | else-a-b w ↦ grind (arith, ints) ],
      elim c.if-a-b.branch [ then-a-b w ↦ grind (arith, ints) | else-a-b w ↦ grind (arith, ints) ],
      grind (arith, ints),
    )
