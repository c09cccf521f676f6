use Rattle.std.proofs.Common.{arith}
use Rattle.int_bounds.proofs.Bitwise.{power-bits, power-few}
use Rattle.int_bounds.proofs.bits.power_above.Goals as goal

pub returns : goal.returns
returns c =
    let (k, e) = c.next_power_of_two.ensures.power in
    let few = power-bits k c.args.most c.next_power_of_two.result e c.requires c.next_power_of_two.ensures.upper_bound in
    record {
      bits = (k, few, e);
      above = omega arith;
      few = power-few k c.next_power_of_two.result few e;
    }
