use Rattle.std.proofs.Common.{◌≡◌, length, ap, arith}
use Rattle.bridge_patch.proofs.Plans.{instrs_few}
use Rattle.bridge_patch.proofs.plan.planned.Goals as goal

pub size_of_all-requires-2-clause-few : goal.size_of_all-requires-2-clause-few
size_of_all-requires-2-clause-few c =
    let f = c.in_ok-places.ensures {u = tt} in
    let n : length c.items-2.result.now ≡ length c.in_ok-places.selected.instrs = ap length c.items-2.ensures in
    omega (arith, n, f.short, instrs_few c.spellings_are_short.ensures.least c.in_ok-places.selected.instrs, c.requires.can.sound.small, c.requires.can.weight)
