use Rattle.std.proofs.Common.{◌≡◌, ℕ, ◌+◌, ◌-◌, ◌/◌, ◌<◌, ◌≤◌, length, arith}
use Rattle.arena_objects.proofs.Addresses.{found_at, nothing_between}
use Rattle.arena_objects.proofs.walked.number_at.Goals as goal

pub returns-then-here-address : goal.returns-then-here-address
returns-then-here-address c =
    let k = c.loop-low.low + (c.loop-low.high - c.loop-low.low) / 2 in
    found_at c.args.addresses.now c.args.address k c.requires.rise (omega (arith, c.loop-low.invariant.inside, c.loop-low-test.true)) c.if-here-address.true

pub returns : goal.returns
returns c = nothing_between c.args.addresses.now c.args.address c.loop-low.low c.loop-low.high c.loop-low.invariant (omega (arith, c.loop-low-test.false))
