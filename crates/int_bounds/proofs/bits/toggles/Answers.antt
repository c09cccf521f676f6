use Rattle.std.proofs.Common.{◌≡◌, ◌≤ℤ◌, pos, rules, to_z, of_z}
use Rattle.std.specs.Int.{w64}
use Rattle.std.proofs.lemmas.Int.{to_z-of_z}
use Rattle.trace_ops.specs.Words.{toggled}
use Rattle.int_bounds.proofs.Bitwise.{toggled-few}
use Rattle.int_bounds.proofs.Casts.{under-cast, zero-cast}
use Rattle.int_bounds.proofs.bits.toggles.Goals as goal

pub returns-then-b-ge0 : goal.returns-then-b-ge0
returns-then-b-ge0 c = λ x y a b.
    let (k, few, p, q, e) = c.last_of_bits.ensures in
    let same : to_z w64 (of_z w64 c.last_of_bits.result) ≡ c.last_of_bits.result = to_z-of_z w64 c.last_of_bits.result (search rules) in
    let lies : (pos 0 ≤ℤ toggled x y) × (toggled x y ≤ℤ c.last_of_bits.result) =
    toggled-few x y k c.last_of_bits.result few
    (zero-cast c.args.a.low x (search rules) a.0 c.if-a-ge0.true)
    (zero-cast c.args.b.low y (search rules) b.0 c.if-b-ge0.true)
    (under-cast x c.args.a.high _ (search rules) a.1 p)
    (under-cast y c.args.b.high _ (search rules) b.1 q)
    e in
    (rw c.up_to.ensures.low lies.0, rw (c.up_to.ensures.high, same) lies.1)
