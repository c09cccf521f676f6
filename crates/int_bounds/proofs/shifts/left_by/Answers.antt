use Rattle.std.proofs.Common.{◌≡◌, ◌^◌, pos, ◌*ℤ◌, rules, to_z, of_z}
use Rattle.std.specs.Int.{w128}
use Rattle.trace_ops.specs.Words.{shift_of}
use Rattle.int_bounds.proofs.Casts.{scaled-cast}
use Rattle.int_bounds.proofs.Corners.{more-times}
use Rattle.int_bounds.proofs.shifts.left_by.Goals as goal

pub span-requires : goal.span-requires
span-requires c =
    let k = shift_of c.args.by in
    let e : to_z w128 (of_z w128 c.scaled.result) ≡ c.args.a.low *ℤ pos (2 ^ k) = scaled-cast c.scaled.result c.args.a.low c.args.by (search rules) (search rules) (search rules) c.scaled.ensures in
    let f : to_z w128 (of_z w128 c.scaled-2.result) ≡ c.args.a.high *ℤ pos (2 ^ k) = scaled-cast c.scaled-2.result c.args.a.high c.args.by (search rules) (search rules) (search rules) c.scaled-2.ensures in
    rw (e, f) (more-times c.args.a.low c.args.a.high (2 ^ k) c.args.a.ordered)

pub returns : goal.returns
returns c = λ x a.
    let k = shift_of c.args.by in
    let e : to_z w128 (of_z w128 c.scaled.result) ≡ c.args.a.low *ℤ pos (2 ^ k) = scaled-cast c.scaled.result c.args.a.low c.args.by (search rules) (search rules) (search rules) c.scaled.ensures in
    let f : to_z w128 (of_z w128 c.scaled-2.result) ≡ c.args.a.high *ℤ pos (2 ^ k) = scaled-cast c.scaled-2.result c.args.a.high c.args.by (search rules) (search rules) (search rules) c.scaled-2.ensures in
    c.span.ensures.contains (x *ℤ pos (2 ^ k)) (rw e (more-times c.args.a.low x (2 ^ k) a.0)) (rw f (more-times x c.args.a.high (2 ^ k) a.1))
