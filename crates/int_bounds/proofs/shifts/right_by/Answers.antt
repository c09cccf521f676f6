use Rattle.std.proofs.Common.{◌≡◌, ◌^◌, rules, to_z, of_z}
use Rattle.std.specs.Int.{w64}
use Rattle.std.proofs.lemmas.Nat.{pow_pos}
use Rattle.trace_ops.specs.Words.{shift_of, shifted_right}
use Rattle.int_bounds.proofs.Casts.{binary-cast}
use Rattle.int_bounds.proofs.Quotients.{shr-le}
use Rattle.int_bounds.proofs.shifts.right_by.Goals as goal

pub invariant_of-result : goal.invariant_of-result
invariant_of-result c =
    let e : to_z w64 (of_z w64 c.wrap_rshift.result) ≡ shifted_right c.args.a.low c.args.by = binary-cast shifted_right c.wrap_rshift.result c.args.a.low c.args.by (search rules) (search rules) (search rules) c.wrap_rshift.ensures in
    let f : to_z w64 (of_z w64 c.wrap_rshift-2.result) ≡ shifted_right c.args.a.high c.args.by = binary-cast shifted_right c.wrap_rshift-2.result c.args.a.high c.args.by (search rules) (search rules) (search rules) c.wrap_rshift-2.ensures in
    record { ordered = rw (e, f) (shr-le c.args.a.low c.args.a.high (2 ^ shift_of c.args.by) (pow_pos (shift_of c.args.by)) c.args.a.ordered) }

pub returns : goal.returns
returns c = λ x a.
    let e : to_z w64 (of_z w64 c.wrap_rshift.result) ≡ shifted_right c.args.a.low c.args.by = binary-cast shifted_right c.wrap_rshift.result c.args.a.low c.args.by (search rules) (search rules) (search rules) c.wrap_rshift.ensures in
    let f : to_z w64 (of_z w64 c.wrap_rshift-2.result) ≡ shifted_right c.args.a.high c.args.by = binary-cast shifted_right c.wrap_rshift-2.result c.args.a.high c.args.by (search rules) (search rules) (search rules) c.wrap_rshift-2.ensures in
    (rw e (shr-le c.args.a.low x (2 ^ shift_of c.args.by) (pow_pos (shift_of c.args.by)) a.0), rw f (shr-le x c.args.a.high (2 ^ shift_of c.args.by) (pow_pos (shift_of c.args.by)) a.1))
