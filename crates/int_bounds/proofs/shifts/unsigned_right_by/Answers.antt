use Rattle.std.proofs.Common.{◌≡◌, ◌≤◌, ◌^◌, pos, negsuc, ◌≤ℤ◌, ◌<ℤ◌, ◌⊎◌, inl, inr, arith, rules, FitsSigned, to_z, of_z}
use Rattle.std.specs.Int.{w64}
use Rattle.std.proofs.lemmas.Int.{ints}
use Rattle.trace_ops.specs.Words.{shift_of, unsigned, unsigned_right}
use Rattle.int_bounds.proofs.Bitwise.{words-between}
use Rattle.int_bounds.proofs.Casts.{binary-cast, lone-cast, below_zero-cast, from_zero-cast}
use Rattle.int_bounds.proofs.Quotients.{two-power, unsigned_right-le, zero-unsigned_right, unsigned-between, unsigned-most}
use Rattle.int_bounds.proofs.shifts.unsigned_right_by.Goals as goal
use Rattle.int_bounds.proofs.shifts.unsigned_right_by.Goals.{else-a-lt0-via-then-a-lt0+else-a-ge0, else-a-lt0-via-else-a-lt0}

pub returns-then-a-ge0 : goal.returns-then-a-ge0
returns-then-a-ge0 c = λ x a.
    let two : 2 ≤ 2 ^ shift_of c.args.by = two-power c.cast_unsigned.result c.args.by (search rules) c.cast_unsigned.ensures c.if-cast_unsigned-eq0.false in
    let e : to_z w64 (of_z w64 c.wrap_unsigned_rshift.result) ≡ unsigned_right (negsuc 0) c.args.by = lone-cast (unsigned_right (negsuc 0)) c.wrap_unsigned_rshift.result c.args.by (search rules) (search rules) c.wrap_unsigned_rshift.ensures in
    let fits : FitsSigned w64 x = words-between c.args.a.low c.args.a.high x (search rules) (search rules) a.0 a.1 in
    (zero-unsigned_right x c.args.by fits two, rw e (unsigned_right-le x (negsuc 0) c.args.by fits (search rules) two (unsigned-most x fits)))

pub invariant_of-result : goal.invariant_of-result
invariant_of-result c =
    let two : 2 ≤ 2 ^ shift_of c.args.by = two-power c.cast_unsigned.result c.args.by (search rules) c.cast_unsigned.ensures c.if-cast_unsigned-eq0.false in
    let e : to_z w64 (of_z w64 c.wrap_unsigned_rshift.result) ≡ unsigned_right (negsuc 0) c.args.by = lone-cast (unsigned_right (negsuc 0)) c.wrap_unsigned_rshift.result c.args.by (search rules) (search rules) c.wrap_unsigned_rshift.ensures in
    record { ordered = rw e (zero-unsigned_right (negsuc 0) c.args.by (search rules) two) }

pub returns : goal.returns
returns c = λ x a.
    let two : 2 ≤ 2 ^ shift_of c.args.by = two-power c.cast_unsigned.result c.args.by (search rules) c.cast_unsigned.ensures c.if-cast_unsigned-eq0.false in
    let e : to_z w64 (of_z w64 c.wrap_unsigned_rshift-2.result) ≡ unsigned_right c.args.a.low c.args.by = binary-cast unsigned_right c.wrap_unsigned_rshift-2.result c.args.a.low c.args.by (search rules) (search rules) (search rules) c.wrap_unsigned_rshift-2.ensures in
    let f : to_z w64 (of_z w64 c.wrap_unsigned_rshift-3.result) ≡ unsigned_right c.args.a.high c.args.by = binary-cast unsigned_right c.wrap_unsigned_rshift-3.result c.args.a.high c.args.by (search rules) (search rules) (search rules) c.wrap_unsigned_rshift-3.ensures in
    let sign : (pos 0 ≤ℤ c.args.a.low) ⊎ (c.args.a.high <ℤ pos 0) = elim c.else-a-lt0.branch [ else-a-lt0-via-then-a-lt0+else-a-ge0 w ↦ inr (below_zero-cast c.args.a.high (search rules) w.if-a-ge0.false) | else-a-lt0-via-else-a-lt0 w ↦ inl (from_zero-cast c.args.a.low (search rules) w.if-a-lt0.false) ] in
    let order : (unsigned c.args.a.low ≤ unsigned x) × (unsigned x ≤ unsigned c.args.a.high) = unsigned-between c.args.a.low c.args.a.high x sign a.0 a.1 in
    let fits : FitsSigned w64 x = words-between c.args.a.low c.args.a.high x (search rules) (search rules) a.0 a.1 in
    (rw e (unsigned_right-le c.args.a.low x c.args.by (search rules) fits two order.0), rw f (unsigned_right-le x c.args.a.high c.args.by fits (search rules) two order.1))

pub invariant_of-result-2 : goal.invariant_of-result-2
invariant_of-result-2 c =
    let two : 2 ≤ 2 ^ shift_of c.args.by = two-power c.cast_unsigned.result c.args.by (search rules) c.cast_unsigned.ensures c.if-cast_unsigned-eq0.false in
    let e : to_z w64 (of_z w64 c.wrap_unsigned_rshift-2.result) ≡ unsigned_right c.args.a.low c.args.by = binary-cast unsigned_right c.wrap_unsigned_rshift-2.result c.args.a.low c.args.by (search rules) (search rules) (search rules) c.wrap_unsigned_rshift-2.ensures in
    let f : to_z w64 (of_z w64 c.wrap_unsigned_rshift-3.result) ≡ unsigned_right c.args.a.high c.args.by = binary-cast unsigned_right c.wrap_unsigned_rshift-3.result c.args.a.high c.args.by (search rules) (search rules) (search rules) c.wrap_unsigned_rshift-3.ensures in
    let sign : (pos 0 ≤ℤ c.args.a.low) ⊎ (c.args.a.high <ℤ pos 0) = elim c.else-a-lt0.branch [ else-a-lt0-via-then-a-lt0+else-a-ge0 w ↦ inr (below_zero-cast c.args.a.high (search rules) w.if-a-ge0.false) | else-a-lt0-via-else-a-lt0 w ↦ inl (from_zero-cast c.args.a.low (search rules) w.if-a-lt0.false) ] in
    let order : (unsigned c.args.a.low ≤ unsigned c.args.a.high) × (unsigned c.args.a.high ≤ unsigned c.args.a.high) = unsigned-between c.args.a.low c.args.a.high c.args.a.high sign c.args.a.ordered (omega (arith, ints)) in
    record { ordered = rw (e, f) (unsigned_right-le c.args.a.low c.args.a.high c.args.by (search rules) (search rules) two order.0) }
