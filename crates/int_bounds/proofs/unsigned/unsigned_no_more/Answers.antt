use Rattle.std.proofs.Common.{◌≤◌, ◌≤ℤ◌, ◌<ℤ◌, pos, rules, FitsSigned}
use Rattle.std.specs.Int.{w64}
use Rattle.std.specs.Int.Signed.{clash_ℤ}
use Rattle.trace_ops.specs.Words.{unsigned}
use Rattle.int_bounds.proofs.Bitwise.{words-between}
use Rattle.int_bounds.proofs.Casts.{negative-cast, zero-cast}
use Rattle.int_bounds.proofs.Narrowed.{IsPart_refl, narrows_by}
use Rattle.int_bounds.proofs.Told.{from-unsigned_le, above-unsigned_le}
use Rattle.int_bounds.proofs.unsigned.unsigned_no_more.Goals as goal

pub returns-then-b-ge0 : goal.returns-then-b-ge0
returns-then-b-ge0 c =
    narrows_by (λ x y. x ≤ℤ y) (λ x y. unsigned x ≤ unsigned y) c.args.a c.args.b c.from_zero.result c.args.b c.no_more.result c.from_zero.ensures.part (IsPart_refl c.args.b)
    (λ x y in_a in_b h.
    let f : FitsSigned w64 x = words-between c.args.a.low c.args.a.high x (search rules) (search rules) in_a.0 in_a.1 in
    let g : FitsSigned w64 y = words-between c.args.b.low c.args.b.high y (search rules) (search rules) in_b.0 in_b.1 in
    let u : (pos 0 ≤ℤ x) × (x ≤ℤ y) = from-unsigned_le x y f g (zero-cast c.args.b.low y (search rules) in_b.0 c.if-b-ge0.true) h in
    (c.from_zero.ensures.keeps x in_a u.0, in_b, u.1))
    c.no_more.ensures.narrows

pub returns-then-a-lt0 : goal.returns-then-a-lt0
returns-then-a-lt0 c = λ x y in_a in_b h.
    let f : FitsSigned w64 x = words-between c.args.a.low c.args.a.high x (search rules) (search rules) in_a.0 in_a.1 in
    let g : FitsSigned w64 y = words-between c.args.b.low c.args.b.high y (search rules) (search rules) in_b.0 in_b.1 in
    let u : (pos 0 ≤ℤ x) × (x ≤ℤ y) = from-unsigned_le x y f g (zero-cast c.args.b.low y (search rules) in_b.0 c.if-b-ge0.true) h in
    clash_ℤ (negative-cast c.args.a.high x (search rules) in_a.1 c.if-a-lt0.true) u.0

pub returns-then-a-lt0-2 : goal.returns-then-a-lt0-2
returns-then-a-lt0-2 c =
    narrows_by (λ x y. x ≤ℤ y) (λ x y. unsigned x ≤ unsigned y) c.args.a c.args.b c.args.a c.under_zero.result c.no_more-then-a-lt0-2.result (IsPart_refl c.args.a) c.under_zero.ensures.part
    (λ x y in_a in_b h.
    let f : FitsSigned w64 x = words-between c.args.a.low c.args.a.high x (search rules) (search rules) in_a.0 in_a.1 in
    let g : FitsSigned w64 y = words-between c.args.b.low c.args.b.high y (search rules) (search rules) in_b.0 in_b.1 in
    let u : (y <ℤ pos 0) × (x ≤ℤ y) = above-unsigned_le x y f g (negative-cast c.args.a.high x (search rules) in_a.1 c.if-a-lt0-2.true) h in
    (in_a, c.under_zero.ensures.keeps y in_b u.0, u.1))
    c.no_more-then-a-lt0-2.ensures.narrows
