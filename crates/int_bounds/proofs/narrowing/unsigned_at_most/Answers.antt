use Rattle.std.proofs.Common.{◌≤◌, ◌<◌, true, false}
use Rattle.std.specs.Prelude.{nat_le}
use Rattle.trace_ops.specs.declared.code.OpCode.TheVariants as code
use Rattle.trace_ops.specs.Words.{unsigned}
use Rattle.int_bounds.specs.Narrows.{Answers, turned}
use Rattle.int_bounds.proofs.Narrowed.{narrows_as, narrows_turned}
use Rattle.int_bounds.proofs.Told.{told, nat_le-yes, nat_le-no}
use Rattle.int_bounds.proofs.narrowing.unsigned_at_most.Goals as goal

pub returns-then-passed : goal.returns-then-passed
returns-then-passed c =
    narrows_as (λ x y. unsigned x ≤ unsigned y) (Answers code.UintLe c.args.passed) c.args.a c.args.b c.unsigned_no_more.result
    (λ x y h. nat_le-yes (unsigned x) (unsigned y) (told (nat_le (unsigned x) (unsigned y)) true c.args.passed c.if-passed.true h))
    c.unsigned_no_more.ensures

pub returns : goal.returns
returns c =
    rw c.turned.ensures
    (narrows_as (λ x y. unsigned y < unsigned x) (Answers code.UintLe c.args.passed) c.args.a c.args.b (turned c.unsigned_below.result)
    (λ x y h. nat_le-no (unsigned x) (unsigned y) (told (nat_le (unsigned x) (unsigned y)) false c.args.passed c.if-passed.false h))
    (narrows_turned (λ x y. unsigned x < unsigned y) c.args.a c.args.b c.unsigned_below.result c.unsigned_below.ensures))
