use Rattle.std.proofs.Common.{◌≤ℤ◌, ◌<ℤ◌, true, false}
use Rattle.std.specs.Prelude.{int_le}
use Rattle.trace_ops.specs.declared.code.OpCode.TheVariants as code
use Rattle.int_bounds.specs.Narrows.{Answers, turned}
use Rattle.int_bounds.proofs.Narrowed.{narrows_as, narrows_turned, tight_as, tight_turned}
use Rattle.int_bounds.proofs.Told.{told, tells, le-yes, le-no, yes-le, no-le}
use Rattle.int_bounds.proofs.narrowing.at_most.Goals as goal

pub returns-then-passed-clause-narrows : goal.returns-then-passed-clause-narrows
returns-then-passed-clause-narrows c =
    narrows_as (λ x y. x ≤ℤ y) (Answers code.IntLe c.args.passed) c.args.a c.args.b c.no_more.result
    (λ x y h. le-yes x y (told (int_le x y) true c.args.passed c.if-passed.true h))
    c.no_more.ensures.narrows

pub returns-then-passed-clause-tight : goal.returns-then-passed-clause-tight
returns-then-passed-clause-tight c =
    tight_as (λ x y. x ≤ℤ y) (Answers code.IntLe c.args.passed) c.no_more.result
    (λ x y h. tells (int_le x y) true c.args.passed c.if-passed.true (yes-le x y h))
    c.no_more.ensures.tight

pub returns-clause-narrows : goal.returns-clause-narrows
returns-clause-narrows c =
    rw c.turned.ensures
    (narrows_as (λ x y. y <ℤ x) (Answers code.IntLe c.args.passed) c.args.a c.args.b (turned c.below.result)
    (λ x y h. le-no x y (told (int_le x y) false c.args.passed c.if-passed.false h))
    (narrows_turned (λ x y. x <ℤ y) c.args.a c.args.b c.below.result c.below.ensures.narrows))

pub returns-clause-tight : goal.returns-clause-tight
returns-clause-tight c =
    rw c.turned.ensures
    (tight_as (λ x y. y <ℤ x) (Answers code.IntLe c.args.passed) (turned c.below.result)
    (λ x y h. tells (int_le x y) false c.args.passed c.if-passed.false (no-le x y h))
    (tight_turned (λ x y. x <ℤ y) c.below.result c.below.ensures.tight))
