use Rattle.std.proofs.Common.{◌≤ℤ◌, ◌<ℤ◌, true, false}
use Rattle.std.specs.Prelude.{int_lt}
use Rattle.trace_ops.specs.declared.code.OpCode.TheVariants as code
use Rattle.int_bounds.specs.Narrows.{Answers, turned}
use Rattle.int_bounds.proofs.Narrowed.{narrows_as, narrows_turned, tight_as, tight_turned}
use Rattle.int_bounds.proofs.Told.{told, tells, lt-yes, lt-no, yes-lt, no-lt}
use Rattle.int_bounds.proofs.narrowing.less.Goals as goal

pub returns-then-passed-clause-narrows : goal.returns-then-passed-clause-narrows
returns-then-passed-clause-narrows c =
    narrows_as (λ x y. x <ℤ y) (Answers code.IntLt c.args.passed) c.args.a c.args.b c.below.result
    (λ x y h. lt-yes x y (told (int_lt x y) true c.args.passed c.if-passed.true h))
    c.below.ensures.narrows

pub returns-then-passed-clause-tight : goal.returns-then-passed-clause-tight
returns-then-passed-clause-tight c =
    tight_as (λ x y. x <ℤ y) (Answers code.IntLt c.args.passed) c.below.result
    (λ x y h. tells (int_lt x y) true c.args.passed c.if-passed.true (yes-lt x y h))
    c.below.ensures.tight

pub returns-clause-narrows : goal.returns-clause-narrows
returns-clause-narrows c =
    rw c.turned.ensures
    (narrows_as (λ x y. y ≤ℤ x) (Answers code.IntLt c.args.passed) c.args.a c.args.b (turned c.no_more.result)
    (λ x y h. lt-no x y (told (int_lt x y) false c.args.passed c.if-passed.false h))
    (narrows_turned (λ x y. x ≤ℤ y) c.args.a c.args.b c.no_more.result c.no_more.ensures.narrows))

pub returns-clause-tight : goal.returns-clause-tight
returns-clause-tight c =
    rw c.turned.ensures
    (tight_as (λ x y. y ≤ℤ x) (Answers code.IntLt c.args.passed) (turned c.no_more.result)
    (λ x y h. tells (int_lt x y) false c.args.passed c.if-passed.false (no-lt x y h))
    (tight_turned (λ x y. x ≤ℤ y) c.no_more.result c.no_more.ensures.tight))
