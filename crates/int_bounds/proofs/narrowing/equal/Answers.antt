use Rattle.std.proofs.Common.{◌≡◌, ◌≢◌, true, false}
use Rattle.std.specs.Ordering.{int_eq}
use Rattle.trace_ops.specs.declared.code.OpCode.TheVariants as code
use Rattle.int_bounds.specs.Narrows.{Answers}
use Rattle.int_bounds.proofs.Equal.{equal-same, equal-yes, equal-no}
use Rattle.int_bounds.proofs.Narrowed.{narrows_as, tight_as}
use Rattle.int_bounds.proofs.Told.{told, tells}
use Rattle.int_bounds.proofs.narrowing.equal.Goals as goal

pub returns-then-passed-clause-narrows : goal.returns-then-passed-clause-narrows
returns-then-passed-clause-narrows c =
    narrows_as (λ x y. x ≡ y) (Answers code.IntEq c.args.passed) c.args.a c.args.b c.same.result
    (λ x y h. equal-yes x y (told (int_eq x y) true c.args.passed c.if-passed.true h))
    c.same.ensures.narrows

pub returns-then-passed-clause-tight : goal.returns-then-passed-clause-tight
returns-then-passed-clause-tight c = λ p.
    tight_as (λ x y. x ≡ y) (Answers code.IntEq c.args.passed) c.same.result
    (λ x y h. tells (int_eq x y) true c.args.passed p (equal-same x y h))
    c.same.ensures.tight

pub returns-clause-narrows : goal.returns-clause-narrows
returns-clause-narrows c =
    narrows_as (λ x y. x ≢ y) (Answers code.IntEq c.args.passed) c.args.a c.args.b c.apart.result
    (λ x y h. equal-no x y (told (int_eq x y) false c.args.passed c.if-passed.false h))
    c.apart.ensures
