-- Guards pass alike on both sides, and what a passed guard tells.
use Rattle.std.specs.Prelude.{◌≡◌, ℕ, Bool, true, false, List, [], ◌∷◌, Some}
use Rattle.std.specs.List.{AllZip}
use Rattle.trace_ops.specs.declared.code.OpCode.{OpCode}
use Rattle.trace_ops.specs.declared.code.OpCode.TheVariants as code
use Rattle.trace_ops.specs.declared.trace.BoxId.{BoxId}
use Rattle.trace_ops.specs.declared.trace.Arg.{Arg}
use Rattle.trace_ops.specs.declared.table.Table.{Table}
use Rattle.trace_ops.specs.declared.piece.Fact.TheVariants as fact
use Rattle.trace_meaning.specs.declared.value.Value.{Value}
use Rattle.trace_meaning.specs.Passing.{class_in, passes}
use Rattle.opt_meaning.specs.Agrees.{Place, MapsAt, FactHolds}
use Rattle.agreement.specs.Growing.{OfAgreeing}

-- a guard that reads whether the last operation overflowed
abbrev pub reads_overflow : OpCode → Bool
reads_overflow code.GuardNoOverflow = true
reads_overflow code.GuardOverflow = true
reads_overflow _ = false

-- args and others are the arguments in the piece and in the trace
abbrev pub PassesAlike : Type 0
PassesAlike = OfAgreeing (λ t known boxes at.
    (operation : OpCode) (args others : List Arg) (us ys : List Value) → class_in args ≡ class_in others → AllZip (MapsAt at) us ys
    → (reads_overflow operation ≡ true → at.opt.overflow ≡ at.rec.overflow)
    → passes operation args us at.opt ≡ passes operation others ys at.rec)

-- where an object has passed a test of its class, it has that class; where a value has passed as not null, it is an object
abbrev pub PassedTells : Type 0
PassedTells =
    (t : Table) (at : Place) (b : BoxId) (u : Value) (args : List Arg) → at.box b ≡ Some u
    → ((size : ℕ) → class_in args ≡ Some size → passes code.GuardClass args (u ∷ []) at.opt ≡ Some true → FactHolds t at (fact.ClassOf b size))
    × ((size : ℕ) → class_in args ≡ Some size → passes code.GuardNonnullClass args (u ∷ []) at.opt ≡ Some true → FactHolds t at (fact.ClassOf b size))
    × (passes code.GuardNonnull args (u ∷ []) at.opt ≡ Some true → FactHolds t at (fact.Nonnull b))
