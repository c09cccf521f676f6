-- An operation that both sides perform, where nothing is pending.
use Rattle.std.specs.Prelude.{◌≡◌, ℤ, Bool, List, [], Option}
use Rattle.std.specs.List.{AllZip, AllByRecursion}
use Rattle.trace_ops.specs.declared.code.OpCode.{OpCode}
use Rattle.trace_ops.specs.declared.trace.Arg.{Arg}
use Rattle.trace_ops.specs.declared.trace.Descr.{Descr}
use Rattle.trace_ops.specs.declared.table.Table.{Table}
use Rattle.trace_ops.specs.declared.piece.Fact.{Fact}
use Rattle.trace_ops.specs.declared.piece.Fact.TheVariants as fact
use Rattle.trace_meaning.specs.declared.value.Value.{Value}
use Rattle.trace_meaning.specs.World.{World}
use Rattle.trace_meaning.specs.Boxes.{Boxes}
use Rattle.trace_meaning.specs.Performing.{Done, Gave, Bad, Waited, Misfitted, overflowing, function_in, perform}
use Rattle.opt_meaning.specs.Agrees.{Facts, Place, MapsAt, Agrees}
use Rattle.agreement.specs.Growing.{OfAgreeing}
use Rattle.agreement.specs.Calling.{SameDone}

-- a fact that no store ends
abbrev pub IsLasting : Fact → Type 0
IsLasting (fact.Between b low high) = Unit {0}
IsLasting (fact.Nonnull b) = Unit {0}
IsLasting (fact.ClassOf b n) = Unit {0}
IsLasting (fact.Holds base spot value) = ⊥
IsLasting (fact.Same operation args value) = Unit {0}

-- the same, unless the trace has gone wrong
abbrev pub SameUnlessBad : Table → Facts → Boxes → Place → Done → Done → Type 0
SameUnlessBad t known boxes at x Bad = Unit {0}
SameUnlessBad t known boxes at x (Gave y u) = SameDone t known boxes at x (Gave y u)
SameUnlessBad t known boxes at x (Waited u) = SameDone t known boxes at x (Waited u)
SameUnlessBad t known boxes at x (Misfitted u) = SameDone t known boxes at x (Misfitted u)

-- any operation, of arguments that agree; args and others are those of the piece and of the trace
abbrev pub PerformsAgree : Type 0
PerformsAgree = OfAgreeing (λ t known boxes at.
    (operation : OpCode) (d : Descr) (args others : List Arg) (us ys : List Value)
    → known.pending ≡ [] → AllByRecursion IsLasting known.facts → function_in args ≡ function_in others → AllZip (MapsAt at) us ys
    → SameUnlessBad t known boxes at (perform t operation d args us at.opt) (perform t operation d others ys at.rec))

-- whether the last operation overflowed is no part of what agrees
abbrev pub OverflowIsApart : Type 0
OverflowIsApart = OfAgreeing (λ t known boxes at.
    (b c : Bool) → Agrees t known boxes (record at { opt = record at.opt { overflow = b }; rec = record at.rec { overflow = c } }))

-- an operation that can overflow, of integers that agree, gives one value on both sides, and overflows on both or on none
abbrev pub OverflowsAlike : Type 0
OverflowsAlike = OfAgreeing (λ t known boxes at.
    (exact : ℤ → ℤ → ℤ) (us ys : List Value) (y : Option Value) (w : World) → AllZip (MapsAt at) us ys → overflowing exact ys at.rec ≡ Gave y w
    → (o : World) × (overflowing exact us at.opt ≡ Gave y o) × (o.overflow ≡ w.overflow) × Agrees t known boxes (record at { opt = o; rec = w }))
