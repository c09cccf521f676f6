-- What a passed guard tells of values: a constant, and of a comparison the intervals of what was compared.
use Rattle.std.specs.Prelude.{◌≡◌, ℤ, pos, Bool, true, false, List, [], ◌∷◌, Option, Some}
use Rattle.trace_ops.specs.declared.code.OpCode.{OpCode}
use Rattle.trace_ops.specs.declared.code.OpCode.TheVariants as code
use Rattle.trace_ops.specs.declared.trace.BoxId.{BoxId}
use Rattle.trace_ops.specs.declared.trace.Arg.{Arg}
use Rattle.trace_ops.specs.declared.trace.Arg.TheVariants.{Of, Const}
use Rattle.trace_ops.specs.declared.table.Table.{Table}
use Rattle.trace_ops.specs.declared.piece.Fact.TheVariants as fact
use Rattle.trace_ops.specs.Words.{truth}
use Rattle.trace_meaning.specs.declared.value.Value.{Value}
use Rattle.trace_meaning.specs.declared.value.Value.TheVariants as v
use Rattle.trace_meaning.specs.World.{World}
use Rattle.trace_meaning.specs.Boxes.{arg_value}
use Rattle.trace_meaning.specs.Passing.{passes}
use Rattle.opt_meaning.specs.Agrees.{Place, FactHolds}
use Rattle.int_bounds.specs.declared.interval.Interval.{Interval}
use Rattle.int_bounds.specs.Within.{IsWithin}
use Rattle.int_bounds.specs.Narrows.{Answers, Narrows}

-- what has passed is a constant: zero, null, or the value that it was compared with
abbrev pub PassedFixes : Type 0
PassedFixes =
    (args : List Arg) (u x : Value) (w : World)
    → (passes code.GuardFalse args (u ∷ []) w ≡ Some true → u ≡ v.Int (pos 0))
    × (passes code.GuardIsnull args (u ∷ []) w ≡ Some true → u ≡ v.Null)
    × (passes code.GuardValue args (u ∷ x ∷ []) w ≡ Some true → u ≡ x)

-- the comparisons of two words
abbrev pub compares_words : OpCode → Bool
compares_words code.IntLt = true
compares_words code.IntLe = true
compares_words code.IntEq = true
compares_words code.IntNe = true
compares_words code.IntGt = true
compares_words code.IntGe = true
compares_words code.UintLt = true
compares_words code.UintLe = true
compares_words code.UintGt = true
compares_words code.UintGe = true
compares_words _ = false

-- the guard that passes where a comparison has answered so
abbrev pub guard_of : Bool → OpCode
guard_of true = code.GuardTrue
guard_of false = code.GuardFalse

-- the argument is a word of the interval; of a box, this is the fact Between
abbrev pub LiesIn : Place → Interval → Arg → Type 0
LiesIn at i a = (z : ℤ) × (arg_value at.box a ≡ Some (v.Int z)) × IsWithin i z

-- b is the answer of a comparison of x and y, and has passed: it is 1 or 0, and x and y lie where their intervals narrow to
abbrev pub PassedNarrows : Type 0
PassedNarrows =
    (t : Table) (at : Place) (operation : OpCode) (passed : Bool) (x y : Arg) (b : BoxId) (u : Value) (args : List Arg)
    (i j : Interval) (narrowed : Option (Interval × Interval))
    → compares_words operation ≡ true → FactHolds t at (fact.Same operation (x ∷ y ∷ []) (Of b))
    → at.box b ≡ Some u → passes (guard_of passed) args (u ∷ []) at.opt ≡ Some true
    → LiesIn at i x → LiesIn at j y → Narrows (Answers operation passed) i j narrowed
    → (u ≡ v.Int (truth passed))
    × ((r : Interval × Interval) × (narrowed ≡ Some r) × LiesIn at r.0 x × LiesIn at r.1 y)

-- whether a word is zero is a comparison with zero
abbrev pub ZeroIsCompared : Type 0
ZeroIsCompared =
    (t : Table) (at : Place) (x value : Arg)
    → (FactHolds t at (fact.Same code.IntIsZero (x ∷ []) value) → FactHolds t at (fact.Same code.IntEq (x ∷ Const (pos 0) ∷ []) value))
    × (FactHolds t at (fact.Same code.IntIsTrue (x ∷ []) value) → FactHolds t at (fact.Same code.IntNe (x ∷ Const (pos 0) ∷ []) value))
