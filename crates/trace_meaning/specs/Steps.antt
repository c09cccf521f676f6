-- What the calls of a runner make of a world, beside what the operations mean.
use Rattle.std.specs.Prelude.{◌≡◌, Bool, true, false, Option, Some, None, List, ◌-◌, length}
use Rattle.trace_ops.specs.declared.table.Table.{Table}
use Rattle.trace_ops.specs.declared.table.CallRow.{CallRow}
use Rattle.trace_meaning.specs.declared.value.Value.{Value}
use Rattle.trace_meaning.specs.declared.value.Object.{Object}
use Rattle.trace_meaning.specs.declared.call.Answer.{Answer}
use Rattle.trace_meaning.specs.Answers.{fits}
use Rattle.trace_meaning.specs.Performing.{Done, Gave, Bad, Waited, Misfitted}
use Rattle.trace_meaning.specs.Kept.{Kept, with_world}
use Rattle.trace_meaning.specs.declared.performing.Done.{Done as Outcome}
use Rattle.trace_meaning.specs.declared.performing.Done.TheVariants as outcome

-- the operation means this, and this came of it
abbrev pub IsPerformed : Done → Outcome → Kept → Kept → Type 0
IsPerformed (Gave x w) (outcome.Gave y) old new = (y ≡ x) × (new ≡ with_world old w)
IsPerformed Bad outcome.Bad old new = new ≡ old
IsPerformed (Waited w) outcome.Waited old new = new ≡ with_world old w
IsPerformed (Misfitted w) (outcome.Misfitted n) old new = (n ≡ length w.log - 1) × (new ≡ with_world old w)
IsPerformed _ _ old new = ⊥

abbrev pub write_shown : Bool → Outcome
write_shown true = outcome.Gave None
write_shown false = outcome.Bad

-- the number is that of the last call
abbrev pub IsNumbered : Outcome → Kept → Type 0
IsNumbered (outcome.Misfitted n) k = n ≡ length k.world.log - 1
IsNumbered _ k = Unit {0}

-- an answer, and whether it fits
abbrev pub IsAnswer : Table → CallRow → List Value → List Object → Option Answer → Option (Bool × Answer) → Type 0
IsAnswer t row refs objects None None = Unit {0}
IsAnswer t row refs objects (Some a) (Some b) = (b.0 ≡ fits t row refs objects a) × (b.1 ≡ a)
IsAnswer t row refs objects _ _ = ⊥
