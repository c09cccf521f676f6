-- Calls on both sides.
use Rattle.std.specs.Prelude.{◌≡◌, ℕ, false, List, Some, slice_get}
use Rattle.std.specs.List.{AllZip, AllByRecursion}
use Rattle.trace_ops.specs.declared.table.Table.{Table}
use Rattle.trace_ops.specs.declared.table.CallRow.{CallRow}
use Rattle.trace_ops.specs.declared.piece.Spot.{Spot}
use Rattle.trace_ops.specs.declared.piece.Spot.TheVariants as spot
use Rattle.trace_ops.specs.declared.piece.Pending.{Pending}
use Rattle.trace_ops.specs.declared.piece.Fact.{Fact}
use Rattle.trace_ops.specs.declared.piece.Fact.TheVariants as fact
use Rattle.trace_meaning.specs.declared.value.Value.{Value}
use Rattle.trace_meaning.specs.World.{World}
use Rattle.trace_meaning.specs.Boxes.{Boxes}
use Rattle.trace_meaning.specs.Answers.{is_declared}
use Rattle.trace_meaning.specs.Performing.{Done, Gave, Bad, Waited, Misfitted, called}
use Rattle.heap_shape.specs.Sameness.{MapsIf}
use Rattle.opt_meaning.specs.Along.{SameLogs}
use Rattle.opt_meaning.specs.Agrees.{Facts, Place, MapsAt, FactHolds, Agrees}
use Rattle.agreement.specs.Growing.{OfAgreeing}

-- the call neither reads nor writes the spot
abbrev pub IsUntouched : CallRow → Spot → Type 0
IsUntouched row (spot.Field f) = (is_declared row.reads f ≡ false) × (is_declared row.writes f ≡ false)
IsUntouched row (spot.Item a i) = Unit {0}

abbrev pub IsUnwritten : CallRow → Spot → Type 0
IsUnwritten row (spot.Field f) = is_declared row.writes f ≡ false
IsUnwritten row (spot.Item a i) = Unit {0}

-- a fact that the call leaves
abbrev pub IsKeptBy : CallRow → Fact → Type 0
IsKeptBy row (fact.Between b low high) = Unit {0}
IsKeptBy row (fact.Nonnull b) = Unit {0}
IsKeptBy row (fact.ClassOf b n) = Unit {0}
IsKeptBy row (fact.Holds base spot value) = IsUnwritten row spot
IsKeptBy row (fact.Same operation args value) = Unit {0}

abbrev pub in_worlds : List ℕ → World → World → Place → Place
in_worlds mapped w u at = record at { opt = w; rec = u; mapped = mapped }

-- a call has given the same on both sides, and what agreed still does, along a map that has one object more if it gave one; or it waits or has an answer that doesn't fit on both sides, and the calls are the same
abbrev pub SameDone : Table → Facts → Boxes → Place → Done → Done → Type 0
SameDone t known boxes at (Gave x w) (Gave y u) =
    (mapped : List ℕ) × ((n j : ℕ) → slice_get at.mapped n ≡ Some j → slice_get mapped n ≡ Some j) × MapsIf (slice_get mapped) x y × Agrees t known boxes (in_worlds mapped w u at)
SameDone t known boxes at (Waited w) (Waited u) = SameLogs at.mapped w.log u.log
SameDone t known boxes at (Misfitted w) (Misfitted u) = SameLogs at.mapped w.log u.log
SameDone t known boxes at Bad Bad = Unit {0}
SameDone t known boxes at _ _ = ⊥

-- a call whose arguments agree, where no pending store is to a field that it reads or writes
abbrev pub CallsAgree : Type 0
CallsAgree = OfAgreeing (λ t known boxes at.
    (row : CallRow) (function : ℕ) (us ys : List Value) → AllZip (MapsAt at) us ys → AllByRecursion (λ (p : Pending). IsUntouched row p.spot) known.pending
    → (facts : List Fact) → AllByRecursion (IsKeptBy row) facts → AllByRecursion (FactHolds t at) facts
    → SameDone t (record known { facts = facts }) boxes at (called t row function us at.opt) (called t row function ys at.rec))
