-- Reading a table at a guard.
use Rattle.std.specs.Prelude.{◌≡◌, ℕ, ◌==◌, List, Option, Some, slice_get, length, All, position}
use Rattle.trace_ops.specs.declared.trace.Kind.{Kind}
use Rattle.trace_ops.specs.declared.piece.Val.TheVariants.{Known}
use Rattle.trace_ops.specs.declared.piece.OptFrame.{OptFrame}
use Rattle.trace_ops.specs.declared.piece.Shape.{Shape}
use Rattle.trace_ops.specs.declared.piece.Pending.{Pending}
use Rattle.trace_ops.specs.declared.piece.Snapshot.{Snapshot}
use Rattle.trace_ops.specs.declared.piece.Piece.{Piece}
use Rattle.resume_numbering.specs.declared.rows.GuardRow.{GuardRow}
use Rattle.resume_numbering.specs.declared.rows.ResumeTable.{ResumeTable}
use Rattle.resume_numbering.specs.Tags.{IsBoxTagBelow, IsConstBelow}
use Rattle.resume_numbering.specs.Values.{values_in, IsOfKind}
use Rattle.resume_numbering.specs.Standing.{StandsFor}
use Rattle.resume_numbering.specs.Leading.{LeadsOnlyTo}
use Rattle.resume_numbering.specs.Uses.{Guarded, guarded}
use Rattle.resume_numbering.specs.Lawful.{IsLawful}
use Rattle.resume_numbering.specs.Numbered.{IsNumbered}

-- the row of a guard
pub record IsRowOf (table : ResumeTable) (guard : ℕ) (row : GuardRow) : Type 0 where
  pub place : ℕ
  pub stands : slice_get table.guards place ≡ Some row
  pub number : row.guard ≡ guard

abbrev pub HasRow : ResumeTable → ℕ → Type 0
HasRow table guard = (row : GuardRow) × IsRowOf table guard row

-- the boxes to which the guard's row leads have kinds
abbrev pub HasKinds : ResumeTable → ℕ → List Kind → Type 0
HasKinds table guard kinds = (row : GuardRow) → IsRowOf table guard row → LeadsOnlyTo table.frames table.virtuals row (IsBoxTagBelow (length kinds))

-- the table stands for a snapshot at a guard
abbrev pub StandsAt : ResumeTable → ℕ → Snapshot → Type 0
StandsAt table guard snap = (row : GuardRow) × IsRowOf table guard row × StandsFor table.consts table.frames table.virtuals row snap

-- each box of a snapshot is of the kind of its number
abbrev pub AreOfKind : List Kind → Snapshot → Type 0
AreOfKind kinds snap = All (IsOfKind kinds) (values_in snap)

-- a table is read as at most one snapshot
abbrev pub ReadsOne : Type 0
ReadsOne =
    (table : ResumeTable) (guard : ℕ) (kinds : List Kind) (a b : Snapshot) → IsLawful table → StandsAt table guard a → AreOfKind kinds a → StandsAt table guard b → AreOfKind kinds b → a ≡ b

-- the table of a piece can be read at each of its guards with the kinds of the boxes there
abbrev pub CanBeRead : Type 0
CanBeRead =
    (p : Piece) (table : ResumeTable) (kinds : List Kind) (k : ℕ) (g : Guarded) → IsNumbered table p → slice_get (guarded p.ops) k ≡ Some g → AreOfKind kinds g.snap
    → IsLawful table × HasRow table g.guard × HasKinds table g.guard kinds

-- and what is read there is the guard's snapshot
abbrev pub ReadsSnapshots : Type 0
ReadsSnapshots =
    (p : Piece) (table : ResumeTable) (kinds : List Kind) (k : ℕ) (g : Guarded) (read : Snapshot) → IsNumbered table p → slice_get (guarded p.ops) k ≡ Some g → AreOfKind kinds g.snap
    → StandsAt table g.guard read → AreOfKind kinds read → read ≡ g.snap

-- what reading goes over

abbrev pub IsReadable : ℕ → ℕ → ℕ → Type 0
IsReadable consts kinds t = IsConstBelow consts t × IsBoxTagBelow kinds t

abbrev pub AreReadable : ℕ → ℕ → List ℕ → Type 0
AreReadable consts kinds ts = All (IsReadable consts kinds) ts

abbrev pub RowIsReadable : ResumeTable → ℕ → GuardRow → Type 0
RowIsReadable table kinds row = LeadsOnlyTo table.frames table.virtuals row (IsReadable (length table.consts) kinds)

abbrev pub KindsOfFrame : List Kind → OptFrame → Type 0
KindsOfFrame kinds f = All (IsOfKind kinds) f.slots

abbrev pub KindsOfShape : List Kind → Shape → Type 0
KindsOfShape kinds s = All (IsOfKind kinds) s.parts

abbrev pub KindsOfStore : List Kind → Pending → Type 0
KindsOfStore kinds p = IsOfKind kinds (Known p.base) × IsOfKind kinds p.value

abbrev pub place_of : ℕ → List GuardRow → Option ℕ
place_of guard rows = position (λ (row : GuardRow). row.guard == guard) rows
