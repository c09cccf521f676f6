-- Kinds that are told by a list of boxes, in place of one by number.
use Rattle.std.specs.Prelude.{◌≡◌, ℕ, ◌<◌, nat_eq, if◌then◌else◌, List, [], ◌∷◌, Option, Some, None, map}
use Rattle.std.specs.List.{All, Contains, range_with_len}
use Rattle.trace_ops.specs.declared.trace.Kind.{Kind}
use Rattle.trace_ops.specs.declared.trace.Kind.TheVariants.{Int}
use Rattle.trace_ops.specs.declared.trace.BoxId.{BoxId}
use Rattle.trace_ops.specs.declared.piece.Snapshot.{Snapshot}
use Rattle.trace_ops.specs.Parts.{boxes_of}
use Rattle.trace_ops.specs.Sound.{AreApart}
use Rattle.resume_numbering.specs.declared.rows.ResumeTable.{ResumeTable}
use Rattle.resume_numbering.specs.Lawful.{IsLawful}
use Rattle.resume_numbering.specs.Reading.{StandsAt, AreOfKind}

-- each box of the snapshot is one of these, of which no two have one number
pub record AreBoxesOf (boxes : List BoxId) (snap : Snapshot) : Type 0 where
  pub numbers_apart : AreApart (map (λ (b : BoxId). b.number) boxes)
  pub each : All (Contains boxes) (boxes_of snap)

-- the kind of the first of the boxes that has this number
abbrev pub kind_among : List BoxId → ℕ → Option Kind
kind_among [] n = None
kind_among (b ∷ bs) n = if nat_eq b.number n then Some b.kind else kind_among bs n

-- a number that no box has is read as an integer's
abbrev pub kind_or_integer : Option Kind → Kind
kind_or_integer None = Int
kind_or_integer (Some k) = k

-- the kinds of the numbers below n
abbrev pub kinds_of : List BoxId → ℕ → List Kind
kinds_of boxes n = map (λ k. kind_or_integer (kind_among boxes k)) (range_with_len 0 n)

-- the kinds that boxes tell are those of the snapshot's boxes
abbrev pub BoxesTellKinds : Type 0
BoxesTellKinds =
    (boxes : List BoxId) (n : ℕ) (snap : Snapshot) → AreBoxesOf boxes snap → All (λ (b : BoxId). b.number < n) (boxes_of snap) → AreOfKind (kinds_of boxes n) snap

-- a table is read as at most one snapshot whose boxes are these
abbrev pub ReadsOneOfBoxes : Type 0
ReadsOneOfBoxes =
    (table : ResumeTable) (guard : ℕ) (boxes : List BoxId) (a b : Snapshot) → IsLawful table → StandsAt table guard a → AreBoxesOf boxes a → StandsAt table guard b → AreBoxesOf boxes b → a ≡ b
