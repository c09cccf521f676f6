use Rattle.std.proofs.Common.{◌≡◌, drop}
use Rattle.resume_numbering.specs.Boxes.{kind_among}
use Rattle.resume_numbering.specs.Placed.{boxes_among}
use Rattle.resume_numbering.proofs.placed.kind_at.Given as goal

abbrev pub invariant-loop-place : goal.invariant-loop-place
invariant-loop-place l = kind_among (boxes_among (drop l.place-index l.places)) l.number ≡ kind_among (boxes_among l.places) l.number
