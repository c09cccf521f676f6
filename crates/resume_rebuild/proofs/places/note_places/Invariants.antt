use Rattle.std.proofs.Common.{◌≤◌, length}
use Rattle.resume_rebuild.proofs.Noting.{AreNotedFrom}
use Rattle.resume_rebuild.proofs.places.note_places.Given as goal

abbrev pub invariant-loop-k : goal.invariant-loop-k
invariant-loop-k l = record {
  noted : AreNotedFrom l.places l.k l.noted.items;
  within : l.k ≤ length l.places;
}

abbrev pub decreases-loop-k : goal.decreases-loop-k
decreases-loop-k l = l.k
