use Rattle.std.proofs.Common.{◌≡◌, ◌+◌, ◌≤◌, ◌++◌, length, reverse, vec_len, Bool}
use Rattle.target_base.specs.declared.place.Place.{Place}
use Rattle.parallel_move.specs.Moving.{State, at_once, after, planned, HasDistinctTargets, HavePlaces, MovePlaces}
use Rattle.parallel_move.specs.Resting.{pairs_of}
use Rattle.parallel_move.proofs.moving.moves.Given as goal

abbrev pub invariant-loop-pair : goal.invariant-loop-pair
invariant-loop-pair l = record {
  acts : (state : State) → planned l.first.items (pairs_of l.rest) l.last.items state ≡ at_once l.pairs state;
  distinct : HasDistinctTargets (pairs_of l.rest);
  among : (test : Place → Bool) → HavePlaces test l.pairs → HavePlaces test (pairs_of l.rest) × MovePlaces test l.first.items × MovePlaces test l.last.items;
  few : vec_len l.first + vec_len l.last + length l.rest.pairs ≤ length l.pairs;
}

abbrev pub decreases-loop-pair : goal.decreases-loop-pair
decreases-loop-pair l = length l.rest.pairs

abbrev pub invariant-loop-m : goal.invariant-loop-m
invariant-loop-m l = record {
  acts : (state : State) → after (l.first.items ++ reverse l.last.items) state ≡ at_once l.pairs state;
  few : vec_len l.first + vec_len l.last ≤ length l.pairs;
  among : (test : Place → Bool) → HavePlaces test l.pairs → MovePlaces test l.first.items × MovePlaces test l.last.items;
}

abbrev pub decreases-loop-m : goal.decreases-loop-m
decreases-loop-m l = vec_len l.last
