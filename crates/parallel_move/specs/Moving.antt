-- What moves do to a state, which gives each place its word.
use Rattle.std.specs.Prelude.{◌≡◌, ℤ, List, [], ◌∷◌, Bool, true, false, if◌then◌else◌, reverse}
use Rattle.std.specs.List.{list_any}
use Rattle.target_base.specs.declared.place.Place.{Place}
use Rattle.target_base.specs.contracts.place.PlacePartialEq.TheImpl as place
use Rattle.parallel_move.specs.declared.moving.Move.{Move}
use Rattle.parallel_move.specs.declared.moving.Move.TheVariants.{Copy, Swap}

-- whether two places are the same
abbrev pub same : Place → Place → Bool
same p q = place.ghosts.eq p q

-- the word of each place
abbrev pub State : Type 0
State = Place → ℤ

-- the state once a place has that word
abbrev pub put : Place → ℤ → State → State
put target word state p = if same target p then word else state p

-- the state once each target has the word that its source had
abbrev pub at_once : List (Place × Place) → State → State
at_once [] state = state
at_once (pair ∷ pairs) state = put pair.0 (state pair.1) (at_once pairs state)

-- the state after a move
abbrev pub after_move : Move → State → State
after_move (Copy target source) state = put target (state source) state
after_move (Swap one other) state = put one (state other) (put other (state one) state)

-- the state after the moves, in order
abbrev pub after : List Move → State → State
after [] state = state
after (m ∷ ms) state = after ms (after_move m state)

abbrev pub is_target : Place → List (Place × Place) → Bool
is_target p pairs = list_any (λ pair. same pair.0 p) pairs

abbrev pub is_source : Place → List (Place × Place) → Bool
is_source p pairs = list_any (λ pair. same pair.1 p) pairs

-- no two pairs have one target
abbrev pub HasDistinctTargets : List (Place × Place) → Type 0
HasDistinctTargets [] = Unit {0}
HasDistinctTargets (pair ∷ pairs) = (is_target pair.0 pairs ≡ false) × HasDistinctTargets pairs

-- where the value of p is once two places have exchanged theirs
abbrev pub exchanged : Place → Place → Place → Place
exchanged one other p = if same one p then other else (if same other p then one else p)

abbrev pub exchanged_pair : Place → Place → Place × Place → Place × Place
exchanged_pair one other pair = (pair.0, exchanged one other pair.1)

-- a move's target, or the first of two places that exchange their words
abbrev pub target_of : Move → Place
target_of (Copy target source) = target
target_of (Swap one other) = one

-- a move's source, or the second of two places that exchange their words
abbrev pub source_of : Move → Place
source_of (Copy target source) = source
source_of (Swap one other) = other

-- each place of the pairs passes the test
abbrev pub HavePlaces : (Place → Bool) → List (Place × Place) → Type 0
HavePlaces test [] = Unit {0}
HavePlaces test (pair ∷ pairs) = (test pair.0 ≡ true) × (test pair.1 ≡ true) × HavePlaces test pairs

-- each place of the moves passes the test
abbrev pub MovePlaces : (Place → Bool) → List Move → Type 0
MovePlaces test [] = Unit {0}
MovePlaces test (m ∷ ms) = (test (target_of m) ≡ true) × (test (source_of m) ≡ true) × MovePlaces test ms

-- what every place of the pairs passes, every place of the moves passes
abbrev pub MovesAmong : List (Place × Place) → List Move → Type 0
MovesAmong pairs ms = (test : Place → Bool) → HavePlaces test pairs → MovePlaces test ms

-- the same of what is planned, once a pair is settled
abbrev pub KeepsPlaces : Place × Place → List Move → List Move → List (Place × Place) → List Move → List Move → List (Place × Place) → Type 0
KeepsPlaces pair first last pairs first' last' pairs' = (test : Place → Bool) → HavePlaces test (pair ∷ pairs) → MovePlaces test first → MovePlaces test last
    → HavePlaces test pairs' × MovePlaces test first' × MovePlaces test last'

-- the first moves, then the pairs at once, then the last moves from their end
abbrev pub planned : List Move → List (Place × Place) → List Move → State → State
planned first pairs last state = after (reverse last) (at_once pairs (after first state))

-- what is planned stays, once the pair is no longer one of the pairs
abbrev pub Settles : Place × Place → List Move → List Move → List (Place × Place) → List Move → List Move → List (Place × Place) → Type 0
Settles pair first last pairs first' last' pairs' = (state : State) → planned first' pairs' last' state ≡ planned first (pair ∷ pairs) last state
