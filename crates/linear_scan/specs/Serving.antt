-- What the places of an allocation are good for.
use Rattle.std.specs.Prelude.{◌≡◌, ◌≢◌, ℕ, ◌<◌, ◌≤◌, List, Some, length, slice_get}
use Rattle.trace_ops.specs.declared.piece.Piece.{Piece}
use Rattle.trace_ops.specs.Pieces.{defined_by}
use Rattle.target_base.specs.declared.place.Place.{Place}
use Rattle.target_base.specs.declared.place.Place.TheVariants.{In, Word}
use Rattle.linear_scan.specs.declared.places.Places.{Places}
use Rattle.linear_scan.specs.Registers.{IsValueRegister}
use Rattle.linear_scan.specs.Living.{LivesAt}
use Rattle.linear_scan.specs.Placing.{Allocated, words_used}

-- a value may stand there: in one of the first registers for values, or in a frame word that is none of the first 16, where
-- registers are saved, and none of the last 256, which are the stack
abbrev pub HoldsValues : ℕ → Place → Type 0
HoldsValues registers (In r) = IsValueRegister registers r.0
HoldsValues registers (Word w) = (16 ≤ w) × (w < 1048320)

pub record PlacesServe (piece : Piece) (registers : ℕ) (places : List Place) : Type 0 where
  -- each place may hold a value
  pub hold : (b : ℕ) (p : Place) → slice_get places b ≡ Some p → HoldsValues registers p
  -- two boxes that live together share none
  pub apart : (i j k : ℕ) (p q : Place) → i ≢ j → LivesAt piece i k → LivesAt piece j k → slice_get places i ≡ Some p → slice_get places j ≡ Some q → p ≢ q

-- The places of an allocation serve, where the words for as many boxes, and the label's words, lie below the stack.
abbrev pub PlacesHoldValues : Type 0
PlacesHoldValues =
    (piece : Piece) (registers : ℕ) (label : List Place) (places : Places)
    → Allocated piece registers label places → length (defined_by piece) ≤ 1048304 → words_used label ≤ 1048320 → PlacesServe piece registers places.at
