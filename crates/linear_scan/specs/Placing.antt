-- What the places of a piece's boxes must meet.
use Rattle.std.specs.Prelude.{◌≡◌, ◌≢◌, ℕ, ◌+◌, ◌<◌, ◌≤◌, ◌^◌, List, [], ◌∷◌, Some, IsTrue, length, max, slice_get}
use Rattle.trace_ops.specs.declared.piece.Piece.{Piece}
use Rattle.trace_ops.specs.Pieces.{defined_by}
use Rattle.target_base.specs.declared.place.Place.{Place}
use Rattle.target_base.specs.declared.place.Place.TheVariants.{In, Word}
use Rattle.linear_scan.specs.declared.places.Places.{Places}
use Rattle.linear_scan.specs.Registers.{IsValueRegister, is_kept, register}
use Rattle.linear_scan.specs.Living.{start_of, LivesAt, LivesAcross}

-- a box may have one of the first registers for values, and only one that calls keep if it lives across a call
abbrev pub MayHave : ℕ → Piece → ℕ → ℕ → Type 0
MayHave registers piece b r = IsValueRegister registers r × (LivesAcross piece b → IsTrue (is_kept r))

-- the place of a label box: a register that it may have, or a frame word from 16 on and below 2^31
abbrev pub IsLabelPlace : ℕ → Piece → ℕ → Place → Type 0
IsLabelPlace registers piece b (In r) = MayHave registers piece b r.0
IsLabelPlace registers piece b (Word w) = (16 ≤ w) × (w < 2 ^ 31)

-- these places are lawful for the label's boxes, in order
abbrev pub LabelPlaces : ℕ → Piece → List Place → Type 0
LabelPlaces registers piece label = (b : ℕ) (p : Place) → slice_get label b ≡ Some p → IsLabelPlace registers piece b p

-- no two places are the same
abbrev pub AreDistinct : List Place → Type 0
AreDistinct ps = (i j : ℕ) (p q : Place) → i < j → slice_get ps i ≡ Some p → slice_get ps j ≡ Some q → p ≢ q

-- one past the greatest frame word, and 16 where there is none
abbrev pub words_used : List Place → ℕ
words_used [] = 16
words_used (In r ∷ ps) = words_used ps
words_used (Word w ∷ ps) = max (w + 1) (words_used ps)

pub record Allocated (piece : Piece) (registers : ℕ) (label : List Place) (places : Places) : Type 0 where
  -- each box has a place
  pub each : length places.at ≡ length (defined_by piece)
  -- a label box has its label place
  pub labels : (b : ℕ) (p : Place) → slice_get label b ≡ Some p → slice_get places.at b ≡ Some p
  -- two boxes that live at one operation have different places
  pub apart : (i j k : ℕ) (p q : Place) → i ≢ j → LivesAt piece i k → LivesAt piece j k → slice_get places.at i ≡ Some p → slice_get places.at j ≡ Some q → p ≢ q
  -- a register is one that its box may have
  pub lawful : (b r : ℕ) → slice_get places.at b ≡ Some (register r) → MayHave registers piece b r
  -- a frame word is one for values
  pub low : (b w : ℕ) → slice_get places.at b ≡ Some (Word w) → 16 ≤ w
  -- a box but a label box has a frame word only where each register that it may have is held, where it begins, by a box of smaller number that lives there
  pub needed : (b w : ℕ) → length label ≤ b → slice_get places.at b ≡ Some (Word w)
      → (r : ℕ) → MayHave registers piece b r → (i : ℕ) × (i < b) × (slice_get places.at i ≡ Some (register r)) × LivesAt piece i (start_of piece b)
  -- one past the greatest frame word
  pub words : places.words ≡ words_used places.at
  -- 16 and the boxes, or one past the greatest label word, are enough
  pub few : places.words ≤ max (16 + length places.at) (words_used label)
