-- The places of an allocation may hold values.
use Rattle.std.proofs.Common.{◌≡◌, ℕ, ◌+◌, ◌≤◌, Some, length, slice_get, arith}
use Rattle.std.specs.Prelude.{max}
use Rattle.trace_ops.specs.Pieces.{defined_by}
use Rattle.target_base.specs.declared.place.Place.{Place}
use Rattle.target_base.specs.declared.place.Place.TheVariants.{In, Word}
use Rattle.linear_scan.specs.Placing.{words_used}
use Rattle.linear_scan.specs.Serving.{HoldsValues, PlacesHoldValues}
use Rattle.linear_scan.proofs.WordLemmas.{word_used}

pub places_hold_values : PlacesHoldValues
places_hold_values piece registers label places all few low = record { hold = hold; apart = all.apart }
  where
    hold : (b : ℕ) (p : Place) → slice_get places.at b ≡ Some p → HoldsValues registers p
    hold b (In r) e = (all.lawful b r.0 e).0
    hold b (Word w) e =
        let used : w + 1 ≤ words_used places.at = word_used places.at b w e in
        let words = all.words in
        let most = all.few in
        let each = all.each in
        (all.low b w e, omega (arith, used, words, most, each, few, low))
