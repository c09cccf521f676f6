-- Where a list has boxes, noted by their numbers.
use Rattle.std.specs.Prelude.{◌≡◌, ℕ, ◌<◌, ◌==◌, Bool, List, Option, Some, None, length, slice_get, if◌then◌else◌}
use Rattle.std.specs.List.{position_or_len}
use Rattle.trace_ops.specs.declared.trace.BoxId.{BoxId}
use Rattle.target_base.specs.declared.place.Place.{Place}

abbrev pub has_number : ℕ → BoxId × Place → Bool
has_number n p = p.0.number == n

-- at each number of a box, as far as the list goes, stands the first place of the box
abbrev pub AreNoted : List (BoxId × Place) → List ℕ → Type 0
AreNoted places noted =
    (n : ℕ) → n < length noted → position_or_len (has_number n) places < length places → slice_get noted n ≡ Some (position_or_len (has_number n) places)

-- the entry, where it has this number
abbrev pub entry_if : ℕ → Option (BoxId × Place) → Option (BoxId × Place)
entry_if n None = None
entry_if n (Some p) = if p.0.number == n then Some p else None
