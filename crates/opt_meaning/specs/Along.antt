-- Values and calls of a piece beside those of its trace, along a map of the piece's objects to recorded ones.
use Rattle.std.specs.Prelude.{◌≡◌, ℕ, ◌≤◌, List, ◌++◌, length, slice_get}
use Rattle.std.specs.List.{AllZip}
use Rattle.trace_meaning.specs.declared.value.Object.{Object}
use Rattle.trace_meaning.specs.World.{Logged}
use Rattle.heap_shape.specs.Sameness.{SameCall}
pub use Rattle.heap_shape.specs.Sameness.{IsOneToOne}

-- the recorded object of each object of the piece, in order; Maps, MapsIf and SameCall are read along slice_get of it

-- one call on both sides, before which the piece had allocated at most as many bytes as the trace
pub record SameLogged (m : List ℕ) (opt rec : Logged) : Type 0 where
  pub event : SameCall (slice_get m) opt.event rec.event
  pub bytes : opt.bytes ≤ rec.bytes

abbrev pub SameLogs : List ℕ → List Logged → List Logged → Type 0
SameLogs m opt rec = AllZip (SameLogged m) opt rec

-- both have had the same calls
pub record SameCalls (prebuilts : ℕ) (rec opt : List Logged) : Type 0 where
  pub mapped : List ℕ
  pub lawful : IsOneToOne prebuilts mapped
  pub calls : SameLogs mapped opt rec

-- the calls of the trace are the first ones of the piece
pub record BeginsCalls (prebuilts : ℕ) (rec opt : List Logged) : Type 0 where
  pub first : List Logged
  pub later : List Logged
  pub splits : opt ≡ first ++ later
  pub same : SameCalls prebuilts rec first

-- the same kind of object
pub record AreAlike (x y : Object) : Type 0 where
  pub of : x.of ≡ y.of
  pub parts : length x.parts ≡ length y.parts
