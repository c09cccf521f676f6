-- A world as it is kept: with the number of its prebuilt objects, and with its bytes counted.
use Rattle.std.specs.Prelude.{◌≡◌, ◌++◌, ℕ, ◌*◌, ◌^◌, ◌≤◌, Bool, true, false, List, [], ◌∷◌, Option, Some, None, length, drop, sum_by}
use Rattle.trace_ops.specs.declared.table.Table.{Table}
use Rattle.trace_meaning.specs.declared.value.Object.{Object}
use Rattle.trace_meaning.specs.declared.call.CallEvent.{CallEvent}
use Rattle.trace_meaning.specs.World.{World, Logged, size_of}

pub record Kept : Type 0 where
  pub world : World
  pub prebuilts : ℕ

abbrev pub with_world : Kept → World → Kept
with_world k w = record k { world = w }

-- its objects, and nothing done
abbrev pub alone : World → World
alone w = record { objects = w.objects; answers = []; log = []; failures = 0; overflow = false }

-- the table is the one with these prebuilt objects
abbrev pub IsOf : Table → Kept → Type 0
IsOf t k = k.prebuilts ≡ length t.prebuilts

abbrev pub allocated : ℕ → List Object → ℕ
allocated prebuilts objects = sum_by size_of (drop prebuilts objects)

-- so many bytes, which are not too many to count on
pub record AreCounted (objects : List Object) (prebuilts bytes : ℕ) : Type 0 where
  pub total : bytes ≡ allocated prebuilts objects
  pub before : prebuilts ≤ length objects
  pub small : bytes ≤ length objects * 2 ^ 68

-- calls, and the bytes before each
abbrev pub logged : List CallEvent → List ℕ → List Logged
logged [] bytes = []
logged (e ∷ es) [] = []
logged (e ∷ es) (n ∷ ns) = record { event = e; bytes = n } ∷ logged es ns

-- a write was done, or can't be
abbrev pub IsDone : Kept → Kept → Bool → Option World → Type 0
IsDone old new true (Some w) = new ≡ with_world old w
IsDone old new true None = ⊥
IsDone old new false (Some w) = ⊥
IsDone old new false None = new ≡ old

-- the call stands last among the calls, so many bytes before it
abbrev pub with_event : ℕ → CallEvent → World → World
with_event bytes event w = record w { log = w.log ++ record { event = event; bytes = bytes } ∷ [] }

-- the same, and the call has taken the next answer
abbrev pub with_answered : ℕ → CallEvent → World → World
with_answered bytes event w = record (with_event bytes event w) { answers = drop 1 w.answers }
