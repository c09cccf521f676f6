-- The arena and the world do the same.
use Rattle.std.specs.Prelude.{◌≡◌, ℕ, ◌+◌, ◌*◌, ◌^◌, ◌<◌, ◌≤◌, true, ℤ, pos, List, ◌++◌, Option, Some, length, map, replicate, sum_by}
use Rattle.std.specs.List.{All}
use Rattle.trace_ops.specs.Words.{IsWord}
use Rattle.trace_ops.specs.declared.table.Table.{Table}
use Rattle.trace_ops.specs.declared.table.CallRow.{CallRow}
use Rattle.trace_ops.specs.InRange.{IsTableInRange, prebuilt_bytes}
use Rattle.trace_meaning.specs.declared.value.Value.{Value}
use Rattle.trace_meaning.specs.declared.value.Object.{Object}
use Rattle.trace_meaning.specs.declared.call.Answer.{Answer}
use Rattle.trace_meaning.specs.Kinds.{ObjectsHold}
use Rattle.trace_meaning.specs.Sound.{AnswersWords}
use Rattle.trace_meaning.specs.Values.{is_reference}
use Rattle.trace_meaning.specs.World.{World}
use Rattle.trace_meaning.specs.Answers.{fits, value_given, answer_done}
use Rattle.trace_meaning.specs.Recorded.{first_world}
use Rattle.target_base.specs.Arena.{Arena}
use Rattle.arena_objects.specs.Layout.{address_of, word_of}
use Rattle.arena_objects.specs.Standing.{IsPart, Stands}
use Rattle.arena_objects.specs.Making.{bytes_left}
use Rattle.arena_objects.specs.ReadBack.{objects_in}
use Rattle.arena_objects.specs.Starting.{first_words, HasWordInitials}
use Rattle.arena_world.specs.Prebuilt.{HasPrebuilts}
use Rattle.arena_world.specs.Fitting.{fits_words}
use Rattle.arena_world.specs.Answering.{fresh_bytes, answered_arena, answered_word}

-- ---- the view

-- what stands is read back
abbrev pub StoreIsReadBack : Type 0
StoreIsReadBack = (t : Table) (objects : List Object) (arena : Arena) → IsTableInRange t → Stands t objects arena → ObjectsHold t objects → objects_in t arena ≡ objects

-- ---- the first arena

-- with zeros behind them, the words of the prebuilt objects stand for the objects with which each recorded run begins
abbrev pub FirstWorldStands : Type 0
FirstWorldStands =
    (t : Table) (answers : List Answer) (left : ℕ)
    → IsTableInRange t → HasWordInitials t → length (first_words t) + left ≤ 2 ^ 21
    → Stands t (first_world t answers).objects (record { words = first_words t ++ replicate left (pos 0); taken = 8 * length (first_words t) })
    × HasPrebuilts t (first_world t answers).objects

-- they are the bytes that a table's limit counts
abbrev pub FirstBytes : Type 0
FirstBytes = (t : Table) → 8 * length (first_words t) ≡ sum_by prebuilt_bytes t.prebuilts

-- ---- answers

-- the words of references
abbrev pub words_of_refs : List Object → List Value → List ℤ
words_of_refs objects refs = map (word_of (address_of objects)) refs

-- null or an object that is there
abbrev pub IsOne : ℕ → Value → Type 0
IsOne objects x = (is_reference x ≡ true) × IsPart objects x

abbrev pub AreReferences : ℕ → List Value → Type 0
AreReferences objects refs = All (IsOne objects) refs

-- an answer fits the words exactly where it fits the references
abbrev pub FitsAlike : Type 0
FitsAlike =
    (t : Table) (row : CallRow) (refs : List Value) (objects : List Object) (arena : Arena) (a : Answer)
    → IsTableInRange t → Stands t objects arena → HasPrebuilts t objects → AreReferences (length objects) refs
    → fits_words t row (words_of_refs objects refs) arena a ≡ fits t row refs objects a

-- What an answer leaves: the objects after it stand, none is lost or moved, and its word is that of what is given.
pub record IsAnswered (t : Table) (given : Option Value) (old new : List Object) (z : ℤ) (arena : Arena) : Type 0 where
  pub word : IsWord z
  pub stands : Stands t new arena
  pub prebuilts : HasPrebuilts t new
  pub more : length old ≤ length new
  pub addresses : (n : ℕ) → n < length old → address_of new n ≡ address_of old n
  pub result : (x : Value) → given ≡ Some x → z ≡ word_of (address_of new) x
  pub part : (x : Value) → given ≡ Some x → IsPart (length new) x

-- a fitting answer for whose new object there is room does in the arena what it does in the world
abbrev pub AnswersAlike : Type 0
AnswersAlike =
    (t : Table) (row : CallRow) (refs : List Value) (w : World) (arena : Arena) (a : Answer)
    → IsTableInRange t → Stands t w.objects arena → HasPrebuilts t w.objects → AreReferences (length w.objects) refs → AnswersWords a
    → fits t row refs w.objects a ≡ true → fresh_bytes t a.gives ≤ bytes_left arena
    → IsAnswered t (value_given refs (length w.objects) a.gives) w.objects (answer_done t refs a w).objects
    (answered_word t (words_of_refs w.objects refs) a arena) (answered_arena t (words_of_refs w.objects refs) a arena)
