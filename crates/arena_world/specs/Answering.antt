-- What an answer does in the words of an arena, and when it is refused.
use Rattle.std.specs.Prelude.{◌≡◌, ℕ, ◌+◌, ◌*◌, ◌-◌, ◌^◌, ◌<◌, ◌≤◌, true, false, ℤ, pos, negsuc, List, [], ◌∷◌, Option, Some, None, Result, Ok, Err, length, min, slice_get, is_some, if◌then◌else◌}
use Rattle.std.specs.Option.{option_map}
use Rattle.trace_ops.specs.declared.table.Table.{Table}
use Rattle.trace_ops.specs.declared.table.ShapeOf.TheVariants.{Size}
use Rattle.trace_ops.specs.declared.table.FieldRow.{FieldRow}
use Rattle.trace_ops.specs.declared.table.CallRow.{CallRow}
use Rattle.trace_meaning.specs.declared.call.Give.{Give}
use Rattle.trace_meaning.specs.declared.call.Give.TheVariants as give
use Rattle.trace_meaning.specs.declared.call.AnswerStore.{AnswerStore}
use Rattle.trace_meaning.specs.declared.call.Answer.{Answer}
use Rattle.trace_meaning.specs.Objects.{fields_of, field_place}
use Rattle.target_base.specs.Arena.{Arena, arena_word, with_arena_word}
use Rattle.arena_objects.specs.Layout.{bytes_for, part_offset}
use Rattle.arena_objects.specs.Making.{bytes_left, arena_with}
use Rattle.arena_objects.specs.declared.making.Full.{Full as TooFew}
use Rattle.arena_world.specs.declared.answering.Refused.{Refused}
use Rattle.arena_world.specs.declared.answering.Refused.TheVariants.{Misfit, Full}
use Rattle.arena_world.specs.Prebuilt.{prebuilt_addresses, word_at}
use Rattle.arena_world.specs.Fitting.{fits_words}

-- ---- what is given

-- the word of what is given, by the addresses of prebuilt objects, the references among the arguments and the address of
-- the new object; 0 where nothing is given
abbrev pub given_word : List ℤ → List ℤ → ℤ → Give → ℤ
given_word prebuilts refs fresh give.Nothing = pos 0
given_word prebuilts refs fresh (give.Int z) = z
given_word prebuilts refs fresh give.Null = pos 0
given_word prebuilts refs fresh (give.Arg k) = word_at refs k
given_word prebuilts refs fresh (give.Prebuilt k) = word_at prebuilts k
given_word prebuilts refs fresh (give.New k) = fresh

-- ---- stores

-- how far behind the address of its object a field lies, where its size lists it
abbrev pub field_offset : Table → ℕ → Option FieldRow → Option ℕ
field_offset t f None = None
field_offset t f (Some row) = option_map (part_offset (Size row.size)) (field_place t (Size row.size) f)

-- where a word lies there, it is written
abbrev pub put_word : ℕ → ℤ → Arena → Arena
put_word a w arena = if is_some (arena_word arena a) then with_arena_word a w arena else arena

abbrev pub put_behind : ℤ → ℕ → ℤ → Arena → Arena
put_behind (pos a) offset w arena = put_word (a + offset) w arena
put_behind (negsuc n) offset w arena = arena

abbrev pub put_in_field : Option ℕ → ℤ → ℤ → Arena → Arena
put_in_field None base w arena = arena
put_in_field (Some offset) base w arena = put_behind base offset w arena

abbrev pub store_put : Table → List ℤ → AnswerStore → Arena → Arena
store_put t refs s arena = put_in_field (field_offset t s.field (slice_get t.fields s.field)) (word_at refs s.arg) (given_word (prebuilt_addresses t) refs (pos 0) s.value) arena

-- in order
abbrev pub stores_put : Table → List ℤ → List AnswerStore → Arena → Arena
stores_put t refs [] arena = arena
stores_put t refs (s ∷ rest) arena = stores_put t refs rest (store_put t refs s arena)

-- ---- a new object

-- the bytes of the new object, if one is given
abbrev pub fresh_bytes : Table → Give → ℕ
fresh_bytes t (give.New k) = bytes_for (Size k) (length (fields_of t k))
fresh_bytes t _ = 0

-- the arena with it
abbrev pub with_fresh_words : Table → Give → Arena → Arena
with_fresh_words t (give.New k) arena = arena_with t (Size k) 0 arena
with_fresh_words t _ arena = arena

-- ---- the answer

-- the new object is made, then the stores are done
abbrev pub answered_arena : Table → List ℤ → Answer → Arena → Arena
answered_arena t refs a arena = stores_put t refs a.stores (with_fresh_words t a.gives arena)

abbrev pub answered_word : Table → List ℤ → Answer → Arena → ℤ
answered_word t refs a arena = given_word (prebuilt_addresses t) refs (pos (0x10000000 + arena.taken)) a.gives

-- a new object is of a size of the table
abbrev pub IsOfSize : Table → Give → Type 0
IsOfSize t (give.New k) = k < length t.sizes
IsOfSize t _ = Unit {0}

-- it is done, where there is room for the new object
pub record IsDone (t : Table) (refs : List ℤ) (a : Answer) (old new : Arena) (w : ℤ) : Type 0 where
  pub room : fresh_bytes t a.gives ≤ bytes_left old
  pub word : w ≡ answered_word t refs a old
  pub arena : new ≡ answered_arena t refs a old

-- the bytes of its new object are over those that are left, and nothing changes
pub record IsOver (t : Table) (a : Answer) (old new : Arena) (f : TooFew) : Type 0 where
  pub over : bytes_left old < fresh_bytes t a.gives
  pub full : f ≡ record { asked = min (fresh_bytes t a.gives) (2 ^ 64 - 1); left = bytes_left old }
  pub arena : new ≡ old

abbrev pub Goes : Table → List ℤ → Answer → Arena → Arena → Result ℤ TooFew → Type 0
Goes t refs a old new (Ok w) = IsDone t refs a old new w
Goes t refs a old new (Err f) = IsOver t a old new f

-- What comes of an answer: it is done where it fits and there is room; where it doesn't fit, nothing changes.
abbrev pub Comes : Table → CallRow → List ℤ → Answer → Arena → Arena → Result ℤ Refused → Type 0
Comes t row refs a old new (Ok w) = (fits_words t row refs old a ≡ true) × IsDone t refs a old new w
Comes t row refs a old new (Err Misfit) = (fits_words t row refs old a ≡ false) × (new ≡ old)
Comes t row refs a old new (Err (Full f)) = (fits_words t row refs old a ≡ true) × IsOver t a old new f
