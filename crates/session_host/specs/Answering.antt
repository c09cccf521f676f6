-- What the host answers to a call, over the words of registers and arena.
use Rattle.std.specs.Prelude.{ℕ, ◌+◌, ◌-◌, ◌^◌, ◌≡◌, Bool, true, false, nat_le, min, ℤ, pos, List, [], ◌∷◌, ◌++◌, Option, Some, None, length, drop, slice_get}
use Rattle.std.specs.List.{flat_map}
use Rattle.trace_ops.specs.declared.table.Table.{Table}
use Rattle.trace_ops.specs.declared.table.CallRow.{CallRow}
use Rattle.trace_ops.specs.declared.table.ShapeOf.{ShapeOf}
use Rattle.trace_ops.specs.declared.table.ShapeOf.TheVariants.{Size, Array}
use Rattle.target_base.specs.Arena.{Arena}
use Rattle.guard_exit.specs.Codes.{register}
use Rattle.trace_meaning.specs.declared.value.Value.{Value}
use Rattle.trace_meaning.specs.declared.value.Value.TheVariants as v
use Rattle.trace_meaning.specs.declared.call.Give.{Give}
use Rattle.trace_meaning.specs.declared.call.Give.TheVariants as give
use Rattle.trace_meaning.specs.declared.call.Answer.{Answer}
use Rattle.trace_meaning.specs.declared.call.CallEvent.{CallEvent}
use Rattle.trace_meaning.specs.Answers.{seen_of}
use Rattle.trace_meaning.specs.Objects.{fields_of}
use Rattle.trace_meaning.specs.Sound.{AnswersWords}
use Rattle.trace_meaning.specs.Values.{references}
use Rattle.arena_objects.specs.Layout.{bytes_for}
use Rattle.arena_objects.specs.Making.{bytes_left, arena_with}
use Rattle.arena_objects.specs.ReadBack.{reference_to, objects_in}
use Rattle.arena_objects.specs.Walk.{object_at, shape_of}
use Rattle.arena_world.specs.Fitting.{fits_words}
use Rattle.arena_world.specs.Answering.{fresh_bytes, answered_arena, answered_word}
use Rattle.asm_select.specs.Chosen.{entry_of}
use Rattle.asm_select.specs.Answering.{reference_words, values_read}
use Rattle.x64_machine.specs.Words.{unsigned}
use Rattle.x64_machine.specs.State.{State, reg}
use Rattle.image_runs.specs.Session.{Calls, Answered, Resumes, Stops, Full, Waiting, Misfitting, Lost}
use Rattle.session_host.specs.Entries.{Entered, Structure, Items, Function, Nowhere, entered, arg_registers, words_in, stray_in, gives_back}

-- ---- new objects

-- one part per field of a size, or as many items as are asked for
abbrev pub parts_for : Table → ShapeOf → ℕ → ℕ
parts_for t (Size s) n = length (fields_of t s)
parts_for t (Array a) n = n

abbrev pub bytes_asked : Table → ShapeOf → ℕ → ℕ
bytes_asked t shape n = bytes_for shape (parts_for t shape n)

-- so many bytes are over those that are left
abbrev pub full_by : ℕ → Calls → State → Answered
full_by bytes c s = Stops c (Full (min bytes (2 ^ 64 - 1)) (bytes_left s.arena))

abbrev pub made_if : Bool → Table → ShapeOf → ℕ → Calls → State → Answered
made_if true t shape n c s = Resumes c (gives_back (pos (0x10000000 + s.arena.taken)) (arena_with t shape n s.arena) s)
made_if false t shape n c s = full_by (bytes_asked t shape n) c s

-- a zeroed object behind the others, whose address is given, where its bytes are left
abbrev pub made : Table → ShapeOf → ℕ → Calls → State → Answered
made t shape n c s = made_if (nat_le (bytes_asked t shape n) (bytes_left s.arena)) t shape n c s

-- a number was handed over that names nothing of the wanted form
abbrev pub lost_by : ℤ → Calls → Answered
lost_by w c = Stops c (Lost (unsigned w))

-- the header number is that of a size
abbrev pub structure_of : Table → Calls → State → Option ShapeOf → Answered
structure_of t c s (Some (Size n)) = made t (Size n) 0 c s
structure_of t c s (Some (Array n)) = lost_by (reg s (register 7)) c
structure_of t c s None = lost_by (reg s (register 7)) c

-- or that of an array, whose length is read unsigned
abbrev pub items_of : Table → Calls → State → Option ShapeOf → Answered
items_of t c s (Some (Array a)) = made t (Array a) (unsigned (reg s (register 6))) c s
items_of t c s (Some (Size n)) = lost_by (reg s (register 7)) c
items_of t c s None = lost_by (reg s (register 7)) c

-- ---- functions

-- what a call passes: the function, the row, and the words of its arguments
pub record Passed : Type 0 where
  pub function : ℕ
  pub row : CallRow
  pub words : List ℤ

abbrev pub refs_of : Passed → List ℤ
refs_of p = reference_words p.row.args p.words

abbrev pub values_of : Table → Arena → Passed → List Value
values_of t arena p = values_read t arena p.row.args p.words

-- what shows of a call: what it passes, and of each object that it passes the fields that the row reads, before the answer
abbrev pub event_in : Table → Arena → Passed → Option Value → CallEvent
event_in t arena p gives = record {
  function = p.function;
  args = values_of t arena p;
  seen = flat_map (seen_of t (objects_in t arena) p.row.reads) (references (values_of t arena p));
  gives = gives;
}

-- the value that is given, by the references that were passed; a new object is read by its address from the arena after the answer
abbrev pub given_in : Table → Arena → List Value → ℤ → Give → Option Value
given_in t after refs fresh give.Nothing = None
given_in t after refs fresh (give.Int z) = Some (v.Int z)
given_in t after refs fresh give.Null = Some v.Null
given_in t after refs fresh (give.Arg k) = slice_get refs k
given_in t after refs fresh (give.Prebuilt k) = Some (v.Obj k)
given_in t after refs fresh (give.New k) = Some (reference_to (object_at t after fresh))

abbrev pub with_event : CallEvent → Calls → Calls
with_event event c = record c { log = c.log ++ event ∷ [] }

-- the answer is done: the call is logged with what it gave, and the answer is used
abbrev pub done_by : Table → Passed → Answer → Calls → State → Answered
done_by t p a c s =
    let after = answered_arena t (refs_of p) a s.arena in
    let word = answered_word t (refs_of p) a s.arena in
    let gives = given_in t after (references (values_of t s.arena p)) (pos (0x10000000 + s.arena.taken)) a.gives in
    Resumes (record (with_event (event_in t s.arena p gives) c) { answers = drop 1 c.answers }) (gives_back word after s)

abbrev pub done_if : Bool → Table → Passed → Answer → Calls → State → Answered
done_if true t p a c s = done_by t p a c s
done_if false t p a c s = full_by (fresh_bytes t a.gives) c s

-- an answer that doesn't fit isn't used; one that does needs the bytes of its new object
abbrev pub fitted_if : Bool → Table → Passed → Answer → Calls → State → Answered
fitted_if true t p a c s = done_if (nat_le (fresh_bytes t a.gives) (bytes_left s.arena)) t p a c s
fitted_if false t p a c s = Stops (with_event (event_in t s.arena p None) c) (Misfitting (length c.log))

-- the first answer that is left
abbrev pub first_of : Table → Passed → Calls → State → Option Answer → Answered
first_of t p c s None = Stops (with_event (event_in t s.arena p None) c) Waiting
first_of t p c s (Some a) = fitted_if (fits_words t p.row (refs_of p) s.arena a) t p a c s

-- unless a word that is to be a reference is none
abbrev pub unless_stray : Table → Passed → Calls → State → Option ℤ → Answered
unless_stray t p c s (Some w) = lost_by w c
unless_stray t p c s None = first_of t p c s (slice_get c.answers 0)

abbrev pub passed_to : ℕ → CallRow → State → Passed
passed_to f row s = record { function = f; row = row; words = words_in s row.args arg_registers }

abbrev pub function_by : Table → ℕ → Calls → State → Option CallRow → Answered
function_by t f c s None = lost_by (reg s (register 10)) c
function_by t f c s (Some row) = unless_stray t (passed_to f row s) c s (stray_in t s.arena row.args (words_in s row.args arg_registers))

-- the row of a call by its number, which is no number below 0
abbrev pub row_of : Table → ℤ → Option CallRow
row_of t (pos k) = slice_get t.calls k
row_of t w = None

-- ---- each entry

abbrev pub answer_at : Table → Entered → ℕ → Calls → State → Answered
answer_at t Structure entry c s = structure_of t c s (shape_of t (Some (reg s (register 7))))
answer_at t Items entry c s = items_of t c s (shape_of t (Some (reg s (register 7))))
answer_at t (Function f) entry c s = function_by t f c s (row_of t (reg s (register 10)))
answer_at t Nowhere entry c s = Stops c (Lost (entry_of entry))

-- what the host answers to a call of an entry
abbrev pub answer_of : Table → ℕ → Calls → State → Answered
answer_of t entry c s = answer_at t (entered t entry) entry c s

-- the integers of the first answer that is left are words
abbrev pub FirstHasWords : List Answer → Type 0
FirstHasWords answers = (a : Answer) → slice_get answers 0 ≡ Some a → AnswersWords a

-- the host answers so; an answer whose integers aren't words is none
pub record IsAnswered (t : Table) (entry : ℕ) (c : Calls) (s : State) (o : Answered) : Type 0 where
  pub words : FirstHasWords c.answers
  pub answer : o ≡ answer_of t entry c s
