-- An answer makes no instruction.
use Rattle.std.proofs.Common.{◌≡◌, ℕ, Bool, true, false, Option, Some, None, refl, sym, subst, ℤ}
use Rattle.std.specs.Prelude.{nat_le, slice_get}
use Rattle.trace_ops.specs.declared.table.Table.{Table}
use Rattle.trace_ops.specs.declared.table.CallRow.{CallRow}
use Rattle.trace_ops.specs.declared.table.ShapeOf.{ShapeOf}
use Rattle.trace_ops.specs.declared.table.ShapeOf.TheVariants.{Size, Array}
use Rattle.guard_exit.specs.Codes.{register}
use Rattle.trace_meaning.specs.declared.call.Answer.{Answer}
use Rattle.arena_objects.specs.Walk.{shape_of}
use Rattle.arena_objects.specs.Making.{bytes_left}
use Rattle.arena_world.specs.Fitting.{fits_words}
use Rattle.arena_world.specs.Answering.{fresh_bytes}
use Rattle.x64_machine.specs.Words.{unsigned}
use Rattle.x64_machine.specs.State.{State, reg}
use Rattle.image_runs.specs.Session.{Calls, Answered, Resumes, Stops}
use Rattle.session_host.specs.Entries.{Entered, Structure, Items, Function, Nowhere, entered, arg_registers, words_in, stray_in}
use Rattle.session_host.specs.Answering.{bytes_asked, made_if, structure_of, items_of, Passed, refs_of, passed_to, done_if, fitted_if, first_of, unless_stray, function_by, row_of, answer_at}
use Rattle.session_host.specs.Laws.{AnswersAreQuiet}

abbrev MakesNone : State → Answered → Type 0
MakesNone s (Resumes c u) = u.instructions ≡ s.instructions
MakesNone s (Stops c e) = Unit {0}

made_quiet : (b : Bool) (t : Table) (shape : ShapeOf) (n : ℕ) (c : Calls) (s : State) → MakesNone s (made_if b t shape n c s)
made_quiet true t shape n c s = refl
made_quiet false t shape n c s = tt

structure_quiet : (t : Table) (c : Calls) (s : State) (o : Option ShapeOf) → MakesNone s (structure_of t c s o)
structure_quiet t c s (Some (Size n)) = made_quiet (nat_le (bytes_asked t (Size n) 0) (bytes_left s.arena)) t (Size n) 0 c s
structure_quiet t c s (Some (Array n)) = tt
structure_quiet t c s None = tt

items_quiet : (t : Table) (c : Calls) (s : State) (o : Option ShapeOf) → MakesNone s (items_of t c s o)
items_quiet t c s (Some (Array a)) =
    let n = unsigned (reg s (register 6)) in
    made_quiet (nat_le (bytes_asked t (Array a) n) (bytes_left s.arena)) t (Array a) n c s
items_quiet t c s (Some (Size n)) = tt
items_quiet t c s None = tt

done_quiet : (b : Bool) (t : Table) (p : Passed) (a : Answer) (c : Calls) (s : State) → MakesNone s (done_if b t p a c s)
done_quiet true t p a c s = refl
done_quiet false t p a c s = tt

fitted_quiet : (b : Bool) (t : Table) (p : Passed) (a : Answer) (c : Calls) (s : State) → MakesNone s (fitted_if b t p a c s)
fitted_quiet true t p a c s = done_quiet (nat_le (fresh_bytes t a.gives) (bytes_left s.arena)) t p a c s
fitted_quiet false t p a c s = tt

first_quiet : (t : Table) (p : Passed) (c : Calls) (s : State) (o : Option Answer) → MakesNone s (first_of t p c s o)
first_quiet t p c s None = tt
first_quiet t p c s (Some a) = fitted_quiet (fits_words t p.row (refs_of p) s.arena a) t p a c s

stray_quiet : (t : Table) (p : Passed) (c : Calls) (s : State) (o : Option ℤ) → MakesNone s (unless_stray t p c s o)
stray_quiet t p c s (Some w) = tt
stray_quiet t p c s None = first_quiet t p c s (slice_get c.answers 0)

function_quiet : (t : Table) (f : ℕ) (c : Calls) (s : State) (o : Option CallRow) → MakesNone s (function_by t f c s o)
function_quiet t f c s None = tt
function_quiet t f c s (Some row) = stray_quiet t (passed_to f row s) c s (stray_in t s.arena row.args (words_in s row.args arg_registers))

answer_quiet : (t : Table) (e : Entered) (entry : ℕ) (c : Calls) (s : State) → MakesNone s (answer_at t e entry c s)
answer_quiet t Structure entry c s = structure_quiet t c s (shape_of t (Some (reg s (register 7))))
answer_quiet t Items entry c s = items_quiet t c s (shape_of t (Some (reg s (register 7))))
answer_quiet t (Function f) entry c s = function_quiet t f c s (row_of t (reg s (register 10)))
answer_quiet t Nowhere entry c s = tt

pub answers_are_quiet : AnswersAreQuiet
answers_are_quiet set ps arena_bytes entry c d s u answered = subst (MakesNone s) (sym answered.answer) (answer_quiet set.table (entered set.table entry) entry c s)
