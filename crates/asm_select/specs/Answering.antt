-- What the host does at a function's call: it reads the arguments, makes its new object and its stores, and gives a word.
use Rattle.std.specs.Prelude.{◌≡◌, ℕ, ◌+◌, ◌*◌, ◌≤◌, true, IsTrue, ℤ, pos, negsuc, List, [], ◌∷◌, Option, Some, length, map, slice_get, slice_index_or}
use Rattle.trace_ops.specs.declared.code.OpCode.{OpCode}
use Rattle.trace_ops.specs.declared.table.Table.{Table}
use Rattle.trace_ops.specs.declared.table.CallRow.{CallRow}
use Rattle.trace_ops.specs.declared.table.ShapeOf.TheVariants.{Size}
use Rattle.trace_ops.specs.declared.trace.Kind.{Kind}
use Rattle.trace_ops.specs.declared.trace.Kind.TheVariants as kind
use Rattle.trace_ops.specs.declared.trace.BoxId.{BoxId}
use Rattle.trace_ops.specs.declared.trace.Arg.{Arg}
use Rattle.trace_ops.specs.declared.trace.Arg.TheVariants.{Func}
use Rattle.trace_ops.specs.declared.trace.Descr.TheVariants as descr
use Rattle.trace_ops.specs.declared.piece.OptOp.{OptOp}
use Rattle.trace_ops.specs.declared.piece.OptOp.TheVariants as opt
use Rattle.trace_ops.specs.declared.piece.Spot.TheVariants as spot
use Rattle.trace_ops.specs.Classes.{is_call}
use Rattle.trace_ops.specs.InRange.{IsTableInRange}
use Rattle.trace_meaning.specs.declared.value.Value.{Value}
use Rattle.trace_meaning.specs.declared.call.Give.{Give}
use Rattle.trace_meaning.specs.declared.call.Give.TheVariants as give
use Rattle.trace_meaning.specs.declared.call.AnswerStore.{AnswerStore}
use Rattle.trace_meaning.specs.declared.call.Answer.{Answer}
use Rattle.trace_meaning.specs.Answers.{fits}
use Rattle.trace_meaning.specs.Legs.{On}
use Rattle.trace_meaning.specs.Kinds.{ObjectsHold}
use Rattle.trace_meaning.specs.Objects.{zeroed}
use Rattle.trace_meaning.specs.Performing.{event_of}
use Rattle.trace_meaning.specs.Sound.{AnswersWords}
use Rattle.trace_meaning.specs.Values.{kind_of_value, references}
use Rattle.opt_meaning.specs.Step.{Opt, opt_step, opt_values}
use Rattle.target_base.specs.Arena.{Arena, with_arena_word}
use Rattle.arena_objects.specs.Layout.{words_in}
use Rattle.arena_objects.specs.Making.{arena_with}
use Rattle.arena_objects.specs.ReadBack.{value_of, objects_in}
use Rattle.arena_objects.specs.Spots.{spot_offset}
use Rattle.x64_machine.specs.State.{State}
use Rattle.asm_select.specs.Valued.{value}
use Rattle.asm_select.specs.Chosen.{Setting, address_in, arg_places, places_for}
use Rattle.asm_select.specs.Asked.{AtCall, HostLeft, given_by}

-- the words of the arguments, where a call has so many
abbrev pub asked_words : State → List Arg → List ℤ
asked_words u args = map (value u) (places_for args arg_places)

-- those of references, where the arguments are of these kinds
abbrev pub reference_words : List Kind → List ℤ → List ℤ
reference_words [] zs = []
reference_words (k ∷ ks) [] = []
reference_words (kind.Int ∷ ks) (z ∷ zs) = reference_words ks zs
reference_words (kind.Ref ∷ ks) (z ∷ zs) = z ∷ reference_words ks zs

-- the values of the arguments, as the arena tells them
abbrev pub values_read : Table → Arena → List Kind → List ℤ → List Value
values_read t arena [] zs = []
values_read t arena (k ∷ ks) [] = []
values_read t arena (k ∷ ks) (z ∷ zs) = value_of t arena (Some k) z ∷ values_read t arena ks zs

-- the address in a word
abbrev pub address_from : ℤ → ℕ
address_from (pos a) = a
address_from (negsuc a) = 0

-- the word of what is given or stored, where the references have these words and a new object lies at this address
abbrev pub word_given : Table → List ℤ → ℕ → Give → ℤ
word_given t refs fresh give.Nothing = pos 0
word_given t refs fresh (give.Int z) = z
word_given t refs fresh give.Null = pos 0
word_given t refs fresh (give.Arg k) = slice_index_or refs k (pos 0)
word_given t refs fresh (give.Prebuilt k) = pos (address_in t k)
word_given t refs fresh (give.New k) = pos fresh

-- a store into a field of a reference argument; no new object is stored
abbrev pub store_made : Table → List ℤ → AnswerStore → Arena → Arena
store_made t refs s arena =
    with_arena_word (address_from (slice_index_or refs s.arg (pos 0)) + spot_offset t (spot.Field s.field)) (word_given t refs 0 s.value) arena

abbrev pub stores_made : Table → List ℤ → List AnswerStore → Arena → Arena
stores_made t refs [] arena = arena
stores_made t refs (s ∷ rest) arena = stores_made t refs rest (store_made t refs s arena)

-- a new object, if one is given, and its bytes
abbrev pub object_made : Table → Give → Arena → Arena
object_made t (give.New size) arena = arena_with t (Size size) 0 arena
object_made t given arena = arena

abbrev pub bytes_given : Table → Give → ℕ
bytes_given t (give.New size) = 8 * words_in (zeroed t size)
bytes_given t given = 0

-- the new object first, and then the stores in order
abbrev pub answer_made : Table → List ℤ → Answer → Arena → Arena
answer_made t refs a arena = stores_made t refs a.stores (object_made t a.gives arena)

-- a call of function f by row k of the calls
abbrev pub call_of : OpCode → Option BoxId → ℕ → List Arg → ℕ → OptOp
call_of operation r f args k = opt.Plain operation r (Func f ∷ args) (descr.Call k)

-- at a call, the host reads the values of the arguments
abbrev pub ArgumentsAreRead : Type 0
ArgumentsAreRead =
    (c : Setting) (operation : OpCode) (r : Option BoxId) (f k : ℕ) (args : List Arg) (env : Opt) (q : ℕ) (u : State) (row : CallRow) (vs : List Value)
    → IsTrue (is_call operation) → AtCall c (call_of operation r f args k) env q u → opt_values env args ≡ Some vs → map kind_of_value vs ≡ row.args
    → values_read c.table u.arena row.args (asked_words u args) ≡ vs

-- so the event of a call, of which the host reads arguments and objects, is that of the piece
abbrev pub EventsAreShown : Type 0
EventsAreShown =
    (c : Setting) (operation : OpCode) (r : Option BoxId) (f k : ℕ) (args : List Arg) (env : Opt) (q : ℕ) (u : State) (row : CallRow) (vs : List Value) (gives : Option Value)
    → IsTrue (is_call operation) → IsTableInRange c.table → ObjectsHold c.table env.world.objects → AtCall c (call_of operation r f args k) env q u → opt_values env args ≡ Some vs → map kind_of_value vs ≡ row.args
    → event_of c.table row f (values_read c.table u.arena row.args (asked_words u args)) gives (record env.world { objects = objects_in c.table u.arena }) ≡ event_of c.table row f vs gives env.world

-- a call goes on exactly by the first answer that is left, and only where it fits
abbrev pub AnswersAreTaken : Type 0
AnswersAreTaken =
    (c : Setting) (operation : OpCode) (r : Option BoxId) (f k : ℕ) (args : List Arg) (env after : Opt) (row : CallRow) (vs : List Value)
    → IsTrue (is_call operation) → opt_step c.table (call_of operation r f args k) env ≡ On after → slice_get c.table.calls k ≡ Some row → opt_values env args ≡ Some vs
    → (a : Answer) × (slice_get env.world.answers 0 ≡ Some a) × (fits c.table row (references vs) env.world.objects a ≡ true)

-- Where bytes are left for a new object, the host's writes of that answer leave what the code goes on from.
abbrev pub AnswersLeave : Type 0
AnswersLeave =
    (c : Setting) (operation : OpCode) (r : Option BoxId) (f k : ℕ) (args : List Arg) (env after : Opt) (q : ℕ) (u : State) (row : CallRow) (vs : List Value) (a : Answer)
    → IsTrue (is_call operation) → IsTableInRange c.table → AtCall c (call_of operation r f args k) env q u → opt_step c.table (call_of operation r f args k) env ≡ On after
    → slice_get c.table.calls k ≡ Some row → opt_values env args ≡ Some vs → map kind_of_value vs ≡ row.args → slice_get env.world.answers 0 ≡ Some a → AnswersWords a
    → bytes_given c.table a.gives + u.arena.taken ≤ 8 * length u.arena.words
    → HostLeft c.table (given_by (call_of operation r f args k) after) env.world.objects after.world.objects
    (word_given c.table (reference_words row.args (asked_words u args)) (0x10000000 + u.arena.taken) a.gives)
    (answer_made c.table (reference_words row.args (asked_words u args)) a u.arena)
