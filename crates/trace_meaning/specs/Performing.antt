-- What an operation does that is no guard, jump or finish.
use Rattle.std.specs.Prelude.{ℕ, Bool, true, false, List, [], ◌∷◌, ◌++◌, Option, Some, None, length, drop, slice_get, ℤ, pos, ◌+ℤ◌, ◌-ℤ◌, ◌*ℤ◌}
use Rattle.std.specs.Option.{option_map}
use Rattle.trace_ops.specs.declared.code.OpCode.{OpCode}
use Rattle.trace_ops.specs.declared.code.OpCode.TheVariants as code
use Rattle.trace_ops.specs.declared.trace.Arg.{Arg}
use Rattle.trace_ops.specs.declared.trace.Arg.TheVariants.{Func}
use Rattle.trace_ops.specs.declared.trace.Descr.{Descr}
use Rattle.trace_ops.specs.declared.trace.Descr.TheVariants as descr
use Rattle.trace_ops.specs.declared.piece.Spot.TheVariants as spot
use Rattle.trace_ops.specs.declared.table.Table.{Table}
use Rattle.trace_ops.specs.declared.table.CallRow.{CallRow}
use Rattle.trace_ops.specs.Words.{wrap, overflows}
use Rattle.trace_meaning.specs.declared.value.Value.{Value}
use Rattle.trace_meaning.specs.declared.value.Value.TheVariants as v
use Rattle.trace_meaning.specs.declared.value.Object.{Object}
use Rattle.trace_meaning.specs.declared.call.CallEvent.{CallEvent}
use Rattle.trace_meaning.specs.declared.call.Answer.{Answer}
use Rattle.trace_meaning.specs.Values.{references}
use Rattle.trace_meaning.specs.World.{World, bytes_in}
use Rattle.trace_meaning.specs.Objects.{read, write, length_at, with_new, zeroed, cleared, index_of}
use Rattle.trace_meaning.specs.Folding.{fold}
use Rattle.trace_meaning.specs.Answers.{seen, fits, value_given, answer_done}

-- an operation has given a value or none, is wrong, or stands at a call without an answer or with one that doesn't fit
pub data Done : Type 0 where
  Gave : (value : Option Value) (after : World) → Done
  Bad : Done
  Waited : (after : World) → Done
  Misfitted : (after : World) → Done

abbrev pub value_done : World → Option Value → Done
value_done w None = Bad
value_done w (Some x) = Gave (Some x) w

abbrev pub write_done : Option World → Done
write_done None = Bad
write_done (Some w) = Gave None w

-- Words that may overflow

-- the word equal to a whole number modulo 2^64, and whether it is another number
abbrev pub wrapped : ℤ → World → Done
wrapped z w = Gave (Some (v.Int (wrap z))) (record w { overflow = overflows z })

abbrev pub overflowing : (ℤ → ℤ → ℤ) → List Value → World → Done
overflowing exact (v.Int a ∷ v.Int b ∷ []) w = wrapped (exact a b) w
overflowing exact _ w = Bad

-- Objects

abbrev pub get_field : Table → Descr → List Value → World → Done
get_field t (descr.Field f) (base ∷ []) w = value_done w (read t (spot.Field f) base w)
get_field t _ _ w = Bad

abbrev pub set_field : Table → Descr → List Value → World → Done
set_field t (descr.Field f) (base ∷ value ∷ []) w = write_done (write t (spot.Field f) base value w)
set_field t _ _ w = Bad

abbrev pub get_item : Table → Descr → List Value → World → Done
get_item t (descr.Array a) (base ∷ v.Int i ∷ []) w = value_done w (read t (spot.Item a i) base w)
get_item t _ _ w = Bad

abbrev pub set_item : Table → Descr → List Value → World → Done
set_item t (descr.Array a) (base ∷ v.Int i ∷ value ∷ []) w = write_done (write t (spot.Item a i) base value w)
set_item t _ _ w = Bad

abbrev pub get_length : Descr → List Value → World → Done
get_length (descr.Array a) (base ∷ []) w = value_done w (option_map (λ n. v.Int (pos n)) (length_at a base w))
get_length _ _ w = Bad

-- the new object has the next number
abbrev pub made : Object → World → Done
made o w = Gave (Some (v.Obj (length w.objects))) (with_new o w)

abbrev pub make_structure : Table → Descr → World → Done
make_structure t (descr.Size s) w = made (zeroed t s) w
make_structure t _ w = Bad

abbrev pub make_items : Table → ℕ → Option ℕ → World → Done
make_items t array None w = Bad
make_items t array (Some n) w = made (cleared t array n) w

abbrev pub make_array : Table → Descr → List Value → World → Done
make_array t (descr.Array a) (v.Int z ∷ []) w = make_items t a (index_of z) w
make_array t _ _ w = Bad

-- Calls

abbrev pub event_of : Table → CallRow → ℕ → List Value → Option Value → World → CallEvent
event_of t row function vs gives w = record { function = function; args = vs; seen = seen t row vs w; gives = gives }

-- the call stands last among the calls
abbrev pub with_call : Table → CallEvent → World → World
with_call t event w = record w { log = w.log ++ record { event = event; bytes = bytes_in t w } ∷ [] }

-- what is given is in the event; what the host sees is what stood there before its stores
abbrev pub answered : Table → CallRow → ℕ → List Value → Answer → List Answer → World → Done
answered t row function vs a rest w =
    let gives = value_given (references vs) (length w.objects) a.gives in
    Gave gives (answer_done t (references vs) a (record (with_call t (event_of t row function vs gives w) w) { answers = rest }))

-- an answer that doesn't fit isn't used
abbrev pub answered_if : Bool → Table → CallRow → ℕ → List Value → Answer → List Answer → World → Done
answered_if true t row function vs a rest w = answered t row function vs a rest w
answered_if false t row function vs a rest w = Misfitted (with_call t (event_of t row function vs None w) w)

-- a call takes the first answer that is left
abbrev pub called_first : Table → CallRow → ℕ → List Value → Option Answer → List Answer → World → Done
called_first t row function vs None rest w = Waited (with_call t (event_of t row function vs None w) w)
called_first t row function vs (Some a) rest w = answered_if (fits t row (references vs) w.objects a) t row function vs a rest w

abbrev pub called : Table → CallRow → ℕ → List Value → World → Done
called t row function vs w = called_first t row function vs (slice_get w.answers 0) (drop 1 w.answers) w

abbrev pub call_row : Table → Option CallRow → ℕ → List Value → World → Done
call_row t None function vs w = Bad
call_row t (Some row) function vs w = called t row function vs w

-- the function that is called
abbrev pub function_in : List Arg → Option ℕ
function_in (Func function ∷ rest) = Some function
function_in _ = None

abbrev pub call_function : Table → ℕ → Option ℕ → List Value → World → Done
call_function t k None vs w = Bad
call_function t k (Some function) vs w = call_row t (slice_get t.calls k) function vs w

abbrev pub call : Table → Descr → List Arg → List Value → World → Done
call t (descr.Call k) args vs w = call_function t k (function_in args) vs w
call t _ args vs w = Bad

-- An operation, from the values of those arguments that have one

abbrev pub perform : Table → OpCode → Descr → List Arg → List Value → World → Done
perform t code.IntAddOvf d args vs w = overflowing (λ a b. a +ℤ b) vs w
perform t code.IntSubOvf d args vs w = overflowing (λ a b. a -ℤ b) vs w
perform t code.IntMulOvf d args vs w = overflowing (λ a b. a *ℤ b) vs w
perform t code.GetfieldGcI d args vs w = get_field t d vs w
perform t code.GetfieldGcR d args vs w = get_field t d vs w
perform t code.SetfieldGc d args vs w = set_field t d vs w
perform t code.GetarrayitemGcI d args vs w = get_item t d vs w
perform t code.GetarrayitemGcR d args vs w = get_item t d vs w
perform t code.SetarrayitemGc d args vs w = set_item t d vs w
perform t code.ArraylenGc d args vs w = get_length d vs w
perform t code.New d args vs w = make_structure t d w
perform t code.NewWithVtable d args vs w = make_structure t d w
perform t code.NewArrayClear d args vs w = make_array t d vs w
perform t code.CallI d args vs w = call t d args vs w
perform t code.CallR d args vs w = call t d args vs w
perform t code.CallN d args vs w = call t d args vs w
perform t operation d args vs w = value_done w (fold operation vs)
