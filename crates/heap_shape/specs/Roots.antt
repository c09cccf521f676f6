-- The roots of what is seen of a run.
use Rattle.std.specs.Prelude.{ℕ, zero, suc, List, [], ◌∷◌, ◌++◌}
use Rattle.std.specs.Option.{option_to_list}
use Rattle.trace_meaning.specs.declared.value.Value.{Value}
use Rattle.trace_meaning.specs.declared.value.Value.TheVariants as v
use Rattle.trace_meaning.specs.declared.call.CallEvent.{CallEvent}

-- the first objects of the store
abbrev pub prebuilt_objects : ℕ → List Value
prebuilt_objects zero = []
prebuilt_objects (suc n) = prebuilt_objects n ++ v.Obj n ∷ []

-- the arguments, what the host saw of them, and what it gave
abbrev pub roots_of_call : CallEvent → List Value
roots_of_call call = call.args ++ call.seen ++ option_to_list call.gives

abbrev pub roots_of_calls : List CallEvent → List Value
roots_of_calls [] = []
roots_of_calls (call ∷ calls) = roots_of_call call ++ roots_of_calls calls

-- the prebuilt objects, the calls, and the last values: the finish value, or the slots of the frames, outermost first
abbrev pub roots : ℕ → List CallEvent → List Value → List Value
roots prebuilt calls last = prebuilt_objects prebuilt ++ roots_of_calls calls ++ last
