-- The inputs and answers of a start, word by word.
use Rattle.std.specs.Prelude.{◌≡◌, ℕ, Bool, true, false, ◌||◌, is_none, Option, Some, None, List, [], ◌∷◌, ◌++◌, codes, if◌then◌else◌}
use Rattle.std.specs.Str.{bytes_eq}
use Rattle.text_lines.specs.Words.{is_name}
use Rattle.lists.specs.Binds.{◌>>=◌}
use Rattle.trace_meaning.specs.declared.value.Value.{Value}
use Rattle.trace_meaning.specs.declared.call.Give.{Give}
use Rattle.trace_meaning.specs.declared.call.Give.TheVariants as give
use Rattle.session_text.specs.declared.start.Place.{Place}
use Rattle.session_text.specs.declared.start.Place.TheVariants as place
use Rattle.session_text.specs.declared.start.Start.{Start}
use Rattle.session_text.specs.Names.{Names, look}
use Rattle.session_text.specs.Words.{object_of, value_of, give_if, given_of, target_of}

-- what a step left, where it went on
abbrev pub Moved : Bool → Start → Option Start → Type 0
Moved true start read = read ≡ Some start
Moved false start read = read ≡ None

abbrev pub begin : Start
begin = record { place = place.First; lacks = false; inputs = []; answers = []; gives = give.Nothing; stores = []; arg = 0; field = 0 }

abbrev pub go : Start → Place → Start
go s p = record s { place = p }

abbrev pub expect : Start → List ℕ → Place → List ℕ → Option Start
expect s mark p w = if bytes_eq w mark then Some (go s p) else None

-- ---- inputs

-- a name of no prebuilt object gives no input
abbrev pub input_found : Start → Option Value → Start
input_found s None = record s { lacks = true; place = place.Behind }
input_found s (Some v) = record s { inputs = s.inputs ++ v ∷ []; place = place.Behind }

abbrev pub input_by : Start → Option (Option Value) → Option Start
input_by s None = None
input_by s (Some o) = Some (input_found s o)

abbrev pub input_step : Names → Start → List ℕ → Option Start
input_step names s w = input_by s (value_of names w)

abbrev pub first_step : Names → Start → List ℕ → Option Start
first_step names s w = if bytes_eq w (codes ")") then Some (go s place.Closed) else input_step names s w

abbrev pub behind_step : Start → List ℕ → Option Start
behind_step s w = if bytes_eq w (codes ",") then Some (go s place.Input) else expect s (codes ")") place.Closed w

-- ---- answers

abbrev pub give_or : Give → Option Give → Give
give_or g None = g
give_or g (Some x) = x

abbrev pub gives_found : Start → Option Give → Start
gives_found s o = record s { gives = give_or s.gives o; lacks = s.lacks || is_none o; place = place.Given }

abbrev pub gives : Start → Option (Option Give) → Option Start
gives s None = None
gives s (Some o) = Some (gives_found s o)

abbrev pub answer_step : Names → Start → List ℕ → Option Start
answer_step names s w = if bytes_eq w (codes "none") then Some (gives_found s (Some give.Nothing)) else if bytes_eq w (codes "new") then Some (go s place.New) else gives s (given_of names w)

abbrev pub first_answer_step : Names → Start → List ℕ → Option Start
first_answer_step names s w = if bytes_eq w (codes ")") then Some (go s place.Ended) else answer_step names s w

-- the open answer with its stores
abbrev pub pushed : Start → Place → Start
pushed s p = record s { answers = s.answers ++ record { gives = s.gives; stores = s.stores } ∷ []; stores = []; place = p }

abbrev pub end_step : Start → List ℕ → Option Start
end_step s w = if bytes_eq w (codes ";") then Some (pushed s place.Answer) else if bytes_eq w (codes ")") then Some (pushed s place.Ended) else None

abbrev pub given_step : Start → List ℕ → Option Start
given_step s w = if bytes_eq w (codes "{") then Some (go s place.Store) else end_step s w

abbrev pub size_found : Option ℕ → Option Give
size_found None = None
size_found (Some k) = Some (give.New k)

-- behind new: a size, or else new was the name of a prebuilt object
abbrev pub new_step : Names → Start → List ℕ → Option Start
new_step names s w = if is_name w then Some (gives_found s (size_found (look w names.sizes))) else given_step (gives_found s (give_if (object_of (look (codes "new") names.prebuilts)))) w

-- ---- stores

abbrev pub field_or : ℕ → Option ℕ → ℕ
field_or f None = f
field_or f (Some x) = x

abbrev pub targeted : Start → ℕ × Option ℕ → Start
targeted s t = record s { arg = t.0; field = field_or s.field t.1; lacks = s.lacks || is_none t.1; place = place.Equals }

abbrev pub store_by : Start → Option (ℕ × Option ℕ) → Option Start
store_by s None = None
store_by s (Some t) = Some (targeted s t)

abbrev pub store_step : Names → Start → List ℕ → Option Start
store_step names s w = store_by s (target_of names w)

abbrev pub store_found : Start → Option Give → Start
store_found s None = record s { lacks = true; place = place.StoreEnd }
store_found s (Some v) = record s { stores = s.stores ++ record { arg = s.arg; field = s.field; value = v } ∷ []; place = place.StoreEnd }

abbrev pub stored_by : Start → Option (Option Give) → Option Start
stored_by s None = None
stored_by s (Some o) = Some (store_found s o)

abbrev pub stored_step : Names → Start → List ℕ → Option Start
stored_step names s w = stored_by s (given_of names w)

abbrev pub store_end_step : Start → List ℕ → Option Start
store_end_step s w = if bytes_eq w (codes ",") then Some (go s place.Store) else expect s (codes "}") place.Braced w

-- ---- a word, and all words

abbrev pub step_at : Names → Place → Start → List ℕ → Option Start
step_at names place.First s w = first_step names s w
step_at names place.Input s w = input_step names s w
step_at names place.Behind s w = behind_step s w
step_at names place.Closed s w = expect s (codes "answers") place.Answers w
step_at names place.Answers s w = expect s (codes "(") place.FirstAnswer w
step_at names place.FirstAnswer s w = first_answer_step names s w
step_at names place.Answer s w = answer_step names s w
step_at names place.New s w = new_step names s w
step_at names place.Given s w = given_step s w
step_at names place.Store s w = store_step names s w
step_at names place.Equals s w = expect s (codes "=") place.Stored w
step_at names place.Stored s w = stored_step names s w
step_at names place.StoreEnd s w = store_end_step s w
step_at names place.Braced s w = end_step s w
step_at names place.Ended s w = None

abbrev pub step : Names → Start → List ℕ → Option Start
step names s w = step_at names s.place s w

unfoldable pub run : Names → Start → List (List ℕ) → Option Start
run names s [] = Some s
run names s (w ∷ ws) = step names s w >>= λ m. run names m ws

abbrev pub is_done : Place → Bool
is_done place.Closed = true
is_done place.Ended = true
is_done p = false

abbrev pub done : Start → Option Start
done s = if is_done s.place then Some s else None

-- all words behind the first bracket
unfoldable pub start_at : Names → List (List ℕ) → Option Start
start_at names ws = run names begin ws >>= done
