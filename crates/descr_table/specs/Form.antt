-- The forms of the lines of a table, read from their words.
use Rattle.std.specs.Prelude.{ℕ, true, false, Option, Some, None, List, [], ◌∷◌, codes, if◌then◌else◌}
use Rattle.std.specs.Str.{bytes_eq}
use Rattle.lists.specs.Binds.{◌>>=◌}
use Rattle.text_lines.specs.Reading.{word_at, name_at, key_at, ended}
use Rattle.trace_ops.specs.declared.trace.Kind.{Kind}
use Rattle.descr_table.specs.declared.form.Form.{Form}
use Rattle.descr_table.specs.declared.form.Form.TheVariants.{Size, Field, Array, Call, Function, Object, Items}
use Rattle.descr_table.specs.Words.{kind_at, result_at, kinds_of, reads_of, writes_of, parts_at, array_of}

-- behind a size's name: nothing, or vtable NAME
abbrev pub size_rest : List ℕ → List (List ℕ) → Option Form
size_rest name [] = Some (Size name None)
size_rest name (w ∷ ws) = do
  rest ← key_at (codes "vtable") (w ∷ ws)
  vtable ← name_at rest
  ended (Size name (Some vtable.0)) vtable.1

-- NAME, or NAME vtable NAME
unfoldable pub size_at : List (List ℕ) → Option Form
size_at ws = do
  name ← name_at ws
  size_rest name.0 name.1

-- behind a field's kind: nothing, or immutable
abbrev pub field_rest : List ℕ → List ℕ → Kind → List (List ℕ) → Option Form
field_rest name size kind [] = Some (Field name size kind false)
field_rest name size kind (w ∷ ws) = do
  rest ← key_at (codes "immutable") (w ∷ ws)
  ended (Field name size kind true) rest

-- NAME of SIZE K, or NAME of SIZE K immutable
unfoldable pub field_at : List (List ℕ) → Option Form
field_at ws = do
  name ← name_at ws
  rest ← key_at (codes "of") name.1
  size ← name_at rest
  kind ← kind_at size.1
  field_rest name.0 size.0 kind.0 kind.1

-- NAME K
unfoldable pub array_at : List (List ℕ) → Option Form
array_at ws = do
  name ← name_at ws
  kind ← kind_at name.1
  ended (Array name.0 kind.0) kind.1

-- NAME args KINDS result K, then reads F F, then writes F F
unfoldable pub call_at : List (List ℕ) → Option Form
call_at ws = do
  name ← name_at ws
  rest ← key_at (codes "args") name.1
  letters ← word_at rest
  args ← kinds_of letters.0
  rest ← key_at (codes "result") letters.1
  gives ← result_at rest
  reads ← reads_of gives.1
  writes ← writes_of gives.1
  Some (Call name.0 args gives.0 reads writes)

-- NAME
unfoldable pub function_at : List (List ℕ) → Option Form
function_at ws = do
  name ← name_at ws
  ended (Function name.0) name.1

abbrev pub object_at : List ℕ → List ℕ → List (List ℕ) → Option Form
object_at name size ws = parts_at [] ws >>= λ fields. Some (Object name size fields)

abbrev pub items_at : List ℕ → List ℕ → List (List ℕ) → Option Form
items_at name array ws = array_of ws >>= λ items. Some (Items name array items)

-- an array's items behind a bracket, or a structure's fields
abbrev pub body_at : List ℕ → List ℕ → List (List ℕ) → Option (List (List ℕ)) → Option Form
body_at name of ws (Some rest) = items_at name of rest
body_at name of ws None = object_at name of ws

-- NAME SIZE F=V F=V, or NAME ARRAY [V, V]
unfoldable pub prebuilt_at : List (List ℕ) → Option Form
prebuilt_at ws = do
  name ← name_at ws
  of ← name_at name.1
  body_at name.0 of.0 of.1 (key_at (codes "[") of.1)

abbrev pub function_or_prebuilt : List ℕ → List (List ℕ) → Option Form
function_or_prebuilt key ws = if bytes_eq key (codes "function") then function_at ws else if bytes_eq key (codes "prebuilt") then prebuilt_at ws else None

-- the form that the first word names
unfoldable pub form_at : List (List ℕ) → Option Form
form_at ws = do
  key ← word_at ws
  if bytes_eq key.0 (codes "size") then size_at key.1 else if bytes_eq key.0 (codes "field") then field_at key.1 else if bytes_eq key.0 (codes "array") then array_at key.1 else if bytes_eq key.0 (codes "calldescr") then call_at key.1 else function_or_prebuilt key.0 key.1
