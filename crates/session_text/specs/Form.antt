-- The forms of the lines of a session, read from their words.
use Rattle.std.specs.Prelude.{ℕ, ◌^◌, Option, Some, None, List, codes, if◌then◌else◌}
use Rattle.std.specs.Str.{bytes_eq}
use Rattle.text_lines.specs.Numbers.{decimal_of}
use Rattle.lists.specs.Binds.{◌>>=◌}
use Rattle.text_lines.specs.Reading.{word_at, name_at, key_at, ended}
use Rattle.session_text.specs.declared.form.Form.{Form}
use Rattle.session_text.specs.declared.form.Form.TheVariants as form
use Rattle.session_text.specs.Names.{Names}
use Rattle.session_text.specs.Start.{start_at}

-- a decimal number of at most this limit, and the end of the line
unfoldable pub number_at : ℕ → List (List ℕ) → Option ℕ
number_at limit ws = do
  w ← word_at ws
  n ← decimal_of limit w.0
  ended n w.1

-- A L ( and the inputs, then the answers
unfoldable pub start_line_at : Names → List (List ℕ) → Option Form
start_line_at names ws = do
  name ← name_at ws
  of ← name_at name.1
  rest ← key_at (codes "(") of.1
  s ← start_at names rest
  Some (form.Start (record { name = name.0; of = of.0; lacks = s.lacks; inputs = s.inputs; answers = s.answers }))

-- A k, k up to 10,000,000
unfoldable pub step_at : List (List ℕ) → Option Form
step_at ws = do
  name ← name_at ws
  count ← number_at (10 ^ 7) name.1
  Some (form.Step name.0 count)

-- A n, n up to 1,000,000
unfoldable pub run_at : List (List ℕ) → Option Form
run_at ws = do
  name ← name_at ws
  n ← number_at (10 ^ 6) name.1
  Some (form.Run name.0 n)

-- B
unfoldable pub attach_at : List (List ℕ) → Option Form
attach_at ws = do
  name ← name_at ws
  ended (form.Attach name.0) name.1

-- the form that the first word names
unfoldable pub form_at : Names → List (List ℕ) → Option Form
form_at names ws = do
  key ← word_at ws
  if bytes_eq key.0 (codes "start") then start_line_at names key.1 else if bytes_eq key.0 (codes "step") then step_at key.1 else if bytes_eq key.0 (codes "run") then run_at key.1 else if bytes_eq key.0 (codes "attach") then attach_at key.1 else None
