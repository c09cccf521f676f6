-- Values and answers of one word.
use Rattle.std.specs.Prelude.{ℕ, ◌+◌, Option, Some, None, List, [], ◌∷◌, ◌==◌, codes, position, take, drop, if◌then◌else◌}
use Rattle.std.specs.Str.{bytes_eq}
use Rattle.text_lines.specs.Words.{is_name}
use Rattle.text_lines.specs.Numbers.{decimal_of, integer_of}
use Rattle.lists.specs.Binds.{◌>>=◌}
use Rattle.trace_meaning.specs.declared.value.Value.{Value}
use Rattle.trace_meaning.specs.declared.value.Value.TheVariants as value
use Rattle.trace_meaning.specs.declared.call.Give.{Give}
use Rattle.trace_meaning.specs.declared.call.Give.TheVariants as give
use Rattle.session_text.specs.Names.{Names, look}

-- a prebuilt object, by its row
abbrev pub object_of : Option ℕ → Option Value
object_of None = None
object_of (Some k) = Some (value.Obj k)

-- NULL, the name of a prebuilt object, which may be unknown, or an integer
unfoldable pub value_of : Names → List ℕ → Option (Option Value)
value_of names w = if bytes_eq w (codes "NULL") then Some (Some value.Null) else if is_name w then Some (object_of (look w names.prebuilts)) else (integer_of w >>= λ z. Some (Some (value.Int z)))

-- # and a number up to 5: a reference argument of the call
unfoldable pub arg_of : List ℕ → Option ℕ
arg_of [] = None
arg_of (c ∷ cs) = if c == 35 then decimal_of 5 cs else None

-- a value, as the host gives or stores it
abbrev pub give_of : Value → Give
give_of (value.Int z) = give.Int z
give_of value.Null = give.Null
give_of (value.Obj k) = give.Prebuilt k

abbrev pub give_if : Option Value → Option Give
give_if None = None
give_if (Some v) = Some (give_of v)

abbrev pub given_or : Option ℕ → Option (Option Value) → Option (Option Give)
given_or (Some k) v = Some (Some (give.Arg k))
given_or None None = None
given_or None (Some v) = Some (give_if v)

-- a reference argument, or a value
abbrev pub given_of : Names → List ℕ → Option (Option Give)
given_of names w = given_or (arg_of w) (value_of names w)

-- #k.F: a reference argument and a field, which may be unknown
unfoldable pub target_of : Names → List ℕ → Option (ℕ × Option ℕ)
target_of names w = do
  i ← position (λ c. c == 46) w
  arg ← arg_of (take i w)
  if is_name (drop (i + 1) w) then Some (arg, look (drop (i + 1) w) names.fields) else None
