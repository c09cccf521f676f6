-- The headings of traces, and merge points.
use Rattle.std.specs.Prelude.{ℕ, ◌+◌, ◌-◌, ◌^◌, Bool, true, false, ◌&&◌, Option, Some, None, List, [], ◌∷◌, ◌==◌, codes, position, take, drop, if◌then◌else◌}
use Rattle.std.specs.Str.{bytes_eq}
use Rattle.text_lines.specs.Words.{is_name}
use Rattle.lists.specs.Binds.{◌>>=◌}
use Rattle.text_lines.specs.Reading.{word_at, name_at, key_at, ended}
use Rattle.trace_ops.specs.declared.trace.Origin.{Origin}
use Rattle.trace_ops.specs.declared.trace.Origin.TheVariants as origin
use Rattle.text_lines.specs.Numbers.{decimal_of}
use Rattle.trace_text.specs.declared.heading.Heading.{Heading}

-- T/k
unfoldable pub guard_name : List ℕ → Option Origin
guard_name w = do
  i ← position (λ c. c == 47) w
  if is_name (take i w) then (decimal_of (2 ^ 32 - 1) (drop (i + 1) w) >>= λ k. Some (origin.Bridge (take i w) k)) else None

-- NAME
unfoldable pub loop_at : List (List ℕ) → Option Heading
loop_at ws = do
  name ← name_at ws
  ended (record { name = name.0; origin = origin.Loop }) name.1

-- NAME from T/k
unfoldable pub bridge_at : List (List ℕ) → Option Heading
bridge_at ws = do
  name ← name_at ws
  behind ← key_at (codes "from") name.1
  w ← word_at behind
  from ← guard_name w.0
  ended (record { name = name.0; origin = from }) w.1

unfoldable pub heading_at : List (List ℕ) → Option Heading
heading_at ws = do
  key ← word_at ws
  if bytes_eq key.0 (codes "%loop") then loop_at key.1 else if bytes_eq key.0 (codes "%bridge") then bridge_at key.1 else None

abbrev pub is_nil : List (List ℕ) → Bool
is_nil [] = true
is_nil (w ∷ ws) = false

-- round brackets, of which so many are open, close at the last word and not before
unfoldable pub closes : ℕ → List (List ℕ) → Bool
closes d [] = false
closes d (w ∷ ws) =
    if bytes_eq w (codes "(") then closes (d + 1) ws
    else if d == 0 then false
    else if bytes_eq w (codes ")") then (if d - 1 == 0 then is_nil ws else closes (d - 1) ws)
    else closes d ws

unfoldable pub is_merge : List (List ℕ) → Bool
is_merge [] = false
is_merge (w ∷ ws) = bytes_eq w (codes "debug_merge_point") && closes 0 ws
