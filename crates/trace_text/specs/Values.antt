-- Values of one word, and heads of frames.
use Rattle.std.specs.Prelude.{ℕ, ℤ, ◌+◌, ◌-◌, ◌^◌, Option, Some, None, List, [], ◌∷◌, ◌==◌, codes, position, take, drop, if◌then◌else◌}
use Rattle.std.specs.Str.{bytes_eq}
use Rattle.text_lines.specs.Words.{is_name}
use Rattle.lists.specs.Binds.{◌>>=◌}
use Rattle.text_lines.specs.Numbers.{decimal_of, integer_of, box_of}
use Rattle.text_lines.specs.declared.number.Letter.{Letter}
use Rattle.trace_ops.specs.declared.trace.Arg.{Arg}
use Rattle.trace_text.specs.declared.value.Value.{Value}
use Rattle.trace_text.specs.declared.value.Value.TheVariants as value
use Rattle.trace_text.specs.declared.value.Head.{Head}
use Rattle.trace_text.specs.declared.value.Head.TheVariants as head

abbrev pub box_or : Option (Letter × ℕ) → Option ℤ → Option Value
box_or (Some b) z = Some (value.Of b.0 b.1)
box_or None (Some z) = Some (value.Const z)
box_or None None = None

-- NULL, a box or an integer
unfoldable pub plain_value : List ℕ → Option Value
plain_value w = if bytes_eq w (codes "NULL") then Some value.Null else box_or (box_of w) (integer_of w)

-- what a name in ConstClass or ConstPtr stands for
abbrev pub named_value : Option Arg → Value
named_value None = value.Unknown
named_value (Some a) = value.Named a

-- name:pc
unfoldable pub name_and_pc : List ℕ → Option Head
name_and_pc w = do
  i ← position (λ c. c == 58) w
  if is_name (take i w) then (decimal_of (2 ^ 32 - 1) (drop (i + 1) w) >>= λ pc. Some (head.Named (take i w) pc)) else None

-- @name:pc
unfoldable pub frame_head : List ℕ → Option Head
frame_head [] = None
frame_head (c ∷ cs) = if c == 64 then name_and_pc cs else None
