-- Decimal numbers, integers and boxes.
use Rattle.std.specs.Prelude.{ℕ, ℤ, pos, ◌-ℤ◌, Bool, true, not, ◌&&◌, ◌||◌, Option, Some, None, List, [], ◌∷◌, ◌==◌, nat_le, ◌+◌, ◌*◌, ◌-◌, ◌^◌, if◌then◌else◌}
use Rattle.std.specs.List.{list_all}
use Rattle.text_lines.specs.declared.number.Letter.{Letter}
use Rattle.text_lines.specs.declared.number.Letter.TheVariants.{Int, Ref, Float}
use Rattle.text_lines.specs.Words.{is_digit}
use Rattle.lists.specs.Binds.{◌>>=◌}

-- the number that the digits stand for behind those of n
abbrev pub value_behind : ℕ → List ℕ → ℕ
value_behind n [] = n
value_behind n (c ∷ cs) = value_behind (n * 10 + (c - 48)) cs

-- that number, where all are digits and it is at most the limit
unfoldable pub decimal_behind : ℕ → ℕ → List ℕ → Option ℕ
decimal_behind limit n word = if list_all is_digit word && nat_le (value_behind n word) limit then Some (value_behind n word) else None

-- a decimal number of at most this limit: digits, at least one
unfoldable pub decimal_of : ℕ → List ℕ → Option ℕ
decimal_of limit [] = None
decimal_of limit (c ∷ cs) = decimal_behind limit 0 (c ∷ cs)

-- one more digit behind the number n
unfoldable pub add_digit : ℕ → ℕ → ℕ → Option ℕ
add_digit limit n c = if is_digit c && nat_le (n * 10 + (c - 48)) limit then Some (n * 10 + (c - 48)) else None

-- an optional -, and digits; the value is a word of 64 bits
unfoldable pub integer_of : List ℕ → Option ℤ
integer_of [] = None
integer_of (c ∷ cs) = if c == 45 then (decimal_of (2 ^ 63) cs >>= λ n. Some (pos 0 -ℤ pos n)) else (decimal_of (2 ^ 63 - 1) (c ∷ cs) >>= λ n. Some (pos n))

-- i; p or r; f
abbrev pub letter_of : ℕ → Option Letter
letter_of c = if c == 105 then Some Int else if c == 112 || c == 114 then Some Ref else if c == 102 then Some Float else None

-- no leading zero
abbrev pub is_short : List ℕ → Bool
is_short [] = true
is_short (c ∷ []) = true
is_short (c ∷ d ∷ ds) = not (c == 48)

-- a letter, and a number of 32 bits without leading zeros
unfoldable pub box_of : List ℕ → Option (Letter × ℕ)
box_of [] = None
box_of (c ∷ cs) = do
  letter ← letter_of c
  number ← decimal_of (2 ^ 32 - 1) cs
  if is_short cs then Some (letter, number) else None
