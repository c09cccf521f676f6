-- Lines of hexadecimal digits.
use Rattle.std.specs.Prelude.{ℕ, ◌-◌, ◌==◌, if◌then◌else◌, List, [], ◌∷◌, ◌++◌}
use Rattle.hex.specs.Hex.{encode_lower}

-- the two digits of each byte, and a line feed behind each 32nd byte and behind the last; room is what the line still takes
abbrev pub hex_from : ℕ → List ℕ → List ℕ
hex_from room [] = if room == 32 then [] else 10 ∷ []
hex_from room (b ∷ bs) = encode_lower (b ∷ []) ++ (if room == 1 then 10 ∷ hex_from 32 bs else hex_from (room - 1) bs)

-- 32 bytes a line
unfoldable pub hex_lines : List ℕ → List ℕ
hex_lines bytes = hex_from 32 bytes
