-- What is known of lines and words, for whoever writes them and reads them back.
use Rattle.std.specs.Prelude.{◌≡◌, ℕ, ℤ, ◌<◌, ◌≤◌, ◌^◌, ◌&&◌, ◌==◌, ◌⊎◌, true, false, List, [], ◌∷◌, ◌++◌, Some, length, decimal}
use Rattle.std.specs.List.{list_all}
use Rattle.std.specs.Fmt.{signed_decimal}
use Rattle.std.specs.Int.{w64}
use Rattle.std.specs.Int.RustNames.{FitsSigned}
use Rattle.std.specs.Str.Parse.{AllDigits}
use Rattle.text_lines.specs.Cut.{joined}
use Rattle.text_lines.specs.Lines.{lines}
use Rattle.text_lines.specs.Words.{words, begins_word, is_mark, is_word_byte, is_digit, is_name, is_plain}
use Rattle.text_lines.specs.Numbers.{decimal_of, integer_of}
use Rattle.text_lines.specs.Written.{IsWord}

-- a text has at most as many lines as bytes
abbrev pub LinesAreFew : Type 0
LinesAreFew = (text : List ℕ) → length (lines text) ≤ length text

-- names, integers and decimal numbers are words, and what is written of a number is read back
pub record WordsAreSpelled : Type 0 where
  pub name_is_word : (name : List ℕ) → is_name name ≡ true → IsWord name
  pub integer_is_word : (z : ℤ) → FitsSigned w64 z → IsWord (signed_decimal z)
  pub integer_no_name : (z : ℤ) → FitsSigned w64 z → is_name (signed_decimal z) ≡ false
  pub integer_again : (z : ℤ) → FitsSigned w64 z → integer_of (signed_decimal z) ≡ Some z
  pub integer_fits : (word : List ℕ) (z : ℤ) → integer_of word ≡ Some z → FitsSigned w64 z
  pub decimal_again : (limit n : ℕ) → n < 2 ^ 64 → n ≤ limit → decimal_of limit (decimal n) ≡ Some n
  pub decimal_limit : (limit : ℕ) (word : List ℕ) (n : ℕ) → decimal_of limit word ≡ Some n → n ≤ limit
  pub digits_are : (ds : List ℕ) → AllDigits 10 ds → list_all is_digit ds ≡ true

-- the words that a piece of a line says, whatever stands behind it that begins no word; it begins no word itself
pub record Says (text : List ℕ) (ws : List (List ℕ)) : Type 0 where
  pub words_are : (rest : List ℕ) → begins_word rest ≡ false → words (text ++ rest) ≡ ws ++ words rest
  pub apart : (rest : List ℕ) → begins_word rest ≡ false → begins_word (text ++ rest) ≡ false
  pub plain : is_plain text ≡ true

-- what pieces say, alone and one behind the other, and what whole lines say
pub record PiecesSayWords : Type 0 where
  pub word_behind : (w rest : List ℕ) → IsWord w → begins_word rest ≡ false → words (w ++ rest) ≡ w ∷ words rest
  pub alone : (c : ℕ) (cs : List ℕ) → c == 32 ≡ false → (is_word_byte c && begins_word cs) ≡ false → words (c ∷ cs) ≡ (c ∷ []) ∷ words cs
  pub says_nothing : Says [] []
  pub says_both : (a b : List ℕ) (u v : List (List ℕ)) → Says a u → Says b v → Says (a ++ b) (u ++ v)
  pub says_space : Says (32 ∷ []) []
  pub says_word : (w : List ℕ) → IsWord w → Says (32 ∷ w) (w ∷ [])
  pub says_mark : (m : ℕ) → is_mark m ≡ true → Says (m ∷ []) ((m ∷ []) ∷ [])
  pub says_mark_word : (m : ℕ) (w : List ℕ) → is_mark m ≡ true → IsWord w → Says (m ∷ w) ((m ∷ []) ∷ w ∷ [])
  pub line_says : (w text : List ℕ) (ws : List (List ℕ)) → IsWord w → Says text ws → words (w ++ text) ≡ w ∷ ws
  pub line_plain : (w text : List ℕ) (ws : List (List ℕ)) → IsWord w → Says text ws → is_plain (w ++ text) ≡ true
  pub line_then_feed : (line rest : List ℕ) → is_plain line ≡ true → lines (line ++ 10 ∷ rest) ≡ line ∷ lines rest
  pub lines_joined : (text : List ℕ) → (joined (lines text) ≡ text) ⊎ (joined (lines text) ≡ text ++ 10 ∷ [])

-- what a caller needs who reads lines, or writes lines that are read back
pub record LinesAreSpelled : Type 0 where
  pub spelling : WordsAreSpelled
  pub pieces : PiecesSayWords
