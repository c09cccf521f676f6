-- Lines and words that were cut.
use Rattle.std.specs.Prelude.{◌≡◌, ℕ, true, not, ◌==◌, ◌⊎◌, List, [], ◌∷◌, ◌++◌}
use Rattle.std.specs.List.{flat_map, list_all}
use Rattle.text_lines.specs.Words.{is_mark, is_word_byte}

-- each line with its line feed
abbrev pub joined : List (List ℕ) → List ℕ
joined ls = flat_map (λ l. l ++ 10 ∷ []) ls

abbrev pub HasNoFeed : List ℕ → Type 0
HasNoFeed line = list_all (λ c. not (c == 10)) line ≡ true

-- bytes of a word, or a mark by itself
abbrev pub IsToken : List ℕ → Type 0
IsToken w = (list_all is_word_byte w ≡ true) ⊎ ((m : ℕ) × (is_mark m ≡ true) × (w ≡ m ∷ []))
