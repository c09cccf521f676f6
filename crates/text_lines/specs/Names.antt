-- Lists of distinct names.
use Rattle.std.specs.Prelude.{ℕ, Bool, Option, List, [], ◌∷◌, ◌++◌, position, if◌then◌else◌}
use Rattle.std.specs.Str.{bytes_eq}
use Rattle.std.specs.List.{list_any}

-- the place of a name in a list, counted from 0
abbrev pub number_of : List ℕ → List (List ℕ) → Option ℕ
number_of name names = position (λ x. bytes_eq name x) names

abbrev pub has_name : List ℕ → List (List ℕ) → Bool
has_name name names = list_any (λ x. bytes_eq name x) names

-- the name at the end, unless it is there
abbrev pub with_name : List ℕ → List (List ℕ) → List (List ℕ)
with_name name names = if has_name name names then names else names ++ name ∷ []
