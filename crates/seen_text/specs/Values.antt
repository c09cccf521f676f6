-- The texts of values, in which an object goes by its number.
use Rattle.std.specs.Prelude.{ℕ, List, [], ◌∷◌, ◌++◌, codes}
use Rattle.std.specs.List.{flat_map}
use Rattle.std.specs.Fmt.{decimal, signed_decimal}
use Rattle.heap_shape.specs.declared.cell.Ref.{Ref}
use Rattle.heap_shape.specs.declared.cell.Ref.TheVariants as r

-- #k
unfoldable pub object_text : ℕ → List ℕ
object_text k = (35 ∷ []) ++ decimal k

unfoldable pub value_text : Ref → List ℕ
value_text (r.Int z) = signed_decimal z
value_text r.Null = codes "NULL"
value_text (r.Num k) = object_text k

-- each behind a comma and a space
abbrev pub more_values : List Ref → List ℕ
more_values xs = flat_map (λ x. (44 ∷ 32 ∷ []) ++ value_text x) xs

unfoldable pub values_text : List Ref → List ℕ
values_text [] = []
values_text (x ∷ xs) = value_text x ++ more_values xs

-- a number behind words
unfoldable pub told_text : List ℕ → ℕ → List ℕ
told_text words n = words ++ decimal n

-- a line of a word and a count
unfoldable pub count_text : List ℕ → ℕ → List ℕ
count_text word n = (word ++ decimal n) ++ 10 ∷ []
