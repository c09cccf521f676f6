-- Kinds, lists of names and values, read from the words of a line.
use Rattle.std.specs.Prelude.{ℕ, Bool, true, false, Option, Some, None, List, [], ◌∷◌, ◌++◌, ◌==◌, codes, if◌then◌else◌}
use Rattle.std.specs.Str.{bytes_eq}
use Rattle.text_lines.specs.Words.{is_name}
use Rattle.text_lines.specs.Numbers.{integer_of}
use Rattle.lists.specs.Binds.{◌>>=◌}
use Rattle.text_lines.specs.Reading.{word_at, ended}
use Rattle.trace_ops.specs.declared.trace.Kind.{Kind}
use Rattle.trace_ops.specs.declared.trace.Kind.TheVariants as kind
use Rattle.descr_table.specs.declared.form.Given.{Given}
use Rattle.descr_table.specs.declared.form.Given.TheVariants as given
use Rattle.descr_table.specs.declared.form.Part.{Part}

-- i or r
unfoldable pub kind_at : List (List ℕ) → Option (Kind × List (List ℕ))
kind_at ws = do
  w ← word_at ws
  if bytes_eq w.0 (codes "i") then Some (kind.Int, w.1) else if bytes_eq w.0 (codes "r") then Some (kind.Ref, w.1) else None

-- i, r, or n for none
unfoldable pub result_at : List (List ℕ) → Option (Option Kind × List (List ℕ))
result_at ws = do
  w ← word_at ws
  if bytes_eq w.0 (codes "i") then Some (Some kind.Int, w.1) else if bytes_eq w.0 (codes "r") then Some (Some kind.Ref, w.1) else if bytes_eq w.0 (codes "n") then Some (None, w.1) else None

abbrev pub kind_of_letter : ℕ → Option Kind
kind_of_letter c = if c == 105 then Some kind.Int else if c == 114 then Some kind.Ref else None

-- one letter a kind, behind the kinds so far
unfoldable pub letters_at : List Kind → List ℕ → Option (List Kind)
letters_at so_far [] = Some so_far
letters_at so_far (c ∷ cs) = kind_of_letter c >>= λ k. letters_at (so_far ++ k ∷ []) cs

abbrev pub some_kinds : Option (List Kind) → Option (List Kind)
some_kinds None = None
some_kinds (Some []) = None
some_kinds (Some (k ∷ ks)) = Some (k ∷ ks)

-- letters i and r, or - for none
unfoldable pub kinds_of : List ℕ → Option (List Kind)
kinds_of word = if bytes_eq word (codes "-") then Some [] else some_kinds (letters_at [] word)

-- a list that is written has a name
abbrev pub some_names : Option (List (List ℕ)) → Option (List (List ℕ))
some_names None = None
some_names (Some []) = None
some_names (Some (n ∷ ns)) = Some (n ∷ ns)

-- names up to the end, behind those so far
unfoldable pub names_at : List (List ℕ) → List (List ℕ) → Option (List (List ℕ))
names_at so_far [] = Some so_far
names_at so_far (w ∷ ws) = if is_name w then names_at (so_far ++ w ∷ []) ws else None

-- names up to the word writes or the end, behind those so far
unfoldable pub reads_at : List (List ℕ) → List (List ℕ) → Option (List (List ℕ))
reads_at so_far [] = Some so_far
reads_at so_far (w ∷ ws) = if bytes_eq w (codes "writes") then Some so_far else if is_name w then reads_at (so_far ++ w ∷ []) ws else None

-- the words from the first such word on
unfoldable pub onward : List ℕ → List (List ℕ) → List (List ℕ)
onward key [] = []
onward key (w ∷ ws) = if bytes_eq w key then w ∷ ws else onward key ws

-- behind a call's result: nothing, or reads and names, then nothing or writes and names
unfoldable pub reads_of : List (List ℕ) → Option (List (List ℕ))
reads_of [] = Some []
reads_of (w ∷ ws) = if bytes_eq w (codes "writes") then Some [] else if bytes_eq w (codes "reads") then some_names (reads_at [] ws) else None

abbrev pub listed : List (List ℕ) → Option (List (List ℕ))
listed [] = Some []
listed (w ∷ ws) = some_names (names_at [] ws)

unfoldable pub writes_of : List (List ℕ) → Option (List (List ℕ))
writes_of ws = listed (onward (codes "writes") ws)

-- a value: NULL, a name or an integer
unfoldable pub given_of : List ℕ → Option Given
given_of word = if bytes_eq word (codes "NULL") then Some given.Null else if is_name word then Some (given.Name word) else (integer_of word >>= λ z. Some (given.Int z))

-- name = value
abbrev pub part_of : List ℕ → List ℕ → List ℕ → Option Part
part_of name equals value = if is_name name then (if bytes_eq equals (codes "=") then (given_of value >>= λ v. Some (record { name = name; value = v })) else None) else None

unfoldable pub part_at : List (List ℕ) → Option (Part × List (List ℕ))
part_at [] = None
part_at (name ∷ []) = None
part_at (name ∷ equals ∷ []) = None
part_at (name ∷ equals ∷ value ∷ ws) = part_of name equals value >>= λ p. Some (p, ws)

-- fields with their values up to the end, behind those so far
unfoldable pub parts_at : List Part → List (List ℕ) → Option (List Part)
parts_at so_far [] = Some so_far
parts_at so_far (name ∷ []) = None
parts_at so_far (name ∷ equals ∷ []) = None
parts_at so_far (name ∷ equals ∷ value ∷ ws) = part_of name equals value >>= λ p. parts_at (so_far ++ p ∷ []) ws

-- a value, whether a bracket follows it and no comma
unfoldable pub item_at : List (List ℕ) → Option (Given × Bool × List (List ℕ))
item_at [] = None
item_at (value ∷ []) = None
item_at (value ∷ mark ∷ ws) = given_of value >>= λ v. if bytes_eq mark (codes ",") then Some (v, false, ws) else (if bytes_eq mark (codes "]") then Some (v, true, ws) else None)

-- values with a comma between them and a bracket behind the last, then the end of the line
unfoldable pub items_at : List Given → List (List ℕ) → Option (List Given)
items_at so_far [] = None
items_at so_far (value ∷ []) = None
items_at so_far (value ∷ mark ∷ ws) = given_of value >>= λ v. if bytes_eq mark (codes ",") then items_at (so_far ++ v ∷ []) ws else (if bytes_eq mark (codes "]") then ended (so_far ++ v ∷ []) ws else None)

-- [ ] or [ V , V ], the first bracket being read
unfoldable pub array_of : List (List ℕ) → Option (List Given)
array_of [] = None
array_of (w ∷ ws) = if bytes_eq w (codes "]") then ended [] ws else items_at [] (w ∷ ws)
