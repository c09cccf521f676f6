-- Reading the words of a line from left to right.
use Rattle.std.specs.Prelude.{◌≡◌, ℕ, Bool, true, false, Option, Some, None, slice_index, ◌==◌, List, [], ◌∷◌, if◌then◌else◌}
use Rattle.std.specs.Str.{bytes_eq}
use Rattle.lists.specs.Binds.{◌>>=◌}
use Rattle.text_lines.specs.Words.{is_name, is_plain, words}

-- What a function returned, seen by view, is what reading gives.
abbrev pub Gives : {X Y : Type 0} → (X → Y) → Option X → Option Y → Type 0
Gives view None read = read ≡ None
Gives view (Some x) read = read ≡ Some (view x)

-- a word, and the words after it
abbrev pub word_at : List (List ℕ) → Option (List ℕ × List (List ℕ))
word_at [] = None
word_at (w ∷ ws) = Some (w, ws)

unfoldable pub name_at : List (List ℕ) → Option (List ℕ × List (List ℕ))
name_at ws = do
  w ← word_at ws
  if is_name w.0 then Some w else None

-- this very word
unfoldable pub key_at : List ℕ → List (List ℕ) → Option (List (List ℕ))
key_at key ws = do
  w ← word_at ws
  if bytes_eq w.0 key then Some w.1 else None

abbrev pub is_end : List (List ℕ) → Bool
is_end [] = true
is_end (w ∷ ws) = false

-- nothing follows
abbrev pub ended : {A : Type 0} → A → List (List ℕ) → Option A
ended x [] = Some x
ended x (w ∷ ws) = None

-- a line without words, or whose first word begins with #
abbrev pub is_skipped : List (List ℕ) → Bool
is_skipped [] = true
is_skipped (w ∷ ws) = slice_index w 0 == 35

-- what a line says: nothing where it is skipped; None where it has no form
unfoldable pub said : {F : Type 0} → (List (List ℕ) → Option F) → List ℕ → Option (Option F)
said form line = if is_plain line then (if is_skipped (words line) then Some None else (form (words line) >>= λ f. Some (Some f))) else None

-- the first of the refusals whose test holds
abbrev pub first_of : {R : Type 0} → List (Bool × R) → Option R
first_of [] = None
first_of ((b, r) ∷ more) = if b then Some r else first_of more
