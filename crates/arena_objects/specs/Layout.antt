-- How objects lie in the words of an arena: one behind the other, in the order of their numbers.
use Rattle.std.specs.Prelude.{ℕ, zero, suc, ◌+◌, ◌*◌, ◌==◌, Bool, false, if◌then◌else◌, ℤ, pos, List, [], ◌∷◌, ◌++◌, length, map}
use Rattle.trace_ops.specs.declared.table.Table.{Table}
use Rattle.trace_ops.specs.declared.table.ShapeOf.{ShapeOf}
use Rattle.trace_ops.specs.declared.table.ShapeOf.TheVariants.{Size, Array}
use Rattle.trace_meaning.specs.declared.value.Value.{Value}
use Rattle.trace_meaning.specs.declared.value.Value.TheVariants as v
use Rattle.trace_meaning.specs.declared.value.Object.{Object}

-- ---- header numbers

-- whether two shapes are the same
abbrev pub same_shape : ShapeOf → ShapeOf → Bool
same_shape (Size a) (Size b) = a == b
same_shape (Size a) (Array b) = false
same_shape (Array a) (Size b) = false
same_shape (Array a) (Array b) = a == b

-- the first place at which a shape stands, or past the end
abbrev pub place_among : ShapeOf → List ShapeOf → ℕ
place_among s [] = 0
place_among s (x ∷ xs) = if same_shape x s then 0 else 1 + place_among s xs

-- the header number of a shape is its place among the shapes, from 1
abbrev pub header_of : Table → ShapeOf → ℕ
header_of t s = 1 + place_among s t.shapes

-- ---- sizes and addresses, in words of 8 bytes

-- the words before the parts: the header, and an array's length
abbrev pub words_ahead : ShapeOf → ℕ
words_ahead (Size s) = 1
words_ahead (Array a) = 2

-- the bytes of an object of so many parts
abbrev pub bytes_for : ShapeOf → ℕ → ℕ
bytes_for s n = 8 * (words_ahead s + n)

-- the words of an object
abbrev pub words_in : Object → ℕ
words_in o = words_ahead o.of + length o.parts

-- the words of the objects before object k, and of all where there is no such object
abbrev pub words_before : List Object → ℕ → ℕ
words_before [] k = 0
words_before (o ∷ os) zero = 0
words_before (o ∷ os) (suc k) = words_in o + words_before os k

-- the words of all objects
abbrev pub words_of : List Object → ℕ
words_of [] = 0
words_of (o ∷ os) = words_in o + words_of os

-- the address of object k
abbrev pub address_of : List Object → ℕ → ℕ
address_of objects k = 0x10000000 + 8 * words_before objects k

-- how many bytes behind an object's address its part i lies
abbrev pub part_offset : ShapeOf → ℕ → ℕ
part_offset s i = 8 * (words_ahead s + i)

-- ---- words

-- the word of a value, by the addresses of objects
abbrev pub word_of : (ℕ → ℕ) → Value → ℤ
word_of at (v.Int z) = z
word_of at v.Null = pos 0
word_of at (v.Obj n) = pos (at n)

-- the words before the parts of an object of so many parts
abbrev pub head_words : Table → ShapeOf → ℕ → List ℤ
head_words t (Size s) n = pos (header_of t (Size s)) ∷ []
head_words t (Array a) n = pos (header_of t (Array a)) ∷ pos n ∷ []

-- the words of an object, and of all objects, one behind the other
abbrev pub object_words : Table → (ℕ → ℕ) → Object → List ℤ
object_words t at o = head_words t o.of (length o.parts) ++ map (word_of at) o.parts

abbrev pub all_words : Table → (ℕ → ℕ) → List Object → List ℤ
all_words t at [] = []
all_words t at (o ∷ os) = object_words t at o ++ all_words t at os
