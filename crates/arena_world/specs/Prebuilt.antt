-- What the host knows of a table: the header numbers of its shapes, and where its prebuilt objects stand.
use Rattle.std.specs.Prelude.{◌≡◌, ℕ, ◌+◌, ◌*◌, ◌-◌, ◌<◌, ◌≤◌, ℤ, pos, List, [], ◌∷◌, ◌++◌, length, map, slice_get}
use Rattle.trace_ops.specs.declared.table.Table.{Table}
use Rattle.trace_ops.specs.declared.table.Initial.{Initial}
use Rattle.trace_ops.specs.declared.table.Initial.TheVariants as initial
use Rattle.trace_ops.specs.declared.table.PrebuiltRow.{PrebuiltRow}
use Rattle.trace_ops.specs.declared.table.ShapeOf.{ShapeOf}
use Rattle.trace_ops.specs.declared.table.ShapeOf.TheVariants.{Size, Array}
use Rattle.trace_meaning.specs.declared.value.Object.{Object}
use Rattle.arena_objects.specs.Headers.{HeaderNumbers, HaveHeaders, header_in}
use Rattle.arena_objects.specs.Layout.{words_in, address_of}
use Rattle.arena_objects.specs.ReadBack.{or_zero}
use Rattle.arena_objects.specs.Starting.{first_objects}

-- ---- where prebuilt objects stand

-- the words of the addresses of objects that stand from an address on, one behind the other
abbrev pub addresses_from : ℕ → List Object → List ℤ
addresses_from a [] = []
addresses_from a (o ∷ os) = pos a ∷ addresses_from (a + 8 * words_in o) os

-- those of the prebuilt objects, which stand at the start of an arena
abbrev pub prebuilt_addresses : Table → List ℤ
prebuilt_addresses t = addresses_from 0x10000000 (first_objects t)

-- the word of one of them by its number, and of the last one; 0 where there is none
abbrev pub word_at : List ℤ → ℕ → ℤ
word_at addresses k = or_zero (slice_get addresses k)

abbrev pub last_of : List ℤ → ℤ
last_of addresses = word_at addresses (length addresses - 1)

-- the prebuilt objects are the first ones, at their addresses
abbrev pub HasPrebuilts : Table → List Object → Type 0
HasPrebuilts t objects = (k : ℕ) → k < length t.prebuilts → (k < length objects) × (address_of objects k ≡ address_of (first_objects t) k)

-- ---- what the host knows

pub record HostKnows : Type 0 where
  pub headers : HeaderNumbers
  pub prebuilts : List ℤ

pub record IsHostOf (t : Table) (h : HostKnows) : Type 0 where
  pub headers : HaveHeaders t h.headers
  pub prebuilts : h.prebuilts ≡ prebuilt_addresses t

-- ---- the words of prebuilt objects, by what the host knows

abbrev pub initial_word : HostKnows → Initial → ℤ
initial_word h (initial.Int z) = z
initial_word h initial.Null = pos 0
initial_word h (initial.Ptr k) = word_at h.prebuilts k

-- the header, and an array's length
abbrev pub head_by : HostKnows → ShapeOf → ℕ → List ℤ
head_by h (Size s) n = pos (header_in h.headers (Size s)) ∷ []
head_by h (Array a) n = pos (header_in h.headers (Array a)) ∷ pos n ∷ []

abbrev pub row_words : HostKnows → PrebuiltRow → List ℤ
row_words h row = head_by h row.of (length row.parts) ++ map (initial_word h) row.parts

abbrev pub rows_words : HostKnows → List PrebuiltRow → List ℤ
rows_words h [] = []
rows_words h (row ∷ rows) = row_words h row ++ rows_words h rows
