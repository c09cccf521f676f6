-- A printed image: the code after the loops were compiled, and the parts that attachments appended. All of it is data that
-- a reader of the text has, and a run of a session is defined over nothing else.
use Rattle.std.specs.Prelude.{ℕ, ◌+◌, ℤ, List, [], ◌∷◌, ◌++◌, take, drop, map}
use Rattle.std.specs.List.{flat_map}
use Rattle.x64_encode.specs.Fields.{imm32}
use Rattle.guard_exit.specs.declared.row.ExitRow.{ExitRow}

-- the displacement at a place is changed from one to another
pub record Patch : Type 0 where
  pub at : ℕ
  pub before : ℤ
  pub after : ℤ

-- what the attachment of a bridge appended and patched
pub record Part : Type 0 where
  pub bridge : ℕ
  pub bytes : List ℕ
  pub rows : List ExitRow
  pub patches : List Patch

-- the base code with its entries and rows, and the parts in the order of the attachments
pub record Printed : Type 0 where
  pub base : List ℕ
  pub entries : List (ℕ × ℕ)  -- a loop's trace, and the offset of its first piece
  pub rows : List ExitRow
  pub parts : List Part

-- four bytes have another value
abbrev pub patched : ℕ → ℤ → List ℕ → List ℕ
patched at d code = take at code ++ (imm32 d ++ drop (at + 4) code)

-- in order
abbrev pub all_patched : List Patch → List ℕ → List ℕ
all_patched [] code = code
all_patched (p ∷ ps) code = all_patched ps (patched p.at p.after code)

-- the bytes of a part are appended, then its patches are done, in order
abbrev pub with_part : List ℕ → Part → List ℕ
with_part code x = all_patched x.patches (code ++ x.bytes)

-- with several parts, in order
abbrev pub with_parts : List ℕ → List Part → List ℕ
with_parts code [] = code
with_parts code (x ∷ xs) = with_parts (with_part code x) xs

-- the code, the rows and the bridges when j attachments were accepted
abbrev pub code_at : Printed → ℕ → List ℕ
code_at im j = with_parts im.base (take j im.parts)

-- the rows then
abbrev pub rows_at : Printed → ℕ → List ExitRow
rows_at im j = im.rows ++ flat_map (λ (x : Part). x.rows) (take j im.parts)

-- and the bridges
abbrev pub bridges_at : Printed → ℕ → List ℕ
bridges_at im j = map (λ (x : Part). x.bridge) (take j im.parts)
