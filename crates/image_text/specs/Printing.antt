-- Which printed image stands in a session: its present code, its exits and its changes.
use Rattle.std.specs.Prelude.{◌≡◌, ◌≢◌, ℕ, ◌+◌, ◌≤◌, ℤ, List, [], ◌∷◌, ◌++◌, length, take, drop, map}
use Rattle.std.specs.List.{AllByRecursion}
use Rattle.x64_encode.specs.Fields.{imm32}
use Rattle.guard_exit.specs.declared.row.ExitRow.{ExitRow}
use Rattle.bridge_patch.specs.declared.image.Change.{Change}
use Rattle.image_runs.specs.Printed.{Patch, Part, Printed, patched, with_part, code_at, rows_at}
use Rattle.image_text.specs.declared.image.Compiled.{Compiled}

-- the patch of a place, the displacement before and that after it
abbrev pub patch_of : ℕ × ℤ × ℤ → Patch
patch_of p = record { at = p.0; before = p.1; after = p.2 }

-- what an attachment noted of a part that stands from this offset on; the exits are those of the bridge's pieces
pub record IsPartOf (at : ℕ) (x : Part) (c : Change) : Type 0 where
  pub bridge : c.bridge ≡ x.bridge
  pub from : c.from ≡ at
  pub len : c.len ≡ length x.bytes
  pub patches : x.patches ≡ map patch_of c.patches
  pub rows : AllByRecursion (λ (r : ExitRow). r.id.trace ≡ x.bridge) x.rows

abbrev pub ArePartsOf : ℕ → List Part → List Change → Type 0
ArePartsOf at [] [] = Unit {0}
ArePartsOf at (x ∷ xs) (c ∷ cs) = IsPartOf at x c × ArePartsOf (at + length x.bytes) xs cs
ArePartsOf _ _ _ = ⊥

-- each patch finds in the code the displacement that it tells to stand there before
abbrev pub AllStood : List Patch → List ℕ → Type 0
AllStood [] code = Unit {0}
AllStood (p ∷ ps) code = (p.at + 4 ≤ length code) × (take 4 (drop p.at code) ≡ imm32 p.before) × AllStood ps (patched p.at p.after code)

-- and so do those of parts, one behind the other
abbrev pub PartsStood : List ℕ → List Part → Type 0
PartsStood code [] = Unit {0}
PartsStood code (x ∷ xs) = AllStood x.patches (code ++ x.bytes) × PartsStood (with_part code x) xs

-- no part is of the bridge of another
abbrev pub AreOnce : List Part → Type 0
AreOnce [] = Unit {0}
AreOnce (x ∷ xs) = AllByRecursion (λ (y : Part). y.bridge ≢ x.bridge) xs × AreOnce xs

-- The printed image whose base has so many bytes and exits, and these entries; the present code is that behind all parts, and the
-- present exits are those of the base and of all parts.
pub record IsPrinted (im : Printed) (compiled : Compiled) (entries : List (ℕ × ℕ)) (code : List ℕ) (exits : List ExitRow) (changes : List Change) : Type 0 where
  pub bytes : length im.base ≡ compiled.bytes
  pub rows : length im.rows ≡ compiled.exits
  pub entered : im.entries ≡ entries
  pub now : code_at im (length im.parts) ≡ code
  pub exits_now : rows_at im (length im.parts) ≡ exits
  pub parts_of : ArePartsOf (length im.base) im.parts changes
  pub stood : PartsStood im.base im.parts
  pub once : AreOnce im.parts
