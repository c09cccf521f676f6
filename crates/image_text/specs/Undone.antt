-- Patches undone: from the present code back to the bytes as they were appended.
use Rattle.std.specs.Prelude.{ℕ, ◌+◌, ℤ, nat_le, if◌then◌else◌, List, [], ◌∷◌, length}
use Rattle.image_runs.specs.Printed.{patched}
use Rattle.bridge_patch.specs.declared.image.Change.{Change}

-- four bytes are what they were, where they lie in the code
unfoldable pub put_back : ℕ → ℤ → List ℕ → List ℕ
put_back at before code = if nat_le (at + 4) (length code) then patched at before code else code

-- the last one first
abbrev pub all_undone : List (ℕ × ℤ × ℤ) → List ℕ → List ℕ
all_undone [] code = code
all_undone (p ∷ ps) code = put_back p.0 p.1 (all_undone ps code)

-- those of the last change first
abbrev pub changes_undone : List Change → List ℕ → List ℕ
changes_undone [] code = code
changes_undone (c ∷ cs) code = all_undone c.patches (changes_undone cs code)
