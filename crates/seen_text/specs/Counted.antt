-- The line of what was counted.
use Rattle.std.specs.Prelude.{ℕ, List, ◌++◌, codes}
use Rattle.opt_meaning.specs.declared.costs.Counts.{Counts}
use Rattle.seen_text.specs.Values.{told_text}

-- B bytes L loads S stores, behind how many instructions
unfoldable pub costs_text : Counts → List ℕ
costs_text c = ((told_text (codes " instructions ") c.bytes ++ told_text (codes " bytes ") c.loads) ++ told_text (codes " loads ") c.stores) ++ codes " stores\n"

-- counts M instructions B bytes L loads S stores
unfoldable pub counts_text : Counts → List ℕ
counts_text c = told_text (codes "counts ") c.instructions ++ costs_text c

-- the same with * for the number of instructions, which depends on the code that was chosen
unfoldable pub starred_text : Counts → List ℕ
starred_text c = codes "counts *" ++ costs_text c
