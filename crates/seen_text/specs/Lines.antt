-- Lines that tell of a start, of an end that lies behind, and of an attachment.
use Rattle.std.specs.Prelude.{ℕ, List, ◌++◌, codes}
use Rattle.seen_text.specs.declared.lines.Judged.{Judged}
use Rattle.seen_text.specs.declared.lines.Judged.TheVariants.{Accepted, Already, NoParent}

-- an activation is started
unfoldable pub started_text : List ℕ → List ℕ
started_text name = name ++ codes " started\n"

-- an activation has ended in front of this line
unfoldable pub ended_text : List ℕ → List ℕ
ended_text name = name ++ codes " ended\n"

abbrev pub judged_text : Judged → List ℕ
judged_text Accepted = codes " attached\n"
judged_text Already = codes " refused Already\n"
judged_text NoParent = codes " refused NoParent\n"

-- what becomes of the attachment of the bridge of this name
abbrev pub attach_text : List ℕ → Judged → List ℕ
attach_text name judged = name ++ judged_text judged
