-- What isn't built yet, and what needs it.
use Rattle.std.specs.Prelude.{ℕ, Bool, true, false, Option, List, [], ◌∷◌, codes, find}
use Rattle.std.specs.List.{list_any}
use Rattle.session_text.specs.declared.session.Line.{Line}
use Rattle.session_text.specs.declared.session.Line.TheVariants as line
use Rattle.session_text.specs.declared.session.SessionText.{SessionText}
use Rattle.tj_app.specs.declared.words.Command.{Command}
use Rattle.tj_app.specs.declared.words.Command.TheVariants as command
use Rattle.tj_app.specs.declared.unbuilt.Unbuilt.{Unbuilt}
use Rattle.tj_app.specs.declared.unbuilt.Unbuilt.TheVariants as un

abbrev pub name_of : Unbuilt → List ℕ
name_of un.Gen = codes "gen"
name_of un.Attach = codes "attach"

-- the command itself
abbrev pub is_gen : Command → Bool
is_gen (command.Gen n k) = true
is_gen _ = false

-- a line that attaches a bridge
abbrev pub attaches : Line → Bool
attaches (line.Attach b) = true
attaches _ = false

abbrev pub needs : Command → SessionText → Unbuilt → Bool
needs c s un.Gen = is_gen c
needs c s un.Attach = list_any attaches s.lines

-- the order in which it is looked for
abbrev pub order : List Unbuilt
order = un.Gen ∷ un.Attach ∷ []

abbrev pub first_need : Command → SessionText → Option Unbuilt
first_need c s = find (needs c s) order
