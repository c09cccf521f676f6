-- Where nothing that isn't built is needed, no line attaches a bridge.
use Rattle.std.proofs.Common.{◌≡◌, Bool, true, false, Option, Some, None, List, [], ◌∷◌, refl}
use Rattle.std.specs.Prelude.{if◌then◌else◌}
use Rattle.std.specs.List.{All, list_any}
use Rattle.std.proofs.lemmas.Bool.{true≢false, or_parts}
use Rattle.std.proofs.lemmas.List.Elements.{All-nil, All-cons}
use Rattle.session_text.specs.declared.session.Line.{Line}
use Rattle.session_text.specs.declared.session.Line.TheVariants as line
use Rattle.session_text.specs.declared.session.SessionText.{SessionText}
use Rattle.session_seen.specs.Keeping.{AttachesNone}
use Rattle.tj_app.specs.declared.words.Command.{Command}
use Rattle.tj_app.specs.declared.unbuilt.Unbuilt.{Unbuilt}
use Rattle.tj_app.specs.declared.unbuilt.Unbuilt.TheVariants as un
use Rattle.tj_app.specs.Unbuilt.{is_gen, attaches, first_need}

second : (a b : Bool) → (if a then Some un.Gen else (if b then Some un.Attach else None)) ≡ None → b ≡ false
second true b h = absurd (let never : Some un.Gen ≡ None = h in cc)
second false true h = absurd (let never : Some un.Attach ≡ None = h in cc)
second false false h = refl

pub nothing_attached : (c : Command) (s : SessionText) → first_need c s ≡ None → list_any attaches s.lines ≡ false
nothing_attached c s h = second (is_gen c) (list_any attaches s.lines) h

none : (l : Line) → attaches l ≡ false → AttachesNone l
none (line.Start a t vs answers) h = tt
none (line.Step a n) h = tt
none (line.Run a n) h = tt
none (line.Attach b) h = true≢false h

pub attach_none : (ls : List Line) → list_any attaches ls ≡ false → All AttachesNone ls
attach_none [] h = All-nil AttachesNone
attach_none (l ∷ ls) h = (let both = or_parts (attaches l) (list_any attaches ls) h in All-cons AttachesNone l ls (none l both.0) (attach_none ls both.1))
