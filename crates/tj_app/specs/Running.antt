-- What `run` answers for an input.
use Rattle.std.specs.Prelude.{◌≡◌, ℕ, List, [], ◌++◌, codes, length}
use Rattle.std.specs.List.{All}
use Rattle.trace_ops.specs.declared.trace.TraceSet.{TraceSet}
use Rattle.opt_meaning.specs.Pieces.{all_pieces}
use Rattle.session_text.specs.declared.session.SessionText.{SessionText}
use Rattle.session_host.specs.Hosting.{host_of}
use Rattle.image_runs.specs.Session.{Session, Activation}
use Rattle.image_built.specs.Running.{no_session}
use Rattle.image_shows.specs.Keeping.{KeepsToItsTrace}
use Rattle.image_shows.specs.Laws.{IsGivenWords}
use Rattle.session_seen.specs.Lines.{AreLines}
use Rattle.tj_app.specs.Imaging.{printed_of, AreTextsOf, IsImageText}

-- the section of what is seen
abbrev pub seen_section : List ℕ → List ℕ
seen_section seen = codes "%seen\n" ++ seen

-- the texts of the pieces of all loops of a set, of their image, and of what is seen of a session over it, in arenas of so many bytes
pub record AreSeenOf (arena_bytes count : ℕ) (set : TraceSet) (session : SessionText) (text : List ℕ) : Type 0 where
  pub front : List ℕ
  pub of : AreTextsOf count set front
  pub after : Session
  pub seen : List ℕ
  pub lines : AreLines (host_of set (all_pieces of.pieces.traces) arena_bytes) set (printed_of set of.image) session.names session.lines no_session after seen
  pub written : text ≡ front ++ seen_section seen

-- The text has three sections. The first two are a text that `image` may write for the input, of pieces and of their image, with
-- all that is promised of it. The third is what is seen of the input's session, line by line, over this same printed image, with
-- the host in arenas of so many bytes; and each activation that is seen keeps to the recorded trace that it was started for.
pub record IsRunText (arena_bytes count : ℕ) (input text : List ℕ) : Type 0 where
  pub front : List ℕ
  pub image : IsImageText count input front
  pub after : Session
  pub seen : List ℕ
  pub lines : AreLines (host_of image.opt.set (all_pieces image.opt.traces) arena_bytes) image.opt.set image.image image.opt.session.names image.opt.session.lines no_session after seen
  pub written : text ≡ front ++ seen_section seen
  pub keep : All (λ (act : Activation). IsGivenWords act → KeepsToItsTrace image.opt.set [] (length image.image.base) act) after.activations
