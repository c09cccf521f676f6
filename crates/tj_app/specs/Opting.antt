-- What `opt` answers for an input.
use Rattle.std.specs.Prelude.{◌≡◌, ℕ, ◌⊎◌, List, [], ◌∷◌, ◌++◌}
use Rattle.std.specs.List.{AllByRecursion, AllZip}
use Rattle.trace_ops.specs.declared.trace.TraceSet.{TraceSet}
use Rattle.trace_ops.specs.declared.piece.OptTrace.{OptTrace}
use Rattle.trace_ops.specs.Sound.{IsSound}
use Rattle.trace_text.specs.PieceWriting.{opt_text}
use Rattle.session_text.specs.declared.session.Line.{Line}
use Rattle.session_text.specs.declared.session.Line.TheVariants as line
use Rattle.session_text.specs.declared.session.SessionText.{SessionText}
use Rattle.opt_meaning.specs.Meeting.{Made, pieces_of}
use Rattle.opt_meaning.specs.Pieces.{all_pieces}
use Rattle.opt_promise.specs.Promise.{Promise}
use Rattle.opt_set.specs.Attaching.{IsGranted}
use Rattle.loop_peel.specs.Peeling.{IsBridge}
use Rattle.opt_set.specs.Optimised.{Optimised, IsOptimised, places_of, IsTraceAt, label_in}
use Rattle.tj_app.specs.Telling.{Tells}

-- ---- the attachments of a session that are granted

-- what a line leaves attached, behind these: an attachment that can be granted is, and no other; no other line attaches
abbrev pub GrantsLine : TraceSet → List ℕ → Line → List ℕ → Type 0
GrantsLine set before (line.Attach b) after = (IsGranted set before b × (after ≡ before ++ b ∷ [])) ⊎ (¬ IsGranted set before b × (after ≡ before))
GrantsLine set before (line.Start a t vs answers) after = after ≡ before
GrantsLine set before (line.Step a n) after = after ≡ before
GrantsLine set before (line.Run a n) after = after ≡ before

-- the lines in order
abbrev pub Grants : TraceSet → List ℕ → List Line → List ℕ → Type 0
Grants set before [] after = after ≡ before
Grants set before (l ∷ ls) after = (next : List ℕ) × GrantsLine set before l next × Grants set next ls after

-- what a line attaches is a bridge
abbrev pub AttachesBridge : TraceSet → Line → Type 0
AttachesBridge set (line.Attach b) = IsBridge set b
AttachesBridge set (line.Start a t vs answers) = Unit {0}
AttachesBridge set (line.Step a n) = Unit {0}
AttachesBridge set (line.Run a n) = Unit {0}

-- the text of the pieces of a set, with the bridges that these lines attach
pub record IsTextOf (set : TraceSet) (lines : List Line) (text : List ℕ) : Type 0 where
  pub pieces : Optimised
  pub optimised : IsOptimised set pieces
  pub granted : Grants set [] lines pieces.attached
  pub written : text ≡ opt_text set pieces.traces

-- ---- the text

-- The input stands for a well-formed set and a session over it; the text is that of the optimised pieces of all loops, in the
-- order of the input, and of the bridges that the session attaches, in the order of the attachments. The pieces are sound, and
-- whichever of these bridges are attached, and whenever, they end as the recorded traces do, and show the same.
pub record IsOptText (input text : List ℕ) : Type 0 where
  pub set : TraceSet
  pub session : SessionText
  pub told : Tells input set session
  pub bridges : List ℕ
  pub granted : Grants set [] session.lines bridges
  pub traces : List OptTrace
  pub written : text ≡ opt_text set traces
  pub of : AllZip (IsTraceAt set) (places_of set bridges) traces
  pub sound : AllByRecursion (IsSound set (label_in (all_pieces traces))) (all_pieces traces)
  pub made : List Made
  pub pieces : pieces_of made ≡ all_pieces traces
  pub promise : Promise set bridges made
