-- The text of a session whose activations run recorded traces.
use Rattle.std.specs.Prelude.{ℕ, ◌==◌, Bool, true, false, if◌then◌else◌, Option, Some, None, List, [], ◌∷◌, ◌++◌, slice_get}
use Rattle.std.specs.List.{list_any}
use Rattle.trace_ops.specs.declared.trace.Origin.{Origin}
use Rattle.trace_ops.specs.declared.trace.Origin.TheVariants.{Loop, Bridge}
use Rattle.trace_ops.specs.declared.trace.Trace.{Trace}
use Rattle.trace_ops.specs.declared.trace.TraceSet.{TraceSet}
use Rattle.trace_ops.specs.Weights.{place_of}
use Rattle.trace_meaning.specs.declared.state.RecState.{RecState}
use Rattle.trace_meaning.specs.declared.state.RecState.TheVariants as state
use Rattle.trace_meaning.specs.Cuts.{Cuts}
use Rattle.trace_meaning.specs.Legs.{run}
use Rattle.trace_meaning.specs.Standing.{Run}
use Rattle.trace_meaning.specs.Starting.{Starts}
use Rattle.trace_meaning.specs.Recorded.{recorded, recorded_run}
use Rattle.session_text.specs.declared.session.Line.{Line}
use Rattle.session_text.specs.declared.session.Line.TheVariants as line
use Rattle.session_text.specs.declared.session.SessionText.{SessionText}
use Rattle.seen_text.specs.declared.lines.Judged.{Judged}
use Rattle.seen_text.specs.declared.lines.Judged.TheVariants.{Accepted, Already, NoParent}
use Rattle.descr_table.specs.Names.{or_nothing}
use Rattle.trace_text.specs.PieceWriting.{trace_name}
use Rattle.seen_text.specs.Lines.{started_text, attach_text as judged_line}
use Rattle.recorded_seen.specs.States.{seen_text}

-- ---- attachments

abbrev pub is_attached : Cuts → ℕ → Bool
is_attached cuts b = list_any (λ (cut : ℕ × ℕ). cut.0 == b) cuts

-- a loop is always there; a bridge is where it is attached
abbrev pub is_there : Cuts → ℕ → Origin → Bool
is_there cuts p Loop = true
is_there cuts p (Bridge parent guard) = is_attached cuts p

abbrev pub trace_is_there : Cuts → ℕ → Option Trace → Bool
trace_is_there cuts p None = true
trace_is_there cuts p (Some t) = is_there cuts p t.origin

abbrev pub place_is_there : TraceSet → Cuts → Option ℕ → Bool
place_is_there set cuts None = true
place_is_there set cuts (Some p) = trace_is_there cuts p (slice_get set.traces p)

abbrev pub parent_is_there : TraceSet → Cuts → Origin → Bool
parent_is_there set cuts Loop = true
parent_is_there set cuts (Bridge parent guard) = place_is_there set cuts (place_of parent set.traces)

abbrev pub can_hang : TraceSet → Cuts → Option Trace → Bool
can_hang set cuts None = true
can_hang set cuts (Some t) = parent_is_there set cuts t.origin

-- a bridge is attached once, and where its guard's trace is a bridge, behind that one
abbrev pub judged : TraceSet → Cuts → ℕ → Judged
judged set cuts b = if is_attached cuts b then Already else if can_hang set cuts (slice_get set.traces b) then Accepted else NoParent

abbrev pub with_judged : Cuts → ℕ → Judged → Cuts
with_judged cuts b Accepted = cuts ++ (b, 0) ∷ []
with_judged cuts b Already = cuts
with_judged cuts b NoParent = cuts

abbrev pub attach_text : TraceSet → Cuts → ℕ → List ℕ
attach_text set cuts b = judged_line (trace_name set b) (judged set cuts b)

-- ---- lines

-- the cuts of the activations that start behind a line
abbrev pub cuts_behind : TraceSet → Cuts → Line → Cuts
cuts_behind set cuts (line.Start a t inputs answers) = cuts
cuts_behind set cuts (line.Step a count) = cuts
cuts_behind set cuts (line.Run a n) = cuts
cuts_behind set cuts (line.Attach b) = with_judged cuts b (judged set cuts b)

abbrev pub activation_name : List (List ℕ) → ℕ → List ℕ
activation_name names a = or_nothing (slice_get names a)

-- that an activation was started, and what is observed of its run
unfoldable pub start_text : List ℕ → TraceSet → Run → List ℕ
start_text name set r = started_text name ++ seen_text name set r.set r.now

-- an attachment is judged; an activation is started, and is seen after at most n operations; steps and runs, which count
-- instructions, show nothing
abbrev pub line_text : TraceSet → List (List ℕ) → ℕ → Cuts → Line → List ℕ
line_text set names n cuts (line.Start a t inputs answers) =
    start_text (activation_name names a) set (record { set = set; cuts = cuts; now = recorded_run set t inputs answers cuts n })
line_text set names n cuts (line.Step a count) = []
line_text set names n cuts (line.Run a m) = []
line_text set names n cuts (line.Attach b) = attach_text set cuts b

abbrev pub lines_text : TraceSet → List (List ℕ) → ℕ → Cuts → List Line → List ℕ
lines_text set names n cuts [] = []
lines_text set names n cuts (l ∷ ls) = line_text set names n cuts l ++ lines_text set names n (cuts_behind set cuts l) ls

-- each activation for at most n operations, where the bridges are attached whose lines stand in front of its start
abbrev pub session_seen : TraceSet → SessionText → ℕ → List ℕ
session_seen set session n = lines_text set session.names n [] session.lines

-- a start is lawful
abbrev pub LineStarts : TraceSet → Line → Type 0
LineStarts set (line.Start a t inputs answers) = Starts set t inputs
LineStarts set (line.Step a count) = Unit {0}
LineStarts set (line.Run a n) = Unit {0}
LineStarts set (line.Attach b) = Unit {0}

-- ---- runs

-- at most n operations more
abbrev pub after : ℕ → Run → Run
after n r = record r { now = run (recorded r.set r.cuts) n r.now }

abbrev pub is_going : RecState → Bool
is_going state.Going = true
is_going (state.Finished x) = false
is_going (state.Exited p n frames) = false
is_going state.Waits = false
is_going (state.Misfit call) = false
is_going state.Wrong = false
