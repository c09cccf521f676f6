-- Lines are a run of the session.
use Rattle.std.proofs.Common.{◌≡◌, inl, inr, ℕ, suc, List, [], ◌∷◌, ◌++◌, Some, refl, sym, subst}
use Rattle.std.specs.Prelude.{slice_set}
use Rattle.trace_ops.specs.declared.trace.TraceSet.{TraceSet}
use Rattle.session_text.specs.declared.session.Line.{Line}
use Rattle.session_text.specs.declared.session.Line.TheVariants as line
use Rattle.image_runs.specs.Printed.{Printed}
use Rattle.image_runs.specs.Session.{Host, Activation, Session, SessionStep, SessionRun, Start, Step, first}
use Rattle.image_runs.specs.Session.{Done as NoStep, Then as OneThen}
use Rattle.run_session.specs.Calls.{Events, Done, Then}
use Rattle.session_seen.specs.Lines.{IsMoved, IsLine, AreLines, most_of_run}

then : (h : Host) (im : Printed) (s t u : Session) → SessionRun h im s t → SessionRun h im t u → SessionRun h im s u
then h im s _ u (NoStep _) more = more
then h im s t u (OneThen _ v _ step rest) more = OneThen s v u step (then h im v t u rest more)

events_run : (h : Host) (im : Printed) (i n : ℕ) (s t : Session) → Events h im i n s t → SessionRun h im s t
events_run h im i _ s _ (Done _) = NoStep s
events_run h im i _ s t (Then n _ _ a b at e more) =
    let u = record s { activations = slice_set s.activations i b } in
    OneThen s u t (Step i a b at e) (events_run h im i n u t more)

moved_run : (h : Host) (set : TraceSet) (im : Printed) (names : List (List ℕ)) (i limit : ℕ) (s t : Session) (text : List ℕ) → IsMoved h set im names i limit s t text → SessionRun h im s t
moved_run h set im names i limit s t text (inl acts) = events_run h im i acts.count s t acts.events
moved_run h set im names i limit s t text (inr rests) = subst (SessionRun h im s) (sym rests.same) (NoStep s)

line_run : (h : Host) (set : TraceSet) (im : Printed) (names : List (List ℕ)) (l : Line) (s t : Session) (text : List ℕ) → IsLine h set im names l s t text → SessionRun h im s t
line_run h set im names (line.Start a trace inputs answers) s t text l =
    let u = record s { activations = s.activations ++ first im s.parts trace inputs answers l.machine ∷ [] } in
    subst (SessionRun h im s) (sym l.after) (OneThen s u u (Start trace l.entry inputs answers l.machine l.entered l.starts) (NoStep u))
line_run h set im names (line.Step a count) s t text l = moved_run h set im names a count s t text l
line_run h set im names (line.Run a n) s t text l = moved_run h set im names a (most_of_run im s n) s t text l
line_run h set im names (line.Attach b) s t text l = absurd l

pub lines_run : (h : Host) (set : TraceSet) (im : Printed) (names : List (List ℕ)) (ls : List Line) (s t : Session) (text : List ℕ) → AreLines h set im names ls s t text → SessionRun h im s t
lines_run h set im names [] s t text l = subst (SessionRun h im s) (sym l.0) (NoStep s)
lines_run h set im names (k ∷ ks) s t text l = then h im s l.0 t (line_run h set im names k s l.0 l.1 l.3) (lines_run h set im names ks l.0 t l.2 l.4)
