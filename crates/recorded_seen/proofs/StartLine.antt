-- The text of a line that starts an activation.
use Rattle.std.proofs.Common.{◌≡◌, ℕ, List, ap, sym, ◌∙◌, subst}
use Rattle.trace_ops.specs.declared.trace.TraceSet.{TraceSet}
use Rattle.trace_meaning.specs.declared.value.Value.{Value}
use Rattle.trace_meaning.specs.declared.call.Answer.{Answer}
use Rattle.trace_meaning.specs.Cuts.{Cuts}
use Rattle.trace_meaning.specs.Standing.{Run}
use Rattle.trace_meaning.specs.Starting.{begun}
use Rattle.session_text.specs.declared.session.Line.{Line}
use Rattle.session_text.specs.declared.session.Line.TheVariants as line
use Rattle.recorded_seen.specs.Sessions.{activation_name, line_text, start_text, after}

pub start_text-line_text :
    (set : TraceSet) (names : List (List ℕ)) (n : ℕ) (cuts : Cuts) (l : Line) (a t : ℕ) (inputs : List Value) (answers : List Answer) (name : List ℕ) (r : Run)
    → l ≡ line.Start a t inputs answers → name ≡ activation_name names a → r ≡ begun set t inputs answers cuts → start_text name set (after n r) ≡ line_text set names n cuts l
start_text-line_text set names n cuts l a t inputs answers name r el en er =
    let P : Line → Type 0 = λ x. start_text name set (after n r) ≡ line_text set names n cuts x in
    subst P (sym el) (ap (λ x. start_text x set (after n r)) en ∙ ap (λ (x : Run). start_text (activation_name names a) set (after n x)) er)
