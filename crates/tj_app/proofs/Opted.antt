-- The pieces of a set with the bridges that a session attaches, and what they promise.
use Rattle.std.proofs.Common.{◌≡◌, ℕ, List, [], ◌∷◌, sym, subst, ◌∙◌}
use Rattle.std.specs.List.{All}
use Rattle.std.specs.Option.{IsSomeAnd}
use Rattle.std.proofs.lemmas.List.Elements.{All-nil, All-cons}
use Rattle.trace_ops.specs.declared.trace.Origin.{Origin}
use Rattle.trace_ops.specs.declared.trace.Origin.TheVariants.{Loop, Bridge}
use Rattle.trace_ops.specs.declared.trace.Trace.{Trace}
use Rattle.trace_ops.specs.declared.trace.TraceSet.{TraceSet}
use Rattle.session_text.specs.declared.session.Line.{Line}
use Rattle.session_text.specs.declared.session.Line.TheVariants as line
use Rattle.session_text.specs.declared.session.SessionText.{SessionText}
use Rattle.session_text.specs.Fits.{LinesFit, IsBridgeOf, with_start_of}
use Rattle.opt_promise.specs.Promise.{MadePiecesPromise}
use Rattle.loop_peel.specs.Peeling.{IsLoop, IsBridge}
use Rattle.opt_set.specs.Optimised.{OptimisedAreMade, OptimisedAreSound}
use Rattle.tj_app.specs.Telling.{Tells}
use Rattle.tj_app.specs.Opting.{AttachesBridge, IsTextOf, IsOptText}
use Rattle.tj_app.proofs.Ready.{SetsHaveWords}

-- ---- lines of a session that fits

no_loop : (o : Origin) (name : List ℕ) (guard : ℕ) → o ≡ Bridge name guard → o ≡ Loop → ⊥
no_loop o name guard h e = let never : Bridge name guard ≡ Loop = sym h ∙ e in cc

a_bridge : (set : TraceSet) (b : ℕ) → IsBridgeOf set b → IsBridge set b
a_bridge set b h = subst (λ q. IsSomeAnd q (λ (t : Trace). IsLoop t.origin → ⊥)) (sym h.at) (no_loop h.of.origin h.parent h.guard h.is_bridge)

of_line : (set : TraceSet) (k : ℕ) (l : Line) → LinesFit set k (l ∷ []) → AttachesBridge set l
unfolding LinesFit
of_line set k (line.Start a t vs answers) h = tt
of_line set k (line.Step a n) h = tt
of_line set k (line.Run a n) h = tt
of_line set k (line.Attach b) h = a_bridge set b h.0

pub bridges_attached : (set : TraceSet) (k : ℕ) (ls : List Line) → LinesFit set k ls → All (AttachesBridge set) ls
unfolding LinesFit
bridges_attached set k [] h = All-nil (AttachesBridge set)
bridges_attached set k (l ∷ ls) h = All-cons (AttachesBridge set) l ls (of_line set k l (h.0, tt)) (bridges_attached set (with_start_of l k) ls h.1)

-- ---- the text

abbrev pub opted : SetsHaveWords → MadePiecesPromise → OptimisedAreMade → OptimisedAreSound → (input text : List ℕ) (set : TraceSet) (session : SessionText) → Tells input set session → IsTextOf set session.lines text → IsOptText input text
opted have promise are_made are_sound input text set session told h =
    let words = have input (set, told.stands.0) told.stands.1 in
    let made = are_made set h.pieces told.checked.well_formed words h.optimised in
    record {
      set = set;
      session = session;
      told = told;
      bridges = h.pieces.attached;
      granted = h.granted;
      traces = h.pieces.traces;
      written = h.written;
      of = h.optimised.traces;
      sound = are_sound set h.pieces h.optimised;
      made = made.0;
      pieces = made.1;
      promise = promise set h.pieces.attached made.0 told.checked.in_range told.checked.well_formed words made.2;
    }
