-- What `check` answers for an input.
use Rattle.std.specs.Prelude.{◌≡◌, ℕ, List, ◌++◌, codes, length, sum_by}
use Rattle.std.specs.Fmt.{decimal}
use Rattle.trace_ops.specs.declared.trace.Trace.{Trace}
use Rattle.trace_ops.specs.declared.trace.TraceSet.{TraceSet}
use Rattle.trace_ops.specs.Weights.{weight_of}
use Rattle.session_text.specs.declared.session.SessionText.{SessionText}
use Rattle.tj_app.specs.Telling.{Tells}

-- how many operations the traces have
abbrev pub operations_of : TraceSet → ℕ
operations_of set = sum_by (λ (t : Trace). length t.ops) set.traces

abbrev pub traces_text : TraceSet → List ℕ
traces_text set = codes "ok traces " ++ decimal (length set.traces)

abbrev pub operations_text : TraceSet → List ℕ
operations_text set = codes " operations " ++ decimal (operations_of set)

abbrev pub weight_text : TraceSet → List ℕ
weight_text set = codes " weight " ++ (decimal (weight_of set) ++ codes "\n")

-- `ok traces T operations O weight W`
abbrev pub ok_text : TraceSet → List ℕ
ok_text set = traces_text set ++ (operations_text set ++ weight_text set)

-- The input stands for a set that is well formed and not too heavy and for a session over it, and the text has the set's counts.
pub record IsCounted (input text : List ℕ) : Type 0 where
  pub set : TraceSet
  pub session : SessionText
  pub told : Tells input set session
  pub written : text ≡ ok_text set
