-- The pieces of a set while its loops are peeled, one after the other.
use Rattle.std.specs.Prelude.{◌≡◌, ℕ, ◌<◌, ◌≤◌, List, [], Some, None, length, take, slice_get}
use Rattle.std.specs.List.{AllZip}
use Rattle.trace_ops.specs.declared.trace.TraceSet.{TraceSet}
use Rattle.opt_meaning.specs.Meeting.{Made, pieces_of}
use Rattle.opt_meaning.specs.Pieces.{all_pieces}
use Rattle.opt_set.specs.Optimised.{Optimised, loops_from, IsTraceAt, Holds}

-- those of the loops in front of place k
pub record IsMadeTo (set : TraceSet) (k : ℕ) (o : Optimised) : Type 0 where
  pub made : List Made
  pub pieces : all_pieces o.traces ≡ pieces_of made
  pub traces : AllZip (IsTraceAt set) (loops_from 0 (take k set.traces)) o.traces
  pub none : o.attached ≡ []
  pub holds : Holds set k [] o.left made
  pub free : (p : ℕ) → k ≤ p → p < length set.traces → slice_get o.left p ≡ Some None
