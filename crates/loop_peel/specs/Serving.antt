-- What a bridge asks of the entry at which its guard fails, and what pieces leave there.
use Rattle.std.specs.Prelude.{◌≡◌, ℕ, ◌+◌, ◌-◌, ◌*◌, ◌≤◌, true, List, Some, length, map, slice_get}
use Rattle.trace_ops.specs.declared.trace.BoxId.{BoxId}
use Rattle.trace_ops.specs.declared.trace.TraceSet.{TraceSet}
use Rattle.trace_ops.specs.declared.piece.Entry.{Entry}
use Rattle.trace_ops.specs.Kinds.{kind_of_val}
use Rattle.trace_ops.specs.Lawful.{IsLawful}
use Rattle.trace_ops.specs.Weights.{own_weight, trace_weight}
use Rattle.trace_ops.specs.WellFormed.{IsWellFormed}
use Rattle.trace_meaning.specs.Cuts.{is_bridge_of}
use Rattle.trace_meaning.specs.Recorded.{ops_at, inputs_of}
use Rattle.opt_pass.specs.Contract.{cost_of}
use Rattle.opt_pass.specs.Counting.{constants_of, AreAtMost}
use Rattle.opt_pass.specs.Recording.{HasSlotsOf}

-- no more than pieces of a trace of this weight can have brought about
pub record IsBounded (weight : ℕ) (e : Entry) : Type 0 where
  pub cost : cost_of e ≤ 2 * weight
  pub boxes : length e.label + length e.shapes ≤ 2 * weight + 64
  pub constants : AreAtMost (16 * weight) (constants_of e)

-- the weight of a bridge less that of its own operations: that of its parents
abbrev pub weight_above : TraceSet → ℕ → ℕ
weight_above set b = trace_weight set b - own_weight set b

-- what a bridge asks of an entry
pub record CanEnter (set : TraceSet) (b : ℕ) (e : Entry) : Type 0 where
  pub lawful : IsLawful set e
  pub values : map kind_of_val e.values ≡ map (λ (x : BoxId). Some x.kind) (inputs_of (slice_get set.traces b))
  pub bounded : IsBounded (weight_above set b) e

-- what there is where guard n of trace p fails
pub record IsLeft (set : TraceSet) (p n : ℕ) (e : Entry) : Type 0 where
  pub lawful : IsLawful set e
  pub values : HasSlotsOf (ops_at set p) (n, e)
  pub bounded : IsBounded (trace_weight set p) e

-- what there is where a guard fails is what its bridge asks
abbrev pub EntriesServe : Type 0
EntriesServe = (set : TraceSet) (p n b : ℕ) (e : Entry) → IsWellFormed set → is_bridge_of set.traces p n b ≡ true → IsLeft set p n e → CanEnter set b e
