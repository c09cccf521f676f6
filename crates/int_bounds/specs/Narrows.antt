-- What it is to narrow two intervals to the pairs of words that agree.
use Rattle.std.specs.Prelude.{◌≡◌, ℤ, Bool, true, false, not, Option, Some, None}
use Rattle.trace_ops.specs.declared.code.OpCode.{OpCode}
use Rattle.trace_ops.specs.declared.code.OpCode.TheVariants as code
use Rattle.trace_ops.specs.Folds.{binary}
use Rattle.trace_ops.specs.Words.{truth}
use Rattle.int_bounds.specs.declared.interval.Interval.{Interval}
use Rattle.int_bounds.specs.Within.{IsWithin, IsPart}

-- the comparison of two words answers so
abbrev pub Answers : OpCode → Bool → ℤ → ℤ → Type 0
Answers operation passed x y = binary operation x y ≡ Some (truth passed)

-- the pairs that agree stay
abbrev pub KeepsPairs : (ℤ → ℤ → Type 0) → Interval → Interval → Interval × Interval → Type 0
KeepsPairs Agrees a b r = (x y : ℤ) → IsWithin a x → IsWithin b y → Agrees x y → IsWithin r.0 x × IsWithin r.1 y

-- none agrees, or those that do stay and neither interval grows
abbrev pub Narrows : (ℤ → ℤ → Type 0) → Interval → Interval → Option (Interval × Interval) → Type 0
Narrows Agrees a b None = (x y : ℤ) → IsWithin a x → IsWithin b y → ¬ Agrees x y
Narrows Agrees a b (Some r) = KeepsPairs Agrees a b r × IsPart r.0 a × IsPart r.1 b

-- the lower bounds agree, and so do the upper ones: neither can be moved
abbrev pub IsTight : (ℤ → ℤ → Type 0) → Interval × Interval → Type 0
IsTight Agrees r = Agrees r.0.low r.1.low × Agrees r.0.high r.1.high

-- the answers of signed order, and that two words are equal
abbrev pub is_order : OpCode → Bool → Bool
is_order code.IntLt _ = true
is_order code.IntLe _ = true
is_order code.IntGt _ = true
is_order code.IntGe _ = true
is_order code.IntEq passed = passed
is_order code.IntNe passed = not passed
is_order _ _ = false

-- the intervals the other way round
abbrev pub turned : Option (Interval × Interval) → Option (Interval × Interval)
turned None = None
turned (Some r) = Some (r.1, r.0)
