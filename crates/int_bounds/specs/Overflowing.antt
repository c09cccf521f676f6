-- Pairs of words on which an operation overflows.
use Rattle.std.specs.Prelude.{◌≡◌, ℤ, ◌+ℤ◌, ◌-ℤ◌, ◌*ℤ◌, Bool, false}
use Rattle.trace_ops.specs.declared.code.OpCode.{OpCode}
use Rattle.trace_ops.specs.declared.code.OpCode.TheVariants as code
use Rattle.trace_ops.specs.Words.{overflows}
use Rattle.int_bounds.specs.declared.interval.Interval.{Interval}
use Rattle.int_bounds.specs.Within.{IsWithin}

-- whether the operation looks for overflow and finds it
abbrev pub overflows_on : OpCode → ℤ → ℤ → Bool
overflows_on code.IntAddOvf x y = overflows (x +ℤ y)
overflows_on code.IntSubOvf x y = overflows (x -ℤ y)
overflows_on code.IntMulOvf x y = overflows (x *ℤ y)
overflows_on _ x y = false

-- it does so on no pair of words of the two intervals
abbrev pub NeverOverflows : OpCode → Interval → Interval → Type 0
NeverOverflows operation a b = (x y : ℤ) → IsWithin a x → IsWithin b y → overflows_on operation x y ≡ false
