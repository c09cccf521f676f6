-- Why a bridge isn't attached.
use Rattle.std.specs.Prelude.{◌≡◌, ℕ, List}
use Rattle.trace_ops.specs.declared.trace.TraceSet.{TraceSet}
use Rattle.lists.specs.Has.{Has}
use Rattle.opt_set.specs.declared.fault.AttachFault.{AttachFault}
use Rattle.opt_set.specs.declared.fault.AttachFault.TheVariants as fault
use Rattle.opt_set.specs.Attaching.{LacksParent}

-- what stands behind a refusal
abbrev pub HasCause : TraceSet → List ℕ → ℕ → AttachFault → Type 0
HasCause set attached b (fault.Already bridge) = (bridge ≡ b) × Has attached b
HasCause set attached b (fault.NoParent bridge) = (bridge ≡ b) × (Has attached b → ⊥) × LacksParent set attached b
HasCause set attached b fault.OutOfMemory = Unit {0}
