-- What the known operations say.
use Rattle.std.specs.Prelude.{◌≡◌, List, [], ◌∷◌, Option, Some, None, slice_get}
use Rattle.std.specs.Map.{lookup}
use Rattle.trace_ops.specs.declared.trace.Arg.{Arg}
use Rattle.trace_ops.specs.declared.trace.Arg.TheVariants.{Null}
use Rattle.trace_ops.specs.declared.code.OpCode.{OpCode}
use Rattle.box_forward.specs.declared.pure.Key.{Key}
use Rattle.box_forward.specs.contracts.pure.KeyPartialEq.TheImpl as same

-- the key of an operation with one or two arguments
abbrev pub key : OpCode → List Arg → Key
key code [] = record { code = code; first = Null; second = None }
key code (a ∷ as') = record { code = code; first = a; second = slice_get as' 0 }

-- the value at a key
abbrev pub at_key : Key → List (Key × Arg) → Option Arg
at_key k known = lookup (same.ghosts.eq k) known

-- the value that was noted last for an operation
abbrev pub noted : List (Key × Arg) → OpCode → List Arg → Option Arg
noted known code args = at_key (key code args) known

-- the operation has the value now, and every other has the one that it had
pub record Notes (old new : List (Key × Arg)) (code : OpCode) (args : List Arg) (value : Arg) : Type 0 where
  pub here : noted new code args ≡ Some value
  pub others : (k : Key) → (k ≡ key code args → ⊥) → at_key k new ≡ at_key k old
