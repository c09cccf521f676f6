-- What the rules of a lawful set say of operations, as far as the pass asks.
use Rattle.std.specs.Prelude.{◌≡◌, ◌≤◌, List, [], ◌∷◌, Some, length, map}
use Rattle.trace_ops.specs.declared.facts.Part.{Part}
use Rattle.trace_ops.specs.declared.facts.Part.TheVariants as part
use Rattle.trace_ops.specs.declared.trace.BoxId.{BoxId}
use Rattle.trace_ops.specs.declared.trace.Arg.{Arg}
use Rattle.trace_ops.specs.declared.trace.Arg.TheVariants as arg
use Rattle.trace_ops.specs.Kinds.{kind_of_arg}

-- a slot stands for a value
abbrev pub HasKind : Arg → Type 0
HasKind (arg.Class k) = ⊥
HasKind (arg.Func k) = ⊥
HasKind _ = Unit {0}

abbrev pub EndsRightly : Part → List BoxId → List Arg → Type 0
EndsRightly part.Jump to args = map kind_of_arg args ≡ map (λ (b : BoxId). Some b.kind) to
EndsRightly part.Finish to args = length args ≤ 1
EndsRightly _ to args = Unit {0}
