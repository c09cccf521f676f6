-- Boxes that are defined before an operation.
use Rattle.std.specs.Prelude.{Bool, Option, Some, None, List, [], ◌∷◌}
use Rattle.std.specs.List.{list_any}
use Rattle.trace_ops.specs.declared.trace.BoxId.{BoxId}
use Rattle.trace_ops.specs.contracts.trace.BoxIdPartialEq.TheImpl as box_eq
use Rattle.trace_ops.specs.Parts.{with_boxes}

abbrev pub knows : List BoxId → BoxId → Bool
knows seen b = list_any (box_eq.ghosts.eq b) seen

-- the result of an operation, unless it is there
abbrev pub noted : List BoxId → Option BoxId → List BoxId
noted seen None = seen
noted seen (Some b) = with_boxes seen (b ∷ [])
