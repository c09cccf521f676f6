-- Boxes among those that are known, as tests.
use Rattle.std.specs.Prelude.{Bool, true, false, not, ◌&&◌, Option, Some, None, List, [], ◌∷◌, ◌++◌, if◌then◌else◌}
use Rattle.std.specs.List.{list_any, list_all}
use Rattle.trace_ops.specs.declared.trace.BoxId.{BoxId}
use Rattle.trace_ops.specs.declared.trace.Arg.{Arg}
use Rattle.trace_ops.specs.declared.trace.Arg.TheVariants as arg
use Rattle.trace_ops.specs.declared.trace.Frame.{Frame}
use Rattle.trace_ops.specs.declared.trace.Op.{Op}
use Rattle.trace_ops.specs.contracts.trace.BoxIdPartialEq.TheImpl as box_eq

abbrev pub knows : List BoxId → BoxId → Bool
knows seen b = list_any (box_eq.ghosts.eq b) seen

abbrev pub knows_arg : List BoxId → Arg → Bool
knows_arg seen (arg.Of b) = knows seen b
knows_arg seen _ = true

abbrev pub knows_args : List BoxId → List Arg → Bool
knows_args seen args = list_all (knows_arg seen) args

abbrev pub knows_frames : List BoxId → List Frame → Bool
knows_frames seen frames = list_all (λ (f : Frame). knows_args seen f.slots) frames

abbrev pub knows_all : List BoxId → Op → Bool
knows_all seen op = knows_args seen op.args && knows_frames seen op.snapshot

abbrev pub lacks : List BoxId → Option BoxId → Bool
lacks seen None = true
lacks seen (Some b) = not (knows seen b)

-- one of the boxes stands among those before it
unfoldable pub repeats : List BoxId → List BoxId → Bool
repeats seen [] = false
repeats seen (b ∷ bs) = if knows seen b then true else repeats (seen ++ b ∷ []) bs
