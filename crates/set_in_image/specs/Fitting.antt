-- The pieces of a set's loops are what an image is made of.
use Rattle.std.specs.Prelude.{◌≡◌, ℕ, ◌≤◌, []}
use Rattle.std.specs.List.{All, AllByRecursion}
use Rattle.trace_ops.specs.declared.trace.TraceSet.{TraceSet}
use Rattle.trace_ops.specs.declared.piece.Piece.{Piece}
use Rattle.trace_ops.specs.InRange.{IsInRange}
use Rattle.trace_ops.specs.Weights.{weight_of}
use Rattle.opt_meaning.specs.Pieces.{all_pieces}
use Rattle.opt_meaning.specs.Worded.{OpHasWords}
use Rattle.bridge_patch.specs.Image.{CanCompile}
use Rattle.opt_set.specs.Optimised.{Optimised, IsOptimised}

-- the optimised loops of a set to which no bridge is attached, where their constants are words, are pieces of which an image is made
abbrev pub LoopsCanCompile : Type 0
LoopsCanCompile =
    (set : TraceSet) (o : Optimised) (registers : ℕ) → IsOptimised set o → o.attached ≡ [] → IsInRange set → weight_of set ≤ 131072 → 3 ≤ registers → registers ≤ 12
    → AllByRecursion (λ (p : Piece). All OpHasWords p.ops) (all_pieces o.traces) → CanCompile set o.traces registers
