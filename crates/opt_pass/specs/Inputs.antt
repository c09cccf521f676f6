-- What the pass promises of a piece and of entries as plain data.
use Rattle.std.specs.Prelude.{◌≡◌, ℕ, List, Option, Some, map}
use Rattle.std.specs.Option.{IsSomeAnd}
use Rattle.std.specs.List.{AllByRecursion}
use Rattle.trace_ops.specs.declared.trace.BoxId.{BoxId}
use Rattle.trace_ops.specs.declared.trace.TraceSet.{TraceSet}
use Rattle.trace_ops.specs.declared.piece.Half.TheVariants as half
use Rattle.trace_ops.specs.declared.piece.PieceId.{PieceId}
use Rattle.trace_ops.specs.declared.piece.Entry.{Entry}
use Rattle.trace_ops.specs.Lawful.{IsLawful}

-- where the piece that is jumped to is a preamble, its label repeats these inputs
abbrev pub HasInputs : (PieceId → Option (List BoxId)) → PieceId → List BoxId → Type 0
HasInputs labels to inputs = to.half ≡ half.Pre → IsSomeAnd (labels to) (λ (label : List BoxId). map (λ (b : BoxId). Some b.kind) label ≡ map (λ (b : BoxId). Some b.kind) inputs)

-- what is known at guards and at the end is lawful
abbrev pub AreLawful : TraceSet → List (ℕ × Entry) → Entry → Type 0
AreLawful set guards at_end = AllByRecursion (λ x. IsLawful set x.1) guards × IsLawful set at_end
