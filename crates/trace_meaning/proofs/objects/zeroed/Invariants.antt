use Rattle.std.proofs.Common.{◌≡◌, ◌++◌, map, drop, slice_get}
use Rattle.trace_meaning.specs.Objects.{zero_field}
use Rattle.trace_meaning.proofs.objects.zeroed.Given as goal

abbrev pub invariant-loop-field : goal.invariant-loop-field
invariant-loop-field l =
    l.parts.items ++ map (λ f. zero_field (slice_get l.table.fields f)) (drop l.field-index l.fields) ≡ map (λ f. zero_field (slice_get l.table.fields f)) l.fields
