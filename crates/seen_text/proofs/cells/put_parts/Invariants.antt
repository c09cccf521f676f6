use Rattle.std.proofs.Common.{◌≡◌, ◌++◌, drop}
use Rattle.seen_text.specs.Cells.{parts_text}
use Rattle.seen_text.proofs.cells.put_parts.Given as goal

abbrev pub invariant-loop-field : goal.invariant-loop-field
invariant-loop-field l = l.out.items ++ parts_text l.table (drop l.field-index l.fields) l.rest ≡ l.fn.out.items ++ parts_text l.table l.fields l.parts
