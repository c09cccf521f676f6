use Rattle.std.proofs.Common.{◌≡◌, ◌++◌, drop}
use Rattle.trace_meaning.specs.Answers.{seen_of}
use Rattle.trace_meaning.proofs.calling.see_fields.Given as goal

abbrev pub invariant-loop-field : goal.invariant-loop-field
invariant-loop-field l =
    l.seen.items ++ seen_of l.table l.objects (drop l.field-index l.reads) l.base ≡ l.initial.seen.items ++ seen_of l.table l.objects l.reads l.base
