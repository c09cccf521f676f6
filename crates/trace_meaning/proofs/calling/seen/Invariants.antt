use Rattle.std.proofs.Common.{◌≡◌, ◌++◌, drop}
use Rattle.std.specs.List.{flat_map}
use Rattle.trace_meaning.specs.Answers.{seen_of}
use Rattle.trace_meaning.proofs.calling.seen.Given as goal

abbrev pub invariant-loop-base : goal.invariant-loop-base
invariant-loop-base l =
    l.seen.items ++ flat_map (seen_of l.table l.objects l.reads) (drop l.base-index l.references) ≡ flat_map (seen_of l.table l.objects l.reads) l.references
