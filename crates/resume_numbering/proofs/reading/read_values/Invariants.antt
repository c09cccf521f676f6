use Rattle.std.proofs.Common.{take}
use Rattle.std.specs.List.{All, AllZip}
use Rattle.resume_numbering.specs.Tags.{Reads}
use Rattle.resume_numbering.specs.Values.{IsOfKind}
use Rattle.resume_numbering.proofs.reading.read_values.Given as goal

abbrev pub invariant-loop-number : goal.invariant-loop-number
invariant-loop-number l = record {
  reads : AllZip (Reads l.consts) (take l.number-index l.numbers) l.vals.items;
  kinds : All (IsOfKind l.kinds) l.vals.items;
}
