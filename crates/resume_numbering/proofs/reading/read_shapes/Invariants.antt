use Rattle.std.proofs.Common.{take}
use Rattle.std.specs.List.{All, AllZip}
use Rattle.resume_numbering.specs.Standing.{VirtualStands}
use Rattle.resume_numbering.specs.Reading.{KindsOfShape}
use Rattle.resume_numbering.proofs.reading.read_shapes.Given as goal

abbrev pub invariant-loop-k : goal.invariant-loop-k
invariant-loop-k l = record {
  reads : AllZip (VirtualStands l.table.consts l.table.virtuals) (take l.k-index l.numbers) l.shapes.items;
  kinds : All (KindsOfShape l.kinds) l.shapes.items;
}
