use Rattle.std.proofs.Common.{take}
use Rattle.std.specs.List.{All, AllZip}
use Rattle.resume_numbering.specs.Standing.{PendingStands}
use Rattle.resume_numbering.specs.Reading.{KindsOfStore}
use Rattle.resume_numbering.proofs.reading.read_stores.Given as goal

abbrev pub invariant-loop-row : goal.invariant-loop-row
invariant-loop-row l = record {
  reads : AllZip (PendingStands l.table.consts) (take l.row-index l.rows) l.stores.items;
  kinds : All (KindsOfStore l.kinds) l.stores.items;
}
