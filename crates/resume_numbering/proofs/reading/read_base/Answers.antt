use Rattle.resume_numbering.proofs.reading.read_base.Goals as goal

pub unreachable-requires : goal.unreachable-requires
unreachable-requires c = c.requires.base c.in-Virtual.field-0 c.in-Virtual.ensures.reads
