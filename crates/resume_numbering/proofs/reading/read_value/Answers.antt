use Rattle.std.proofs.Common.{◌≡◌, ◌+◌, ◌*◌, ◌/◌, arith}
use Rattle.resume_numbering.proofs.ReadingLemmas.{entry_reads, entry_kind}
use Rattle.resume_numbering.proofs.reading.read_value.Goals as goal

pub read_box-requires : goal.read_box-requires
read_box-requires c = c.requires.readable.1 (c.args.number / 4) (omega (arith, c.if-tag-eq0.true))

pub read_const-requires : goal.read_const-requires
read_const-requires c = c.requires.readable.0 (c.args.number / 4) (omega (arith, c.if-tag-eq2.true))

pub returns-then-tag-eq2-clause-reads : goal.returns-then-tag-eq2-clause-reads
returns-then-tag-eq2-clause-reads c =
    let t = c.args.number in
    let split : t ≡ 4 * (t / 4) + 2 = omega (arith, c.if-tag-eq2.true) in
    entry_reads c.args.consts.now t (t / 4) c.read_const.result split c.read_const.ensures c.requires.constants

pub returns-then-tag-eq2-clause-kind : goal.returns-then-tag-eq2-clause-kind
returns-then-tag-eq2-clause-kind c = entry_kind c.args.consts.now c.args.kinds.now (c.args.number / 4) c.read_const.result c.read_const.ensures c.requires.constants
