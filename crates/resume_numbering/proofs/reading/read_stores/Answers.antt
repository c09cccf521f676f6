use Rattle.std.proofs.Common.{length, subst}
use Rattle.std.specs.Prelude.{slice_index_or}
use Rattle.trace_ops.specs.declared.piece.Spot.TheVariants.{Field}
use Rattle.resume_numbering.specs.declared.rows.PendingRow.{PendingRow}
use Rattle.resume_numbering.specs.Tags.{IsNoVirtual}
use Rattle.resume_numbering.specs.Standing.{PendingStands}
use Rattle.resume_numbering.specs.Reading.{IsReadable, KindsOfStore}
use Rattle.resume_numbering.proofs.ReadingLemmas.{at_same, one_more_read, one_more_kind}
use Rattle.resume_numbering.proofs.reading.read_stores.Goals as goal

abbrev first : PendingRow
first = record { base = 0; spot = Field 0; value = 0 }

pub read_store-requires-clause-base : goal.read_store-requires-clause-base
read_store-requires-clause-base c =
    at_same (λ n (p : PendingRow). IsReadable n (length c.args.kinds.now) p.base) c.args.table.now.consts c.items-consts.result.now c.args.row.now.pending c.items-rows.result.now c.loop-row.row-index first
    c.items-rows.ensures c.items-consts.ensures c.loop-row-test.true c.requires.readable.bases

pub read_store-requires-clause-value : goal.read_store-requires-clause-value
read_store-requires-clause-value c =
    at_same (λ n (p : PendingRow). IsReadable n (length c.args.kinds.now) p.value) c.args.table.now.consts c.items-consts.result.now c.args.row.now.pending c.items-rows.result.now c.loop-row.row-index first
    c.items-rows.ensures c.items-consts.ensures c.loop-row-test.true c.requires.readable.values

pub read_store-requires-clause-base_known : goal.read_store-requires-clause-base_known
read_store-requires-clause-base_known c =
    at_same (λ n (p : PendingRow). IsNoVirtual p.base) c.args.table.now.consts c.items-consts.result.now c.args.row.now.pending c.items-rows.result.now c.loop-row.row-index first
    c.items-rows.ensures c.items-consts.ensures c.loop-row-test.true c.requires.bases

pub loop-row-preserved : goal.loop-row-preserved
loop-row-preserved c =
    let reads = subst (λ cs. PendingStands cs (slice_index_or c.items-rows.result.now c.loop-row.row-index first) c.read_store.result) c.items-consts.ensures c.read_store.ensures.reads in
    record {
      reads = one_more_read (PendingStands c.args.table.now.consts) c.items-rows.result.now c.loop-row.stores.items c.push.new.self.items c.loop-row.row-index first c.read_store.result c.loop-row-test.true c.loop-row.invariant.reads reads c.in_ok-push.ensures.items;
      kinds = one_more_kind (KindsOfStore c.args.kinds.now) c.loop-row.stores.items c.push.new.self.items c.read_store.result c.loop-row.invariant.kinds c.read_store.ensures.kinds c.in_ok-push.ensures.items;
    }
