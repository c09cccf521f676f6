use Rattle.resume_numbering.specs.Tags.{Reads}
use Rattle.resume_numbering.specs.Values.{IsOfKind}
use Rattle.resume_numbering.proofs.ReadingLemmas.{one_more_read, one_more_kind}
use Rattle.resume_numbering.proofs.reading.read_values.Goals as goal

pub read_value-requires-clause-readable : goal.read_value-requires-clause-readable
read_value-requires-clause-readable c = c.requires.readable c.loop-number.number-index 0 c.loop-number-test.true

pub loop-number-preserved : goal.loop-number-preserved
loop-number-preserved c = record {
  reads = one_more_read (Reads c.args.consts.now) c.args.numbers.now c.loop-number.vals.items c.push.new.self.items c.loop-number.number-index 0 c.read_value.result c.loop-number-test.true c.loop-number.invariant.reads c.read_value.ensures.reads c.in_ok-push.ensures.items;
  kinds = one_more_kind (IsOfKind c.args.kinds.now) c.loop-number.vals.items c.push.new.self.items c.read_value.result c.loop-number.invariant.kinds c.read_value.ensures.kind c.in_ok-push.ensures.items;
}
