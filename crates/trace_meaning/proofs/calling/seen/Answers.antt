use Rattle.trace_meaning.specs.Answers.{seen_of}
use Rattle.trace_meaning.proofs.Gathering.{gathered_more}
use Rattle.trace_meaning.proofs.calling.seen.Goals as goal

pub loop-base-preserved : goal.loop-base-preserved
loop-base-preserved c =
    gathered_more (seen_of c.args.table.now c.args.objects.now c.args.reads.now) c.args.references.now c.loop-base.base-index _ c.loop-base.seen.items c.see_fields.new.seen.items _ c.loop-base-test.true c.in_ok-see_fields.ensures c.loop-base.invariant
