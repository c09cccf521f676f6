use Rattle.std.proofs.Common.{◌∙◌, ◌+◌, ap, refl, drop, List}
use Rattle.trace_ops.specs.declared.trace.Arg.{Arg}
use Rattle.trace_meaning.specs.Boxes.{Boxes}
use Rattle.trace_meaning.specs.Performing.{perform}
use Rattle.trace_meaning.specs.Recorded.{recorded_plain, ops_at}
use Rattle.trace_meaning.specs.Standing.{settled, turned, rec_of}
use Rattle.trace_meaning.proofs.Performed.{settled-performed, standing-inside}
use Rattle.trace_meaning.proofs.steps.make_plain.Goals as goal

pub settle_plain-requires-clause-standing : goal.settle_plain-requires-clause-standing
settle_plain-requires-clause-standing c = standing-inside c.args.set.now c.args.c.now _ c.requires.standing c.requires.going refl refl refl c.in_ok-done.ensures.table

pub settle_plain-requires-clause-last : goal.settle_plain-requires-clause-last
settle_plain-requires-clause-last c = c.in_ok-done.ensures.numbered

pub returns-clause-ok : goal.returns-clause-ok
returns-clause-ok c =
    let k = c.args.c.now in
    c.settle_plain.ensures.now
    ∙ ap (λ (es : Boxes). settled c.args.set.now k.trace k.at (record { boxes = es; guards = k.guards; world = c.perform.new.world.world }) c.args.op.now.result c.in_ok-done.done) c.in_ok-reserve.ensures.same
    ∙ settled-performed c.args.set.now k.trace k.at (record { boxes = k.boxes.values.entries; guards = k.guards; world = k.world.world }) c.args.op.now.result _ c.in_ok-done.done k.world c.perform.new.world refl c.in_ok-done.ensures.ok
    ∙ ap (λ (args : List Arg). turned k.trace (drop (k.at + 1) (ops_at c.args.set.now k.trace)) (recorded_plain c.args.op.now.result (rec_of k) (perform c.args.set.now.table c.args.op.now.code c.args.op.now.descr args c.args.values.now k.world.world))) c.items.ensures
