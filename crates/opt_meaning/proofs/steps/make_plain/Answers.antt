use Rattle.std.proofs.Common.{◌∙◌, ap, refl}
use Rattle.trace_meaning.specs.Boxes.{Boxes}
use Rattle.opt_meaning.specs.Standing.{settled}
use Rattle.opt_meaning.proofs.Settled.{settled-performed, standing-inside}
use Rattle.opt_meaning.proofs.steps.make_plain.Goals as goal

pub settle_plain-requires-clause-standing : goal.settle_plain-requires-clause-standing
settle_plain-requires-clause-standing c = standing-inside c.args.set.now c.args.ps.now c.args.c.now _ c.requires.standing c.requires.going c.requires.going refl refl refl c.in_ok-done.ensures.table

pub settle_plain-requires-clause-last : goal.settle_plain-requires-clause-last
settle_plain-requires-clause-last c = c.in_ok-done.ensures.numbered

pub returns-clause-ok : goal.returns-clause-ok
returns-clause-ok c =
    let k = c.args.c.now in
    c.settle_plain.ensures.now
    ∙ ap (λ (es : Boxes). settled c.args.ps.now k.piece k.at (record { boxes = es; world = c.perform.new.world.world }) c.args.to c.in_ok-done.done) c.in_ok-reserve.ensures.same
    ∙ settled-performed c.args.ps.now k.piece k.at (record { boxes = k.boxes.values.entries; world = k.world.world }) c.args.to _ c.in_ok-done.done k.world c.perform.new.world refl c.in_ok-done.ensures.ok
