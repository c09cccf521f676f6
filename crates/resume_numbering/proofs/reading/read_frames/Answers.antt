use Rattle.std.proofs.Common.{◌∙◌, Some, length, reverse, ap, sym, subst}
use Rattle.resume_numbering.specs.Standing.{IsFrame, FramesStand}
use Rattle.resume_numbering.specs.Reading.{AreReadable}
use Rattle.resume_numbering.proofs.ReadingLemmas.{row_at, left_less, walk_on, walked, reverse_back}
use Rattle.resume_numbering.proofs.reading.read_frames.Goals as goal

pub read_frame-requires-clause-readable : goal.read_frame-requires-clause-readable
read_frame-requires-clause-readable c =
    let s = c.loop-at.invariant in let row = c.index-rows-k.result in
    let row_is = row_at c.args.table.now.frames c.items-rows.result.now c.in-Some.k row c.items-rows.ensures (s.within c.in-Some.k c.in-Some.is) c.index-rows-k.is in
    subst (λ cs. AreReadable (length cs) (length c.args.kinds.now) row.slots) (sym c.items-consts.ensures) (c.requires.readable.slots s.steps c.in-Some.k row (s.here ∙ c.in-Some.is) row_is)

pub loop-at-smaller : goal.loop-at-smaller
loop-at-smaller c =
    let s = c.loop-at.invariant in let row = c.index-rows-k.result in
    let row_is = row_at c.args.table.now.frames c.items-rows.result.now c.in-Some.k row c.items-rows.ensures (s.within c.in-Some.k c.in-Some.is) c.index-rows-k.is in
    left_less c.args.table.now.frames c.loop-at.at c.in-Some.k row c.requires.lawful.parents_lower c.in-Some.is row_is

pub loop-at-preserved : goal.loop-at-preserved
loop-at-preserved c =
    let s = c.loop-at.invariant in let row = c.index-rows-k.result in let f = c.in_ok-read_frame.field-0 in
    let row_is = row_at c.args.table.now.frames c.items-rows.result.now c.in-Some.k row c.items-rows.ensures (s.within c.in-Some.k c.in-Some.is) c.index-rows-k.is in
    let frame = subst (λ cs. IsFrame cs row row.parent f) c.items-consts.ensures c.in_ok-read_frame.ensures.reads in
    walk_on c.args.table.now c.args.kinds.now c.args.row.now.frame c.in-Some.k c.loop-at.at c.loop-at.frames.items c.push.new.self.items row f c.requires.lawful s c.in-Some.is row_is frame c.in_ok-read_frame.ensures.kinds c.in_ok-push.ensures.items

pub returns-clause-reads : goal.returns-clause-reads
returns-clause-reads c =
    let items = c.loop-at.frames.items in
    subst (FramesStand c.args.table.now.consts c.args.table.now.frames (Some c.args.row.now.frame)) (sym (ap reverse c.reverse.ensures.items ∙ reverse_back items))
    (walked c.args.table.now c.args.kinds.now c.args.row.now.frame c.loop-at.at items c.loop-at.invariant c.in_default.is)
