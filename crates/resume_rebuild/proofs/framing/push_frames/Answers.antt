use Rattle.std.proofs.Common.{rules, ◌≡◌, ◌+◌, length, reverse, ap, sym, subst, arith, ◌∙◌}
use Rattle.std.specs.List.{All}
use Rattle.std.specs.Vec.{vec_capacity, vec_len}
use Rattle.resume_numbering.specs.declared.rows.FrameRow.{FrameRow}
use Rattle.lists.proofs.Alls.{all_at, all_from}
use Rattle.resume_rebuild.specs.Read.{sources_read}
use Rattle.resume_rebuild.specs.Room.{HasSpace}
use Rattle.resume_rebuild.specs.Rows.{row_frame}
use Rattle.resume_rebuild.proofs.Chains.{Framing, framing_starts, framing_goes_on, framing_within, framing_room, framing_ends, last_of, others_of, row_read, left_less}
use Rattle.resume_rebuild.proofs.framing.push_frames.Goals as goal

pub loop-at-init : goal.loop-at-init
loop-at-init c =
    let value = row_frame c.args.walked.now.found (sources_read c.args.read.now) c.args.read.now.consts.now c.args.read.now.words.now in
    let none : vec_len c.args.frames.now ≡ 0 = search (rules, c.requires.empty) in
    record {
      walk = framing_starts c.args.rows.now value c.args.first (vec_capacity c.args.frames.now) c.args.frames.now.items (vec_len c.args.frames.now) (vec_len c.args.pool.now) c.requires.first c.requires.empty none c.requires.space c.requires.pool;
      wide = c.requires.wide;
    }

pub unreachable-requires : goal.unreachable-requires
unreachable-requires c =
    let s = c.loop-at.invariant.walk in
    let row = c.index-rows-k.result in
    let rows = c.args.rows.now in
    let value = row_frame c.args.walked.now.found (sources_read c.args.read.now) c.args.read.now.consts.now c.args.read.now.words.now in
    let within = framing_within rows value c.args.first (vec_capacity c.loop-at.frames) c.loop-at.at c.in-Some.k c.loop-at.frames.items (vec_len c.loop-at.frames) (vec_len c.loop-at.pool) s c.in-Some.is in
    let at = row_read rows c.in-Some.k row within c.index-rows-k.is in
    let room = framing_room rows value c.args.first (vec_capacity c.loop-at.frames) c.loop-at.at c.in-Some.k row c.loop-at.frames.items (vec_len c.loop-at.frames) (vec_len c.loop-at.pool) s c.in-Some.is at in
    let none = c.in_default-pop.ensures.cases in
    omega (arith, room.1, none)

pub push_frame-requires-clause-empty : goal.push_frame-requires-clause-empty
push_frame-requires-clause-empty c =
    let s = c.loop-at.invariant.walk in
    let row = c.index-rows-k.result in
    let rows = c.args.rows.now in
    let value = row_frame c.args.walked.now.found (sources_read c.args.read.now) c.args.read.now.consts.now c.args.read.now.words.now in
    let within = framing_within rows value c.args.first (vec_capacity c.loop-at.frames) c.loop-at.at c.in-Some.k c.loop-at.frames.items (vec_len c.loop-at.frames) (vec_len c.loop-at.pool) s c.in-Some.is in
    let at = row_read rows c.in-Some.k row within c.index-rows-k.is in
    let each = all_at (λ (x : FrameRow). All (HasSpace (length x.slots)) c.loop-at.pool.items) rows c.in-Some.k row c.loop-at.invariant.wide at in
    (last_of (HasSpace (length row.slots)) c.loop-at.pool.items c.pop.new.self.items c.in-Some-pop.slots c.in-Some-pop.ensures.items each).0

pub push_frame-requires-clause-room : goal.push_frame-requires-clause-room
push_frame-requires-clause-room c =
    let s = c.loop-at.invariant.walk in
    let row = c.index-rows-k.result in
    let rows = c.args.rows.now in
    let value = row_frame c.args.walked.now.found (sources_read c.args.read.now) c.args.read.now.consts.now c.args.read.now.words.now in
    let within = framing_within rows value c.args.first (vec_capacity c.loop-at.frames) c.loop-at.at c.in-Some.k c.loop-at.frames.items (vec_len c.loop-at.frames) (vec_len c.loop-at.pool) s c.in-Some.is in
    let at = row_read rows c.in-Some.k row within c.index-rows-k.is in
    let each = all_at (λ (x : FrameRow). All (HasSpace (length x.slots)) c.loop-at.pool.items) rows c.in-Some.k row c.loop-at.invariant.wide at in
    (last_of (HasSpace (length row.slots)) c.loop-at.pool.items c.pop.new.self.items c.in-Some-pop.slots c.in-Some-pop.ensures.items each).1

pub push_frame-requires-clause-space : goal.push_frame-requires-clause-space
push_frame-requires-clause-space c =
    let s = c.loop-at.invariant.walk in
    let row = c.index-rows-k.result in
    let rows = c.args.rows.now in
    let value = row_frame c.args.walked.now.found (sources_read c.args.read.now) c.args.read.now.consts.now c.args.read.now.words.now in
    let within = framing_within rows value c.args.first (vec_capacity c.loop-at.frames) c.loop-at.at c.in-Some.k c.loop-at.frames.items (vec_len c.loop-at.frames) (vec_len c.loop-at.pool) s c.in-Some.is in
    let at = row_read rows c.in-Some.k row within c.index-rows-k.is in
    (framing_room rows value c.args.first (vec_capacity c.loop-at.frames) c.loop-at.at c.in-Some.k row c.loop-at.frames.items (vec_len c.loop-at.frames) (vec_len c.loop-at.pool) s c.in-Some.is at).0

pub loop-at-smaller : goal.loop-at-smaller
loop-at-smaller c =
    let s = c.loop-at.invariant.walk in
    let row = c.index-rows-k.result in
    let rows = c.args.rows.now in
    let value = row_frame c.args.walked.now.found (sources_read c.args.read.now) c.args.read.now.consts.now c.args.read.now.words.now in
    let within = framing_within rows value c.args.first (vec_capacity c.loop-at.frames) c.loop-at.at c.in-Some.k c.loop-at.frames.items (vec_len c.loop-at.frames) (vec_len c.loop-at.pool) s c.in-Some.is in
    let at = row_read rows c.in-Some.k row within c.index-rows-k.is in
    left_less rows c.loop-at.at c.in-Some.k row c.requires.lower c.in-Some.is at

pub loop-at-preserved : goal.loop-at-preserved
loop-at-preserved c =
    let s = c.loop-at.invariant.walk in
    let row = c.index-rows-k.result in
    let rows = c.args.rows.now in
    let value = row_frame c.args.walked.now.found (sources_read c.args.read.now) c.args.read.now.consts.now c.args.read.now.words.now in
    let within = framing_within rows value c.args.first (vec_capacity c.loop-at.frames) c.loop-at.at c.in-Some.k c.loop-at.frames.items (vec_len c.loop-at.frames) (vec_len c.loop-at.pool) s c.in-Some.is in
    let at = row_read rows c.in-Some.k row within c.index-rows-k.is in
    let new = c.push_frame.new.frames in
    let pool = c.pop.new.self in
    let less : vec_len pool + 1 ≡ vec_len c.loop-at.pool = c.in-Some-pop.ensures.cases in
    let on = framing_goes_on rows value c.args.first (vec_capacity c.loop-at.frames) c.loop-at.at c.in-Some.k row c.loop-at.frames.items new.items (vec_len c.loop-at.frames) (vec_len c.loop-at.pool) (vec_len new) (vec_len pool) c.requires.lower s c.in-Some.is at c.push_frame.ensures.items c.push_frame.ensures.len less in
    record {
      walk = subst (λ n. Framing rows value c.args.first n row.parent new.items (vec_len new) (vec_len pool)) (sym c.push_frame.ensures.capacity) on;
      wide = all_from (λ (r : FrameRow). All (HasSpace (length r.slots)) pool.items) rows (λ i r e. others_of (HasSpace (length r.slots)) c.loop-at.pool.items pool.items c.in-Some-pop.slots c.in-Some-pop.ensures.items (all_at (λ (x : FrameRow). All (HasSpace (length x.slots)) c.loop-at.pool.items) rows i r c.loop-at.invariant.wide e));
    }

pub returns : goal.returns
returns c =
    let value = row_frame c.args.walked.now.found (sources_read c.args.read.now) c.args.read.now.consts.now c.args.read.now.words.now in
    c.reverse.ensures.items
    ∙ ap reverse (framing_ends c.args.rows.now value c.args.first (vec_capacity c.loop-at.frames) c.loop-at.at c.loop-at.frames.items (vec_len c.loop-at.frames) (vec_len c.loop-at.pool) c.loop-at.invariant.walk c.in_default.is)
