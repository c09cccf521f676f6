use Rattle.std.proofs.Common.{◌∙◌, List, length, subst}
use Rattle.trace_ops.specs.declared.piece.Piece.{Piece}
use Rattle.run_session.specs.Beginning.{HaveRoom}
use Rattle.run_session.proofs.Starts.{all_room_more, all_reserved}
use Rattle.run_session.proofs.starting.room_for.Goals as goal

pub returns-clause-room : goal.returns-clause-room
returns-clause-room c = all_reserved c.args.image.now.pieces c.args.opt.now c.loop-one.one-index c.loop-one.rebuilt c.loop-one-test.false c.loop-one.invariant.room c.requires.named

pub loop-one-preserved : goal.loop-one-preserved
loop-one-preserved c =
    let heres = c.args.image.now.pieces in
    let e = c.in_ok-reserve_for.ensures in
    let inv = c.loop-one.invariant in
    let one = subst (λ (ps : List Piece). HaveRoom (length ps) heres ps c.reserve_for.new.rebuilt) c.items.ensures e.room in
    record {
      room = all_room_more heres c.args.opt.now c.loop-one.one-index c.one-item.result c.loop-one.rebuilt c.reserve_for.new.rebuilt c.loop-one-test.true c.one-item.is inv.room e.others one;
      table = e.table ∙ inv.table;
      frames = e.frames inv.frames;
    }
