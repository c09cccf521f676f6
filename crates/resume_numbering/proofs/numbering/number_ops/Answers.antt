use Rattle.std.proofs.Common.{◌∙◌, sym, subst, arith}
use Rattle.resume_numbering.specs.Uses.{NoneTwice}
use Rattle.resume_numbering.specs.declared.rows.ResumeTable.{ResumeTable}
use Rattle.resume_numbering.proofs.NumberLemmas.{room_now, one_more, tabled}
use Rattle.resume_numbering.proofs.numbering.number_ops.Goals as goal

pub number_op-requires-clause-room : goal.number_op-requires-clause-room
number_op-requires-clause-room c =
    omega (arith, c.requires.consts, (room_now c.args.ops.now c.loop-op.op-index c.op-item.result c.loop-op.so_far c.op-item.is c.loop-op-test.true c.loop-op.invariant).consts)

pub number_op-requires-clause-frame_space : goal.number_op-requires-clause-frame_space
number_op-requires-clause-frame_space c =
    omega (arith, c.requires.frames, (room_now c.args.ops.now c.loop-op.op-index c.op-item.result c.loop-op.so_far c.op-item.is c.loop-op-test.true c.loop-op.invariant).frames)

pub number_op-requires-clause-virtual_space : goal.number_op-requires-clause-virtual_space
number_op-requires-clause-virtual_space c =
    omega (arith, c.requires.shapes, (room_now c.args.ops.now c.loop-op.op-index c.op-item.result c.loop-op.so_far c.op-item.is c.loop-op-test.true c.loop-op.invariant).virtuals)

pub number_op-requires-clause-lawful : goal.number_op-requires-clause-lawful
number_op-requires-clause-lawful c = (room_now c.args.ops.now c.loop-op.op-index c.op-item.result c.loop-op.so_far c.op-item.is c.loop-op-test.true c.loop-op.invariant).may

pub number_op-requires-clause-rows : goal.number_op-requires-clause-rows
number_op-requires-clause-rows c = c.loop-op.invariant.lawful

pub loop-op-preserved : goal.loop-op-preserved
loop-op-preserved c =
    one_more c.args.ops.now c.loop-op.op-index c.op-item.result c.loop-op.so_far c.number_op.new.so_far c.op-item.is c.loop-op-test.true c.loop-op.invariant c.in_ok-number_op.ensures

pub number_op-requires-clause-frames_kept : goal.number_op-requires-clause-frames_kept
number_op-requires-clause-frames_kept c = c.loop-op.invariant.frames_kept

pub number_op-requires-clause-virtuals_kept : goal.number_op-requires-clause-virtuals_kept
number_op-requires-clause-virtuals_kept c = c.loop-op.invariant.virtuals_kept

pub returns : goal.returns
returns c =
    let s = c.loop-op.so_far in
    let table : ResumeTable = record { consts = c.of.result; frames = c.of-2.result; virtuals = c.of-3.result; guards = c.of-4.result } in
    tabled c.args.ops.now c.loop-op.op-index s table c.loop-op-test.false c.loop-op.invariant
    (c.of.ensures ∙ c.in_ok-consts.ensures.items) (c.of-2.ensures ∙ c.in_ok-frames.ensures.items) (c.of-3.ensures ∙ c.in_ok-virtuals.ensures.items) c.of-4.ensures
    (subst NoneTwice (sym c.of.ensures) c.in_ok-consts.ensures.once) (subst NoneTwice (sym c.of-2.ensures) c.in_ok-frames.ensures.once) (subst NoneTwice (sym c.of-3.ensures) c.in_ok-virtuals.ensures.once)
