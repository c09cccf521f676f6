use Rattle.std.proofs.Common.{◌∙◌, sym, ap}
use Rattle.std.specs.Option.{option_copied}
use Rattle.trace_ops.specs.declared.piece.Snapshot.{Snapshot}
use Rattle.opt_meaning.specs.Rebuilding.{snapshot_in}
use Rattle.resume_rebuild.specs.Rebuilding.{extents_of}
use Rattle.run_session.proofs.Returns.{some_same}
use Rattle.run_session.proofs.Straying.{stray_all}
use Rattle.run_session.proofs.returning.stray_at.Goals as goal

pub returns : goal.returns
returns c snap is =
    let e = c.exit_at-exit.result in
    let h = c.exit_at-exit.ensures in
    let read = c.in-Some-snapshot_in.snap.now in
    let found = sym (ap option_copied c.in-Some-snapshot_in.is) ∙ c.snapshot_in.ensures ∙ ap (λ ops. snapshot_in ops c.args.guard) c.ops_of_piece.ensures ∙ is in
    let same = some_same read snap found in
    stray_all c.args.table.now e.table.now c.args.active.now.machine e.arena.now e.frame.now c.args.row.now e.places.now snap c.items.result.now c.stray_base.result h.table h.arena h.frame h.places (c.items.ensures ∙ ap (λ (s : Snapshot). s.pending) same) (sym c.in_default.is ∙ c.stray_box.ensures) (c.stray_base.ensures (extents_of snap))
