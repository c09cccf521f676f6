use Rattle.std.proofs.Common.{◌≡◌, ◌∙◌, ◌+◌, refl, sym, subst, arith}
use Rattle.std.specs.List.{Contains}
use Rattle.bridge_patch.specs.declared.image.PieceHere.{PieceHere}
use Rattle.resume_numbering.specs.Lawful.{IsLawful}
use Rattle.resume_numbering.specs.declared.rows.ResumeTable.{ResumeTable}
use Rattle.resume_rebuild.specs.Reserved.{IsReserved}
use Rattle.run_session.proofs.Starts.{Reserving, room_more, none_named}
use Rattle.run_session.proofs.starting.reserve_for.Goals.{in-Some+in_ok-reserve, in_default}
use Rattle.run_session.proofs.starting.reserve_for.Goals as goal

pub loop-piece-init : goal.loop-piece-init
loop-piece-init c = record {
  room = λ here k p there less at named. absurd (omega (arith, less));
  others = λ table h. h;
  table = refl;
  frames = λ e. e;
}

pub reserve-requires : goal.reserve-requires
reserve-requires c = let h = c.in-Some.ensures.some in subst IsLawful h.3 (c.requires.lawful h.0 h.1)

pub loop-piece-preserved : goal.loop-piece-preserved
loop-piece-preserved c =
    let heres = c.args.image.now.pieces in
    let ps = c.args.pieces.now in
    let i = c.loop-piece.piece-index in
    let x = c.piece-item.result in
    let old = c.loop-piece.rebuilt in
    let inv = c.loop-piece.invariant in
    elim c.match-resume.branch [
      | in-Some+in_ok-reserve w ↦ (let new = w.reserve.new.self in
          let h = w.in-Some.ensures.some in
          let keeps : (table : ResumeTable) → IsReserved table old → IsReserved table new = w.in_ok-reserve.ensures.others in
          let reserved : IsReserved h.0.table new = subst (λ (t : ResumeTable). IsReserved t new) (sym h.3) w.in_ok-reserve.ensures.reserved in
          let one : (here : PieceHere) → Contains heres here → x.id ≡ here.id → IsReserved here.table new = λ here there named. subst (λ (q : PieceHere). IsReserved q.table new) (c.requires.once h.0 here h.1 there (h.2 ∙ named)) reserved in
          subst (Reserving (i + 1) heres ps c.args.rebuilt.now) (sym w.rebuilt-is) (record {
            room = room_more heres ps i x old new c.loop-piece-test.true c.piece-item.is inv.room keeps one;
            others = λ table a. keeps table (inv.others table a);
            table = w.in_ok-reserve.ensures.table ∙ inv.table;
            frames = λ e. reserved.no_frames;
          }))
      | in_default w ↦ subst (Reserving (i + 1) heres ps c.args.rebuilt.now) (sym w.rebuilt-is) (record {
        room = room_more heres ps i x old old c.loop-piece-test.true c.piece-item.is inv.room (λ table a. a) (λ here there named. absurd (none_named heres x.id here w.in_default.ensures.none there named));
        others = inv.others;
        table = inv.table;
        frames = inv.frames;
      })
    ]
