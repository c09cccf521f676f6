use Rattle.std.proofs.Common.{◌∙◌, w64, sym, FitsSigned, rules}
use Rattle.std.proofs.lemmas.Int.{to_z-of_z}
use Rattle.run_session.proofs.Straying.{stray_here, stray_later}
use Rattle.run_session.proofs.exit.Exit.stray_box.Goals as goal

pub returns-then-strays : goal.returns-then-strays
returns-then-strays c =
    let self = c.args.self.now in
    let w = c.word_at-word.result in
    let fits : FitsSigned w64 w = search rules in
    let back = to_z-of_z w64 w fits in
    sym (stray_here self.table.now self.arena.now self.frame.now self.places.now c.loop-p.p-index _ w _ c.strays.result back c.loop-p-test.true c.word_at-word.ensures c.if-strays.true c.strays.ensures) ∙ c.loop-p.invariant

pub loop-p-preserved : goal.loop-p-preserved
loop-p-preserved c =
    let self = c.args.self.now in
    let w = c.word_at-word.result in
    let fits : FitsSigned w64 w = search rules in
    let back = to_z-of_z w64 w fits in
    sym (stray_later self.table.now self.arena.now self.frame.now self.places.now c.loop-p.p-index _ w _ c.strays.result back c.loop-p-test.true c.word_at-word.ensures c.if-strays.false c.strays.ensures) ∙ c.loop-p.invariant
