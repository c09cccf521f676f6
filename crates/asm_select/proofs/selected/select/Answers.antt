use Rattle.std.proofs.Common.{sym, subst}
use Rattle.asm_select.specs.Selecting.{AllTell}
use Rattle.asm_select.proofs.Needing.{all_tell}
use Rattle.asm_select.proofs.Selection.{if_ok, selected}
use Rattle.asm_select.proofs.Fitting.{selected_is_short}
use Rattle.asm_select.proofs.selected.select.Goals as goal

pub ranges-requires-clause-defined : goal.ranges-requires-clause-defined
ranges-requires-clause-defined c =
    let f = c.requires.sound.formed in
    c.numbered_boxes_are_defined.ensures c.args.piece.now f.boxes_numbered f.boxes_defined

pub choose-requires-clause-tell : goal.choose-requires-clause-tell
choose-requires-clause-tell c =
    let f = c.requires.sound.formed in
    let piece = c.args.piece.now in
    let told = all_tell piece c.in_ok-lives.lives.items f.boxes_numbered f.boxes_defined (c.boxes_live.ensures piece f.boxes_numbered f.boxes_defined) c.in_ok-lives.ensures.each c.in_ok-lives.ensures.lives in
    subst (AllTell c.deref-2.result.now) (sym c.items-ops.ensures) (subst (λ ls. AllTell ls piece.ops) (sym c.deref-2.ensures.value) told)

pub returns : goal.returns
returns c =
    let code =
    if_ok c.choose.result _ _
    (λ s h. selected c.args.set.now c.args.piece.now c.args.places.now c.args.to.now c.in_ok-table.table c.items-at.result.now c.items-ops.result.now c.in_ok-plan.plan.items c.deref.result.now s c.in_ok-table.ensures c.items-at.ensures c.items-ops.ensures c.deref.ensures.value c.in_ok-plan.ensures h)
    c.choose.ensures in
    record {
      code = code;
      short = if_ok c.choose.result _ _ (λ s h. selected_is_short c.spellings_are_short.ensures.most c.args.set.now c.args.piece.now c.args.places.now c.args.to.now s c.requires h) code;
    }
