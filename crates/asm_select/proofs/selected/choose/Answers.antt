use Rattle.std.proofs.Common.{◌≡◌, ◌∙◌, Some, ap, sym, subst, arith}
use Rattle.std.proofs.lemmas.Option.{slice_get-get_or, same_Some}
use Rattle.asm_select.specs.Chosen.{told_by}
use Rattle.asm_select.specs.Drafting.{setting, LivesTell}
use Rattle.asm_select.proofs.Appends.{keep_on, all_kept}
use Rattle.asm_select.proofs.selected.choose.Goals as goal

pub add-requires : goal.add-requires
add-requires c =
    let ops = c.args.ops.now in
    let op = c.index-ops-k.result in
    let here = slice_get-get_or ops c.loop-k.k op c.loop-k-test.true ∙ ap Some (sym c.index-ops-k.is) in
    record { tell = subst (LivesTell c.args.lives.now c.loop-k.k op) (sym c.split_at.ensures.back) (c.requires.tell c.loop-k.k op here) }

pub loop-k-preserved : goal.loop-k-preserved
loop-k-preserved c =
    let ops = c.args.ops.now in
    let op = c.index-ops-k.result in
    let again = c.index-ops-k-in-loop-k.result in
    let here = slice_get-get_or ops c.loop-k.k op c.loop-k-test.true ∙ ap Some (sym c.index-ops-k.is) in
    let twice = slice_get-get_or ops c.loop-k.k again c.loop-k-test.true ∙ ap Some (sym c.index-ops-k-in-loop-k.is) in
    let same : again ≡ op = same_Some again op (sym twice ∙ here) in
    keep_on (setting c.args.c.now) ops c.split_at.result.1.now c.loop-k.k c.loop-k.told c.told_by-told.result c.loop-k.draft c.add.new.self op here c.split_at.ensures.back c.loop-k.invariant (c.in_ok-add.ensures {u = tt})
    (c.told_by-told.ensures ∙ ap (λ x. told_by x c.split_at.result.1.now) same)

pub returns : goal.returns
returns c =
    all_kept (setting c.args.c.now) c.args.ops.now c.loop-k.k c.loop-k.told c.loop-k.draft c.finish.result c.loop-k.invariant (omega (arith, c.loop-k-test.false)) c.finish.ensures.instrs c.finish.ensures.starts c.finish.ensures.jumps
