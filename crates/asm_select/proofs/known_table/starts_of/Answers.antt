use Rattle.std.proofs.Common.{◌∙◌, ◌+◌, ap, sym, subst, Some}
use Rattle.std.proofs.lemmas.Option.{slice_get-get_or}
use Rattle.asm_select.proofs.Preceding.{Preceded, none_preceded, one_preceded}
use Rattle.asm_select.proofs.known_table.starts_of.Goals as goal

pub loop-k-init : goal.loop-k-init
loop-k-init c =
    subst (λ l. Preceded c.args.rows.now 0 l 0) (sym c.new-starts.ensures.items) (none_preceded c.args.rows.now)

pub loop-k-preserved : goal.loop-k-preserved
loop-k-preserved c =
    let rows = c.args.rows.now in
    let row = c.index-rows-k.result in
    let here = slice_get-get_or rows c.loop-k.k row c.loop-k-test.true ∙ ap Some (sym c.index-rows-k.is) in
    one_preceded rows c.loop-k.k c.loop-k.starts.items c.push.new.self.items c.loop-k.words c.in-Some.sum row c.loop-k.invariant here c.in_ok-push.ensures.items
    (c.in-Some.ensures.1 ∙ ap (λ n. c.loop-k.words + n) c.words_of.ensures)
