use Rattle.std.proofs.Common.{◌≡◌, ◌∙◌, length, ap, sym, subst, arith}
use Rattle.asm_select.specs.Given.{where_in}
use Rattle.asm_select.specs.Drafting.{pairs_at, Moved}
use Rattle.asm_select.proofs.plan.moves_to.Goals as goal

pub returns : goal.returns
returns c =
    let pairs = pairs_at (where_in c.args.at.now) c.args.args.now c.args.targets.now in
    let same : c.deref.result.now ≡ pairs = c.deref.ensures.value ∙ c.in_ok-pairs.ensures in
    subst (Moved pairs) (sym c.of.ensures)
    (subst (λ ps. Moved ps c.in_ok-planned.planned.items) same (record { acts = c.in_ok-planned.ensures.acts; among = c.in_ok-planned.ensures.among; few = omega (arith, ap (λ xs. length xs) c.as_slice-count.ensures.value, c.as_slice-count.ensures.len, c.in_ok-planned.ensures.few) }))
