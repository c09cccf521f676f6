use Rattle.std.proofs.Common.{◌∙◌, ◌++◌, ◌∷◌, [], Some, take, ap, sym, subst, arith}
use Rattle.std.specs.List.{AllZip}
use Rattle.std.proofs.lemmas.Option.{slice_get-get_or}
use Rattle.lists.proofs.Zips.{zip_push}
use Rattle.asm_select.specs.Given.{where_in}
use Rattle.asm_select.specs.Drafting.{IsPlanned}
use Rattle.asm_select.proofs.Planned.{take_next, take_whole}
use Rattle.asm_select.proofs.plan.plan_moves.Goals as goal

pub loop-k-preserved : goal.loop-k-preserved
loop-k-preserved c =
    let ops = c.args.ops.now in
    let op = c.index-ops-k.result in
    let here = slice_get-get_or ops c.loop-k.k op c.loop-k-test.true ∙ ap Some (sym c.index-ops-k.is) in
    let is = IsPlanned (where_in c.args.at.now) c.args.to.now in
    subst (λ xs. AllZip is xs c.push.new.self.items) (sym (take_next ops c.loop-k.k op here))
    (subst (AllZip is (take c.loop-k.k ops ++ op ∷ [])) (sym (c.in_ok-push.ensures {u = tt}).items)
    (zip_push is (take c.loop-k.k ops) c.loop-k.plan.items op c.in_ok-moves.moves c.loop-k.invariant (c.in_ok-moves.ensures {u = tt})))

pub returns : goal.returns
returns c =
    let ops = c.args.ops.now in
    subst (λ xs. AllZip (IsPlanned (where_in c.args.at.now) c.args.to.now) xs c.loop-k.plan.items) (take_whole ops c.loop-k.k (omega (arith, c.loop-k-test.false))) c.loop-k.invariant
