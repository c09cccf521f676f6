use Rattle.std.proofs.Common.{◌≡◌, ◌++◌, ◌∙◌, OnOk, ap, subst, sym}
use Rattle.asm_select.specs.Chosen.{moves_code, constants_code, arg_places}
use Rattle.asm_select.specs.Drafting.{setting}
use Rattle.asm_select.proofs.Passed.{calls_same}
use Rattle.asm_select.proofs.plain.push_passed.Goals as goal

pub returns : goal.returns
returns c =
    let s = setting c.args.c.now in
    let same = ap (λ ms. moves_code ms ++ constants_code s c.args.args.now arg_places) c.call_moves.ensures ∙ sym (calls_same s c.args.k c.args.args.now) in
    subst (λ l. OnOk c.push_args.result (c.push_args.new.out.items ≡ c.args.out.now.items ++ l)) same c.push_args.ensures
