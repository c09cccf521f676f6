use Rattle.std.proofs.Common.{rules, ◌↔◌, IsTrue, sym, ◌∙◌, subst}
use Rattle.x64_machine.specs.declared.state.Flags.{Flags}
use Rattle.run_session.specs.Guards.{TakesOne}
use Rattle.run_session.proofs.Guards.{counts_here, not_near, no_place}
use Rattle.run_session.proofs.counting.takes_guard.Goals as goal

pub returns-in_default : goal.returns-in_default
returns-in_default g c = no_place _ _ _ _ _ c.at.ensures.value c.in_default.ensures.none c.type_inv.places (λ t. search rules)

pub returns-then-not-is_among-2 : goal.returns-then-not-is_among-2
returns-then-not-is_among-2 g c = not_near _ _ _ c.in-Some.place _ (sym c.at.ensures.value ∙ c.in-Some.ensures.some) (λ k. search rules) (λ k. search rules) (λ t. search rules)

pub returns-in-Some-instr_at : goal.returns-in-Some-instr_at
returns-in-Some-instr_at g c =
    let both = subst (λ (f : Flags). IsTrue c.takes_one.result ↔ TakesOne c.in-Some-instr_at.instr f c.in-Some.place c.args.places.now) c.flags.ensures c.takes_one.ensures in
    counts_here _ c.args.machine.now c.args.places.now c.in-Some.place c.in-Some-instr_at.instr c.takes_one.result c.one_instruction.ensures
    (sym c.at.ensures.value ∙ c.in-Some.ensures.some) c.in-Some-instr_at.ensures.some both
