use Rattle.std.proofs.Common.{◌≡◌, false, true, IsTrue, refl, sym, subst, ◌∙◌}
use Rattle.linear_scan.proofs.Idle.{all_held}
use Rattle.linear_scan.proofs.choosing.choose_free.Goals as goal

pub returns-in-Some-clause-place : goal.returns-in-Some-clause-place
returns-in-Some-clause-place c =
    let h = c.in-Some.ensures.some in
    ((h.0, λ e. let wrong : false ≡ true = sym h.1 ∙ e in cc), h.2)

pub returns-in-Some-free_register-clause-place : goal.returns-in-Some-free_register-clause-place
returns-in-Some-free_register-clause-place c =
    let h = c.in-Some-free_register.ensures.some in
    ((h.0, λ e. subst IsTrue (sym h.1) refl), h.2)

pub returns-in-None-free_register-clause-place : goal.returns-in-None-free_register-clause-place
returns-in-None-free_register-clause-place c = (
  c.take.ensures.word.0,
  c.take.ensures.word.1,
  c.take.ensures.word.2,
  all_held c.args.until.now c.args.request.from c.args.request.registers c.args.request.across c.in-None-free_register.ensures.none c.in-None.ensures.none,
)
