use Rattle.std.proofs.Common.{◌∙◌, ap, arith}
use Rattle.trace_ops.specs.Classes.{is_overflowing}
use Rattle.trace_ops.specs.declared.trace.Descr.TheVariants as descr
use Rattle.asm_select.specs.Chosen.{told_over, told_if, is_tested, binary_cond}
use Rattle.asm_select.proofs.Pushes.{told_two}
use Rattle.asm_select.proofs.told.told_by_plain.Goals as goal

pub returns-in-len2 : goal.returns-in-len2
returns-in-len2 c =
    let tested = is_tested c.args.r c.args.rest.now in
    let cond = c.binary_cond.ensures ∙ ap binary_cond c.binary_form.ensures in
    let told = c.told_if-in-len2.ensures ∙ ap (λ t. told_if t c.binary_cond.result c.args.r) c.is_tested-in-len2.ensures ∙ ap (λ o. told_if tested o c.args.r) cond in
    c.told_over.ensures ∙ ap (λ b. told_over b c.told_if-in-len2.result) c.is_overflowing.ensures ∙ ap (told_over (is_overflowing c.args.code)) told
    ∙ told_two c.args.code c.args.r c.args.args.now descr.No c.args.rest.now (omega (arith, c.in-len2.len_at_least)) (omega (arith, c.in-len2.len_below))
