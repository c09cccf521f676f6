use Rattle.std.proofs.Common.{◌++◌, ap, ◌∙◌, append_assoc, codes, decimal}
use Rattle.lists.proofs.Results.{on_ok}
use Rattle.tj_app.proofs.counting.put_operations.Goals as goal

pub returns : goal.returns
returns c =
    let old = c.args.out.now.items in
    on_ok c.put_number.result _ _ (λ e. e ∙ ap (λ x. x ++ decimal c.operations_of.result) c.in_ok-put.ensures ∙ append_assoc old (codes " operations ") (decimal c.operations_of.result)
    ∙ ap (λ n. old ++ (codes " operations " ++ decimal n)) c.operations_of.ensures) c.put_number.ensures
