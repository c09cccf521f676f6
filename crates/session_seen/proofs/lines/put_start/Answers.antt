use Rattle.std.proofs.Common.{◌≡◌, ◌++◌, ap, ◌∙◌}
use Rattle.lists.proofs.Results.{on_ok}
use Rattle.seen_text.specs.Lines.{started_text}
use Rattle.session_seen.proofs.Lining.{starts}
use Rattle.session_seen.proofs.lines.put_start.Goals as goal

pub returns-in-Ok : goal.returns-in-Ok
returns-in-Ok c =
    on_ok c.put_started.result _ _ (λ e. starts c.args.names.now c.args.activation c.args.trace c.in-Ok._number c.args.inputs.now c.into_items-inputs.result.items c.args.answers.now c.into_items-answers.result.items c.args.session.now c.start.new.self c.args.out.now.items _
    (c.into_items-inputs.ensures ∙ c.in_ok-copy.ensures) (c.into_items-answers.ensures ∙ c.in_ok-copy_each.ensures) c.requires.number c.requires.fits c.in-Ok.ensures (e ∙ ap (λ z. c.args.out.now.items ++ started_text z) c.name_of.ensures)) c.put_started.ensures
