use Rattle.std.proofs.Common.{rules, ◌≡◌, ◌++◌, ap, ◌∙◌}
use Rattle.lists.proofs.Results.{on_ok}
use Rattle.image_text.proofs.PartedText.{parted_text-image_text}
use Rattle.image_text.proofs.image.put_image.Goals as goal

pub returns : goal.returns
returns g c = λ im p.
    let same : c.as_slice.result.now ≡ c.in_ok-bytes.bytes.items = search rules in
    on_ok c.put_parted.result _ _
    (λ e. e ∙ ap (λ x. c.args.out.now.items ++ x)
    (parted_text-image_text c.args.set.now im c.args.compiled c.args.entries.now (g.C.Fetch.code c.args.code.now) _ c.args.exits.now c.args.changes.now p (same ∙ c.in_ok-bytes.ensures)))
    c.put_parted.ensures
