use Rattle.std.proofs.Common.{rules, ◌≡◌, ◌++◌, [], false, ap, ◌∙◌}
use Rattle.lists.proofs.Results.{on_ok}
use Rattle.seen_text.specs.States.{shows_values, seen_text}
use Rattle.seen_text.proofs.Unlisted.{listed_text-unshown}
use Rattle.seen_text.proofs.observed.put_seen.Goals as goal

pub returns-then-not-shows_values : goal.returns-then-not-shows_values
unfolding seen_text
returns-then-not-shows_values c =
    let hides : shows_values c.args.seen ≡ false = search rules in
    on_ok c.put_listed.result _ _ (λ e. e ∙ ap (λ x. c.args.out.now.items ++ x) (listed_text-unshown c.args.name.now c.args.set.now c.args.seen c.args.frames.now c.args.calls.now [] _ [] _ hides)) c.put_listed.ensures
