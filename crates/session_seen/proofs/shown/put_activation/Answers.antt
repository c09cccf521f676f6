use Rattle.std.proofs.Common.{◌≡◌}
use Rattle.lists.proofs.Results.{on_ok}
use Rattle.session_seen.proofs.Telling.{put_kept}
use Rattle.session_seen.proofs.shown.put_activation.Goals as goal

pub returns : goal.returns
returns c =
    on_ok c.put_counts.result _ _ (λ e. put_kept c.hidden_objects_are_free.ensures c.args.session.now c.set.result.now c.args.a c.args.name.now c.now.result.now c.seen_of-seen.result c.in_ok-store.store c.frames.result.now c.calls.result.now c.counts.result c.args.out.now.items _ _
    c.set.ensures c.now.ensures c.seen_of-seen.ensures c.in_ok-store.ensures c.frames.ensures c.calls.ensures c.counts.ensures c.in_ok-put_seen.ensures e) c.put_counts.ensures
