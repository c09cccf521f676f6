use Rattle.std.proofs.Common.{rules, ◌≡◌, true}
use Rattle.lists.proofs.Places.{get_some}
use Rattle.session_seen.proofs.shown.store_for.Goals as goal

pub returns : goal.returns
returns c = let there = get_some c.args.session.now.activations c.args.a c.requires in (there.0, there.1, λ h. absurd cc)
