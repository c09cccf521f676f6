use Rattle.std.proofs.Common.{◌≡◌, ◌∙◌, ℕ, Option, Some, None, ap}
use Rattle.std.specs.Prelude.{option_and_then}
use Rattle.trace_meaning.specs.Cuts.{seen_bridge}
use Rattle.opt_meaning.specs.Pieces.{bridge_piece}
use Rattle.opt_meaning.proofs.leaving.seen_piece.Goals as goal

pub returns-in-None : goal.returns-in-None
returns-in-None c =
    let seen : None ≡ seen_bridge c.args.set.now.traces c.args.routes.now.cuts.items c.args.from.trace c.args.guard c.args.failure =
    c.in-None.ensures c.args.set.now c.requires in
    ap (λ (b : Option ℕ). option_and_then (bridge_piece c.args.ps.now c.args.from.half) b) seen

pub returns-in-Some : goal.returns-in-Some
returns-in-Some c =
    let seen : Some c.in-Some.bridge ≡ seen_bridge c.args.set.now.traces c.args.routes.now.cuts.items c.args.from.trace c.args.guard c.args.failure =
    c.in-Some.ensures c.args.set.now c.requires in
    c.bridge_piece.ensures ∙ ap (λ (b : Option ℕ). option_and_then (bridge_piece c.args.ps.now c.args.from.half) b) seen
