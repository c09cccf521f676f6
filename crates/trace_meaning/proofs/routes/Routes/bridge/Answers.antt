use Rattle.std.proofs.Common.{◌∙◌}
use Rattle.trace_meaning.proofs.Routing.{bridge-seen}
use Rattle.trace_meaning.proofs.routes.Routes.bridge.Goals as goal

pub returns : goal.returns
returns c = λ set h. c.noted_bridge.ensures ∙ bridge-seen set c.args.self.now c.args.trace c.args.guard c.args.failure h
