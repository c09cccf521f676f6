use Rattle.std.proofs.Common.{◌∙◌, ap, sym}
use Rattle.trace_meaning.specs.World.{events}
use Rattle.trace_meaning.specs.Kept.{Kept}
use Rattle.trace_meaning.proofs.Logs.{events-logged}
use Rattle.trace_meaning.proofs.world.World.calls.Goals as goal

pub returns : goal.returns
returns c =
    c.as_slice.ensures.value ∙ sym (events-logged c.self.inside.calls.items c.self.inside.spent.items c.self.invariant.calls)
    ∙ ap (λ (k : Kept). events k.world.log) c.self.view_is
