use Rattle.std.proofs.Common.{inl}
use Rattle.tj_app.proofs.opting.attach_bridge.Goals as goal

pub returns-in-Ok-clause-granted : goal.returns-in-Ok-clause-granted
returns-in-Ok-clause-granted c = inl (c.in-Ok.ensures.granted, c.in-Ok.ensures.attached)
