use Rattle.std.proofs.Common.{◌≡◌, drop}
use Rattle.std.specs.Prelude.{find}
use Rattle.tj_app.specs.Unbuilt.{needs}
use Rattle.tj_app.proofs.unbuilt.first_of.Given as goal

abbrev pub invariant-loop-what : goal.invariant-loop-what
invariant-loop-what l = find (needs l.fn.command l.fn.session) (drop l.what-index l.order) ≡ find (needs l.fn.command l.fn.session) l.order
