use Rattle.std.proofs.Common.{◌≡◌, sym, arith}
use Rattle.virtuals.specs.Namings.{namings}
use Rattle.virtuals.proofs.NamingLemmas.{at_least_none, unnamed_all}
use Rattle.virtuals.proofs.shapes.rename_named.Goals as goal

pub returns-else-count-gt0 : goal.returns-else-count-gt0
returns-else-count-gt0 c =
    let none : c.args.count ≡ 0 = omega (arith, c.if-count-gt0.false) in
    sym (unnamed_all c.args.id c.args.to c.args.shapes.now.items (at_least_none c.args.count (namings c.args.id c.args.shapes.now.items) none c.requires))
