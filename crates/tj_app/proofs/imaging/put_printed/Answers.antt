use Rattle.std.proofs.Common.{length, ap, ◌∙◌, arith, refl}
use Rattle.tj_app.specs.Imaging.{printed_of}
use Rattle.tj_app.proofs.Printed.{few_exits, told_printed}
use Rattle.tj_app.proofs.imaging.put_printed.Goals as goal

pub overflow_cast-compiled : goal.overflow_cast-compiled
overflow_cast-compiled c =
    let same = ap length c.exits-exits.ensures in
    omega (arith, same, few_exits c.args.set.now c.requires.stands.0 c.args.image.now c.requires.stands.1)

pub returns : goal.returns
returns c =
    c.put_image.ensures (printed_of c.args.set.now c.args.image.now)
    (told_printed c.args.set.now c.args.image.now _ _ _ _ _ c.len.ensures.len refl (c.deref.ensures.value ∙ c.in_ok-entries.ensures) c.code-code.ensures c.exits-exits.ensures (c.changes.ensures ∙ c.requires.unchanged))
