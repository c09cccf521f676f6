use Rattle.std.proofs.Common.{◌≡◌, ◌∷◌, [], ◌<◌, sym, subst, ap, arith, rules}
use Rattle.trace_ops.specs.declared.trace.BoxId.{BoxId}
use Rattle.trace_ops.specs.declared.trace.Arg.TheVariants.{Of}
use Rattle.trace_ops.specs.Pieces.{used_by}
use Rattle.linear_scan.specs.Living.{HaveNumbersBelow}
use Rattle.linear_scan.proofs.Defined.{defined_more, two_below}
use Rattle.linear_scan.proofs.tests.add.Goals as goal

pub returns-clause-defined : goal.returns-clause-defined
returns-clause-defined c =
    let n = c.args.number in
    let args : c.as_slice.result.now ≡ Of c.int.result ∷ Of c.int-2.result ∷ [] = search rules in
    let left : c.int.result.number < n = omega (arith, ap (λ (b : BoxId). b.number) c.int.ensures, c.requires.below.0) in
    let right : c.int-2.result.number < n = omega (arith, ap (λ (b : BoxId). b.number) c.int-2.ensures, c.requires.below.1) in
    let below = subst (λ op. HaveNumbersBelow n (used_by op)) (sym c.in_ok-op.ensures) (two_below n c.as_slice.result.now c.int.result c.int-2.result args left right) in
    defined_more 1 n c.args.ops.now.items c.in_ok-op.op c.push.new.self.items c.requires.defined c.requires.boxes c.in_ok-push.ensures.items below
