use Rattle.trace_ops.specs.declared.code.OpCode.TheVariants as code
use Rattle.int_bounds.specs.Overflowing.{NeverOverflows}
use Rattle.int_bounds.proofs.overflowing.overflows_never.Goals as goal

pub returns-in-IntAddOvf-clause-exact : goal.returns-in-IntAddOvf-clause-exact
returns-in-IntAddOvf-clause-exact c = λ never.
    let here : NeverOverflows code.IntAddOvf c.args.a c.args.b = rw (c.in-IntAddOvf.is) at never in
    c.sums_fit.ensures.exact here

pub returns-in-IntSubOvf-clause-exact : goal.returns-in-IntSubOvf-clause-exact
returns-in-IntSubOvf-clause-exact c = λ never.
    let here : NeverOverflows code.IntSubOvf c.args.a c.args.b = rw (c.in-IntSubOvf.is) at never in
    c.differences_fit.ensures.exact here

pub returns-in-IntMulOvf-clause-exact : goal.returns-in-IntMulOvf-clause-exact
returns-in-IntMulOvf-clause-exact c = λ never.
    let here : NeverOverflows code.IntMulOvf c.args.a c.args.b = rw (c.in-IntMulOvf.is) at never in
    c.products_fit.ensures.exact here
