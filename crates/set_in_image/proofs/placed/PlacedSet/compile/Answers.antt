use Rattle.std.proofs.Common.{List, sym, subst}
use Rattle.trace_ops.specs.declared.trace.TraceSet.{TraceSet}
use Rattle.trace_ops.specs.declared.piece.OptTrace.{OptTrace}
use Rattle.bridge_patch.specs.Image.{CanCompile}
use Rattle.set_in_image.proofs.Histories.{can_so, both_so, first_so, compiled_so}
use Rattle.set_in_image.proofs.placed.PlacedSet.compile.Goals as goal

pub compile-requires : goal.compile-requires
compile-requires c =
    subst (λ (s : TraceSet). CanCompile s c.traces-2.result.now c.args.registers) (sym c.set.ensures.value)
    (subst (λ (ts : List OptTrace). CanCompile c.args.checked ts c.args.registers) (sym c.traces-2.ensures)
    (can_so c.loops_can_compile.ensures c.args.checked c.set.ensures.checked c.args.optimised c.args.registers c.requires.pieces c.requires.loops c.requires.least c.requires.most
    c.traces.result.now c.traces.ensures c.constants_are_words.ensures))

pub invariant_of-result : goal.invariant_of-result
invariant_of-result c =
    let can =
    can_so c.loops_can_compile.ensures c.args.checked c.set.ensures.checked c.args.optimised c.args.registers c.requires.pieces c.requires.loops c.requires.least c.requires.most
    c.traces.result.now c.traces.ensures c.constants_are_words.ensures in
    let both = both_so c.set.result.now c.args.checked c.traces-2.result.now c.args.optimised.traces c.in_ok-image.image c.set.ensures.value c.traces-2.ensures c.in_ok-image.ensures.both in
    compiled_so c.args.checked c.args.optimised c.args.registers c.in_ok-image.image c.requires.pieces c.requires.loops can both.0 both.1 c.in_ok-image.ensures.attached

pub returns-clause-image : goal.returns-clause-image
returns-clause-image c = both_so c.set.result.now c.args.checked c.traces-2.result.now c.args.optimised.traces c.in_ok-image.image c.set.ensures.value c.traces-2.ensures c.in_ok-image.ensures.both

pub returns-clause-history : goal.returns-clause-history
returns-clause-history c =
    let can =
    can_so c.loops_can_compile.ensures c.args.checked c.set.ensures.checked c.args.optimised c.args.registers c.requires.pieces c.requires.loops c.requires.least c.requires.most
    c.traces.result.now c.traces.ensures c.constants_are_words.ensures in
    let both = both_so c.set.result.now c.args.checked c.traces-2.result.now c.args.optimised.traces c.in_ok-image.image c.set.ensures.value c.traces-2.ensures c.in_ok-image.ensures.both in
    first_so c.args.checked c.args.optimised c.args.registers c.in_ok-image.image c.requires.pieces c.requires.loops can both.0 both.1 c.in_ok-image.ensures.attached
