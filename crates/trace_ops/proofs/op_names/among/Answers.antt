use Rattle.std.proofs.Common.{ap, sym, ◌∙◌}
use Rattle.std.specs.Str.{bytes_eq}
use Rattle.trace_ops.proofs.OpNaming.{found_more, found_here, found_none}
use Rattle.trace_ops.proofs.op_names.among.Goals as goal

pub returns : goal.returns
returns c = found_none c.args.codes.now c.args.word.now c.loop-code.code-index _ c.loop-code-test.false c.loop-code.invariant

pub returns-then-eq : goal.returns-then-eq
returns-then-eq c =
    found_here c.args.codes.now c.args.word.now c.loop-code.code-index _ _ c.loop-code-test.true
    (ap (bytes_eq c.args.word.now) (sym c.name_of.ensures) ∙ sym c.eq.ensures ∙ c.if-eq.true) c.loop-code.invariant

pub loop-code-preserved : goal.loop-code-preserved
loop-code-preserved c =
    found_more c.args.codes.now c.args.word.now c.loop-code.code-index _ _ c.loop-code-test.true
    (ap (bytes_eq c.args.word.now) (sym c.name_of.ensures) ∙ sym c.eq.ensures ∙ c.if-eq.false) c.loop-code.invariant
