use Rattle.std.proofs.Common.{◌∙◌, ap, List}
use Rattle.trace_ops.specs.declared.trace.BoxId.{BoxId}
use Rattle.trace_ops.specs.Rules.{known_before}
use Rattle.trace_check.specs.Boxes.{lacks}
use Rattle.trace_check.proofs.Knowing.{lacked_all}
use Rattle.trace_check.proofs.walk.lacks.Goals as goal

pub returns : goal.returns
returns c = lacked_all c.equality_decides.ensures (known_before c.args.trace.now c.args.k) c.args.op.now.result c.lacks.result (c.lacks.ensures ∙ ap (λ (s : List BoxId). lacks s c.args.op.now.result) c.requires)
