use Rattle.std.proofs.Common.{◌∙◌, ap, List}
use Rattle.trace_ops.specs.declared.trace.BoxId.{BoxId}
use Rattle.trace_ops.specs.Rules.{known_before}
use Rattle.trace_check.specs.Boxes.{knows_all}
use Rattle.trace_check.proofs.Knowing.{all_known}
use Rattle.trace_check.proofs.walk.knows_all.Goals as goal

pub returns : goal.returns
returns c = all_known c.equality_decides.ensures (known_before c.args.trace.now c.args.k) c.args.op.now c.knows_all.result (c.knows_all.ensures ∙ ap (λ (s : List BoxId). knows_all s c.args.op.now) c.requires)
