use Rattle.std.proofs.Common.{List, ap, ◌∙◌}
use Rattle.trace_ops.specs.declared.trace.Arg.{Arg}
use Rattle.box_forward.specs.declared.pure.Key.{Key}
use Rattle.box_forward.specs.Noted.{at_key, key}
use Rattle.box_forward.proofs.pure.Pure.look_up.Goals as goal

pub returns : goal.returns
returns c =
    c.copied.ensures ∙ c.get.ensures.value ∙ ap (λ (k : Key). at_key k c.self.inside.known.entries) c.key_of.ensures
    ∙ ap (λ (es : List (Key × Arg)). at_key (key c.args.code c.args.args.now) es) c.self.view_is
