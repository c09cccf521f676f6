use Rattle.std.proofs.Common.{◌≡◌, ℕ, ◌^◌, pos, ◌*ℤ◌, ap, ◌∙◌, rules}
use Rattle.trace_ops.specs.Words.{wrap, shift_of}
use Rattle.trace_ops.proofs.Shifts.{shift-left}
use Rattle.trace_ops.proofs.word.wrap_lshift.Goals as goal

pub returns : goal.returns
returns c =
    let by : c.shift_of.result ≡ shift_of c.args.b = search rules in
    shift-left c.args.a c.shift_of.result c.ranges.a c.shift_of.ensures.few
    ∙ ap (λ (k : ℕ). wrap (c.args.a *ℤ pos (2 ^ k))) by
