use Rattle.std.proofs.Common.{◌≡◌, [], drop, map}
use Rattle.opt_pass.specs.Starting.{with_names, entered_val}
use Rattle.opt_pass.proofs.start.named_by.Given as goal

abbrev pub invariant-loop-k : goal.invariant-loop-k
invariant-loop-k l = with_names l.out (drop l.k l.inputs) (map (entered_val l.entering) (drop l.k l.values)) ≡ with_names [] l.inputs (map (entered_val l.entering) l.values)
