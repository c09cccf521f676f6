use Rattle.std.proofs.Common.{◌≡◌, drop}
use Rattle.trace_ops.specs.OpNames.{among}
use Rattle.trace_ops.proofs.op_names.among.Given as goal

abbrev pub invariant-loop-code : goal.invariant-loop-code
invariant-loop-code l = among (drop l.code-index l.codes) l.word ≡ among l.codes l.word
