use Rattle.std.proofs.Common.{arith}
use Rattle.trace_text.specs.declared.cut.Until.TheVariants.{Section}
use Rattle.trace_text.proofs.Through.{length-lines-front}
use Rattle.trace_text.proofs.set.read_with_table.Goals as goal

pub read_rows-requires : goal.read_rows-requires
read_rows-requires c = omega (arith, length-lines-front Section c.args.text.now c.cut-count.result.0.now c.cut-count.ensures.front, c.requires)
