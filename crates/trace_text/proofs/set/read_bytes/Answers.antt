use Rattle.std.proofs.Common.{arith}
use Rattle.trace_text.specs.declared.cut.Until.TheVariants.{Session}
use Rattle.trace_text.proofs.Through.{length-lines-front}
use Rattle.trace_text.proofs.set.read_bytes.Goals as goal

pub read_sections-requires : goal.read_sections-requires
read_sections-requires c = omega (arith, length-lines-front Session c.args.bytes.now c.cut-count.result.0.now c.cut-count.ensures.front, c.requires)
