use Rattle.x64_encode.proofs.OneOnly.{one_only}
use Rattle.x64_encode.proofs.laws.one_instruction.Goals as goal

pub returns : goal.returns
returns c = one_only
