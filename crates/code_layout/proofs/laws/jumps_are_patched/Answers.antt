use Rattle.code_layout.proofs.Patching.{jumps_are_patched}
use Rattle.code_layout.proofs.laws.jumps_are_patched.Goals as goal

pub returns : goal.returns
returns c = jumps_are_patched
