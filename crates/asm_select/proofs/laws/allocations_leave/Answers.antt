use Rattle.asm_select.proofs.Asking.{allocations_leave}
use Rattle.asm_select.proofs.laws.allocations_leave.Goals as goal

pub returns : goal.returns
returns c = allocations_leave c.allocations_stand.ensures.stand c.allocations_stand.ensures.address c.bytes_are_taken.ensures.there
