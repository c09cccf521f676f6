use Rattle.asm_select.proofs.Answering.{arguments_are_read, events_are_shown, answers_are_taken, answers_leave}
use Rattle.asm_select.proofs.laws.answers_leave.Goals as goal

pub returns : goal.returns
returns c = record {
  read = arguments_are_read c.walk_finds.ensures.read;
  shown = events_are_shown c.walk_finds.ensures.read c.objects_are_read_back.ensures c.prebuilts_stand.ensures.kinds;
  taken = answers_are_taken;
  leave = answers_leave (record { shifts = c.shifts_multiply.ensures; apart = c.addresses_are_apart.ensures; headers = c.loads_find.ensures.headers; tell = c.spots_lie.ensures.headers; found = c.spots_lie.ensures.found; written = c.spots_lie.ensures.written; lengths = c.spots_lie.ensures.lengths }) c.allocations_stand.ensures.stand c.allocations_stand.ensures.address;
}
