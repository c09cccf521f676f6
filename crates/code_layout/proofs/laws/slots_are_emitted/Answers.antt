use Rattle.code_layout.proofs.Emitted.{emitted_led, noted_jumps, sized_slots, slots_rows}
use Rattle.code_layout.proofs.Standing.{length_led}
use Rattle.code_layout.proofs.laws.slots_are_emitted.Goals as goal

pub returns : goal.returns
returns c = record {
  emitted = λ to p xs. emitted_led to p 0 xs;
  noted = λ p xs. noted_jumps p 0 xs;
  sizes = λ to p xs. (sized_slots xs, length_led to p xs);
  rows = slots_rows;
}
