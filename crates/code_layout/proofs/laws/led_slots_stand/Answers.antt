use Rattle.code_layout.proofs.Standing.{led_slots_stand}
use Rattle.code_layout.proofs.laws.led_slots_stand.Goals as goal

pub returns : goal.returns
returns c = led_slots_stand c.spellings_are_short.ensures.least
