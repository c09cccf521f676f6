use Rattle.std.proofs.Common.{◌≡◌, take, map}
use Rattle.opt_pass.specs.Starting.{field_spot}
use Rattle.opt_pass.proofs.stores.field_spots.Given as goal

abbrev pub invariant-loop-field : goal.invariant-loop-field
invariant-loop-field l = l.out.items ≡ map field_spot (take l.field-index l.fields)
