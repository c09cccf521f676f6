use Rattle.linear_scan.proofs.Serves.{places_hold_values}
use Rattle.linear_scan.proofs.laws.places_hold_values.Goals as goal

pub returns : goal.returns
returns c = places_hold_values
