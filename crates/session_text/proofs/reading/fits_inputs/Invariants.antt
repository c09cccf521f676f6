use Rattle.std.proofs.Common.{◌≡◌, drop}
use Rattle.session_text.specs.Reading.{fits_inputs}
use Rattle.session_text.proofs.reading.fits_inputs.Given as goal

abbrev pub invariant-loop-value : goal.invariant-loop-value
invariant-loop-value l = fits_inputs (drop l.value-index l.values) l.rest ≡ fits_inputs l.values l.boxes
