use Rattle.std.proofs.Common.{◌≡◌, drop}
use Rattle.opt_meaning.specs.Pieces.{preamble}
use Rattle.bridge_patch.specs.Image.{entry_in}
use Rattle.bridge_patch.proofs.image.Image.entry.Given as goal

abbrev pub invariant-loop-here : goal.invariant-loop-here
invariant-loop-here l = entry_in (drop l.here-index l.self.pieces) (preamble l.trace) ≡ entry_in l.self.pieces (preamble l.trace)
