use Rattle.std.proofs.Common.{◌≡◌, ◌++◌, drop, map}
use Rattle.bridge_patch.specs.Image.{loops_from}
use Rattle.tj_app.specs.Imaging.{entry_of, entries_of}
use Rattle.tj_app.proofs.imaging.entries_of.Given as goal

abbrev pub invariant-loop-k : goal.invariant-loop-k
invariant-loop-k l = l.entries.items ++ map (entry_of l.fn.image) (loops_from l.k (drop l.k l.traces)) ≡ entries_of l.fn.set l.fn.image
