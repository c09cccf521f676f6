use Rattle.std.proofs.Common.{◌≡◌, ◌-◌, ◌≤◌, length, take}
use Rattle.image_text.proofs.reading.read_all.Given as goal

abbrev pub invariant-loop-bytes : goal.invariant-loop-bytes
invariant-loop-bytes g l = (l.bytes.items ≡ take l.at (g.C.Fetch.code l.code)) × (l.at ≤ length (g.C.Fetch.code l.code))

abbrev pub decreases-loop-bytes : goal.decreases-loop-bytes
decreases-loop-bytes g l = length (g.C.Fetch.code l.code) - l.at
