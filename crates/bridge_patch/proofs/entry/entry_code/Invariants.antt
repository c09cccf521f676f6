use Rattle.std.proofs.Common.{◌≡◌, ◌++◌, ◌≤◌, ◌^◌, drop, length}
use Rattle.linear_scan.specs.Placing.{words_used}
use Rattle.bridge_patch.specs.Attached.{entry_code}
use Rattle.bridge_patch.proofs.entry.entry_code.Given as goal

abbrev pub invariant-loop-k : goal.invariant-loop-k
invariant-loop-k l =
    (l.front ++ entry_code (drop l.k l.from) (drop l.k l.to) ≡ entry_code l.from l.to)
    × (words_used (drop l.k l.to) ≤ 2 ^ 27) × (length l.to ≡ length l.from)
