use Rattle.std.proofs.Common.{◌≡◌, ◌<◌, ◌≤◌, ◌^◌, drop, max}
use Rattle.linear_scan.specs.Placing.{words_used}
use Rattle.bridge_patch.proofs.entry.words_used.Given as goal

abbrev pub invariant-loop-place : goal.invariant-loop-place
invariant-loop-place l = (max l.words (words_used (drop l.place-index l.places)) ≡ words_used l.places) × (words_used (drop l.place-index l.places) < 2 ^ 30) × (16 ≤ l.words)
