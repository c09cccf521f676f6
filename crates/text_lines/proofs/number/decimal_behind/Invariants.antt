use Rattle.std.proofs.Common.{◌≡◌, ◌≤◌, drop}
use Rattle.text_lines.specs.Numbers.{decimal_behind}
use Rattle.text_lines.proofs.number.decimal_behind.Given as goal

abbrev pub invariant-loop-c : goal.invariant-loop-c
invariant-loop-c l = (decimal_behind l.limit l.n (drop l.c-index l.word) ≡ decimal_behind l.limit 0 l.word) × (l.n ≤ l.limit)
