use Rattle.std.proofs.Common.{◌≡◌}
use Rattle.arena_objects.proofs.Heads.{AreSet}
use Rattle.arena_objects.proofs.headers.Headers.new.Given as goal

abbrev pub invariant-loop-k : goal.invariant-loop-k
invariant-loop-k l = (l.shapes ≡ l.table.shapes) × AreSet l.table l.k l.headers

abbrev pub decreases-loop-k : goal.decreases-loop-k
decreases-loop-k l = l.k
