use Rattle.std.proofs.Common.{◌≡◌, drop}
use Rattle.opt_meaning.specs.Rebuilding.{snapshot_in}
use Rattle.run_session.proofs.pieces.snapshot_in.Given as goal

abbrev pub invariant-loop-op : goal.invariant-loop-op
invariant-loop-op l = snapshot_in (drop l.op-index l.ops) l.n ≡ snapshot_in l.ops l.n
