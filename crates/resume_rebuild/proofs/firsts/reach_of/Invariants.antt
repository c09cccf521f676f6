use Rattle.std.proofs.Common.{take}
use Rattle.std.specs.List.{All}
use Rattle.resume_rebuild.specs.Firsts.{IsBelow}
use Rattle.resume_rebuild.proofs.firsts.reach_of.Given as goal

abbrev pub invariant-loop-arg : goal.invariant-loop-arg
invariant-loop-arg l = All (IsBelow l.most) (take l.arg-index l.consts)
