use Rattle.std.proofs.Common.{rules, ◌≡◌, ◌<◌, false, sym, ◌∙◌}
use Rattle.trace_meaning.specs.Observed.{state_of}
use Rattle.recorded_seen.specs.Sessions.{is_going}
use Rattle.recorded_seen.proofs.After.{after-stepped, after-ended}
use Rattle.recorded_seen.proofs.sessions.run_for.Goals as goal

pub loop-left-preserved : goal.loop-left-preserved
loop-left-preserved c =
    let some : 0 < c.loop-left.left = search rules in
    after-stepped c.loop-left.left c.loop-left.run _ _ some c.in_ok-step_within.ensures c.loop-left.invariant

pub returns-else-is_going : goal.returns-else-is_going
returns-else-is_going c =
    let ended : is_going (state_of c.loop-left.run.set c.loop-left.run.now) ≡ false = search rules in
    sym (after-ended c.recorded_runs.ensures c.loop-left.left c.loop-left.run ended) ∙ c.loop-left.invariant
