use Rattle.run_session.proofs.Running.{Ran, MadeAll}
use Rattle.run_session.proofs.session.Session.steps.Given as goal

abbrev pub invariant-loop : goal.invariant-loop
invariant-loop l = record {
  ran : Ran l.a l.fn.self l.self l.counter l.fn.most;
  all : MadeAll l.a l.fn.self l.self l.counter;
}
